-- Document 01's paragraph "A state is well shaped if ..", with examples on both sides of each of its clauses: a state that breaks that clause and
-- no other, and its neighbour that differs by that one field and is well shaped. `every_clause_tested` of proofs/Laws/Shapes says that every call
-- refuses the first with 1, and none the second.
use Rattle.std.specs.Prelude.{◌≡◌, ◌≢◌, ℕ, ◌+◌, ◌-◌, ◌*◌, set}
use mathlib.Core.List.{List, [], ◌∷◌, ◌++◌, Memᴰ}
use Rattle.rules.specs.declared.Stage.TheVariants.{Absent, Running, Finished, Crashed}
use Rattle.rules.specs.declared.Process.{Process}
use Rattle.rules.specs.declared.Machine.{Machine}
use Rattle.rules.specs.State.{with_process, with_register}
use Rattle.rules.specs.Calls.{number_of, fresh, enter_of, step_of, crash_of, finish_of, look_of}

pub record BothSides : Type 0 where
  pub broken : Machine
  pub neighbour : Machine

-- a state with one field left open, what breaks it there and what does not
abbrev sides : {A : Type 0} → (A → Machine) → A → A → BothSides
sides state bad good = record { broken = state bad; neighbour = state good }

-- One stored number set to whatever is given: the set of row x; what is stored at row x, register i.
abbrev with_row : Machine → ℕ → ℕ → Machine
with_row m x s = record { n = m.n; filled = set m.filled (x - 1) s; values = m.values; processes = m.processes }

abbrev with_cell : Machine → ℕ → ℕ → ℕ → Machine
with_cell m x i v = record { n = m.n; filled = m.filled; values = set m.values (32 * (x - 1) + (i - 1)) v; processes = m.processes }

-- A process by its stage, and its value last. A set is a number: {1} is 1, {2} is 2, {1, 2} is 3, {3} is 4, {1, 2, 3} is 7.
abbrev absent_at : ℕ → Process
absent_at v = record { stage = Absent; value = v }

abbrev running_at : ℕ → ℕ → ℕ → ℕ → Process
running_at x k f v = record { stage = Running x k f; value = v }

abbrev finished_at : ℕ → ℕ → ℕ → Process
finished_at x w v = record { stage = Finished x w; value = v }

abbrev crashed_at : ℕ → ℕ → ℕ → ℕ → Process
crashed_at x k f v = record { stage = Crashed x k f; value = v }

-- Machines of two processes: process 1 has written nothing; row 2; rows 2 and 1, each time with the value v.
abbrev nothing_by1 : Process → Machine
nothing_by1 P = with_process (fresh 2) 1 P

abbrev row2_by1 : ℕ → Process → Machine
row2_by1 v P = with_process (with_register (fresh 2) 2 1 v) 1 P

abbrev rows21_by1 : ℕ → Process → Machine
rows21_by1 v P = with_process (with_register (with_register (fresh 2) 2 1 v) 1 1 v) 1 P

-- and process 2 has written row 2; rows 2 and 1, with 9
abbrev row2_by2 : Machine → Process → Machine
row2_by2 m P = with_process (with_register m 2 2 9) 2 P

abbrev rows21_by2 : Machine → Process → Machine
rows21_by2 m P = with_process (with_register (with_register m 2 2 9) 1 2 9) 2 P

-- "n is 1 to 32"
abbrev pub n_is_in_range : List BothSides
n_is_in_range = sides fresh 0 1 ∷ sides fresh 33 32 ∷ []

-- "rows .. above n .. are all zero": the row after n and the last one, filled by a process whose level is below them; a number stored there
abbrev pub rows_above_are_zero : List BothSides
rows_above_are_zero =
    sides (with_row (nothing_by1 (running_at 2 0 0 0)) 3) 1 0
    ∷ sides (with_row (nothing_by1 (running_at 2 0 0 0)) 32) 1 0
    ∷ sides (with_cell (nothing_by1 (running_at 2 0 0 7)) 3 1) 7 0
    ∷ []

-- ".. slots above n .. are all zero": a process running there, crashed, finished; its register filled; a number stored there; a value, also in
-- the last slot
abbrev pub slots_above_are_zero : List BothSides
slots_above_are_zero =
    sides (with_process (fresh 2) 3) (running_at 2 0 0 0) (absent_at 0)
    ∷ sides (with_process (fresh 2) 3) (crashed_at 2 0 0 0) (absent_at 0)
    ∷ sides (with_process (row2_by2 (row2_by1 7 (running_at 2 1 0 7)) (running_at 2 1 0 9)) 3) (finished_at 2 3 0) (absent_at 0)
    ∷ sides (with_row (fresh 2) 2) 4 0
    ∷ sides (with_cell (fresh 2) 2 3) 7 0
    ∷ sides (λ v. with_process (fresh 2) 3 (absent_at v)) 7 0
    ∷ sides (λ v. with_process (fresh 2) 32 (absent_at v)) 7 0
    ∷ []

-- "absent processes .. are all zero"
abbrev pub absent_are_zero : List BothSides
absent_are_zero = sides (λ v. nothing_by1 (absent_at v)) 7 0 ∷ []

-- "whatever is stored beside an empty register [is] zero": where a process is absent; where it has not written yet, its own value; the last one
abbrev pub beside_empty_is_zero : List BothSides
beside_empty_is_zero =
    sides (with_cell (fresh 2) 2 1) 7 0
    ∷ sides (with_cell (nothing_by1 (running_at 2 0 0 7)) 2 1) 7 0
    ∷ sides (with_cell (row2_by1 7 (running_at 2 1 0 7)) 1 1) 7 0
    ∷ sides (with_cell (fresh 2) 32 32) 7 0
    ∷ []

-- "every entered process has level 1 to n". A finished one at level n + 1 cannot have a view of that size, filled in its row, either.
abbrev pub level_is_in_range : List BothSides
level_is_in_range =
    sides (λ x. rows21_by1 7 (running_at x 1 0 7)) 0 1
    ∷ sides (λ x. nothing_by1 (running_at x 0 0 7)) 3 2
    ∷ sides (λ x. rows21_by1 7 (crashed_at x 1 0 7)) 0 1
    ∷ sides (λ x. nothing_by1 (crashed_at x 0 0 7)) 3 2
    ∷ sides (rows21_by1 7) (finished_at 0 0 7) (finished_at 1 1 7)
    ∷ sides nothing_by1 (finished_at 3 7 7) (running_at 2 0 0 7)
    ∷ []

-- "a running or crashed one has 0 to n accesses at its level"
abbrev pub accesses_are_in_range : List BothSides
accesses_are_in_range =
    sides (λ k. row2_by1 7 (running_at 2 k 1 7)) 3 2
    ∷ sides (λ k. row2_by1 7 (crashed_at 2 k 1 7)) 3 2
    ∷ []

-- "the registers it found filled are among those it has read there": the register that it reads next is not, its own or another's; before the
-- write none is
abbrev pub found_was_read : List BothSides
found_was_read =
    sides (λ k. row2_by1 7 (running_at 2 k 1 7)) 1 2
    ∷ sides (λ k. row2_by1 7 (crashed_at 2 k 1 7)) 1 2
    ∷ sides (λ f. row2_by2 (row2_by1 7 (running_at 2 2 f 7)) (running_at 2 1 0 9)) 3 1
    ∷ sides (λ f. row2_by2 (row2_by1 7 (crashed_at 2 2 f 7)) (running_at 2 1 0 9)) 3 1
    ∷ sides (λ f. with_process (row2_by1 7 (running_at 2 1 0 7)) 2 (running_at 2 0 f 9)) 1 0
    ∷ sides (λ f. with_process (row2_by1 7 (running_at 2 1 0 7)) 2 (crashed_at 2 0 f 9)) 1 0
    ∷ []

-- "and are filled now": a register that is filled in the row above alone
abbrev pub found_is_filled : List BothSides
found_is_filled =
    sides (λ f. rows21_by2 (row2_by1 7 (running_at 2 1 0 7)) (running_at 1 2 f 9)) 1 0
    ∷ sides (λ f. rows21_by2 (row2_by1 7 (running_at 2 1 0 7)) (crashed_at 1 2 f 9)) 1 0
    ∷ []

-- "a finished one has .. a view whose size is its level": smaller, larger
abbrev pub view_has_its_size : List BothSides
view_has_its_size =
    sides (λ w. row2_by2 (row2_by1 7 (finished_at 2 w 7)) (running_at 2 1 0 9)) 1 3
    ∷ sides (λ w. rows21_by2 (rows21_by1 7 (finished_at 1 w 7)) (running_at 1 1 0 9)) 3 1
    ∷ []

-- "all filled in its row": a register that is filled in the row above alone
abbrev pub view_is_filled : List BothSides
view_is_filled = sides (λ w. row2_by2 (rows21_by1 7 (finished_at 1 w 7)) (running_at 2 1 0 9)) 2 1 ∷ []

-- "row x, register i is filled .. exactly if i has entered and has level below x, or level x with at least one access there". Filled, and i is
-- absent; has level x with no access, running, crashed; has level above x, running, crashed, finished
abbrev pub filled_was_written : List BothSides
filled_was_written =
    sides (with_row (fresh 2) 2) 1 0
    ∷ sides (λ k. row2_by1 7 (running_at 2 k 0 7)) 0 1
    ∷ sides (λ k. row2_by1 7 (crashed_at 2 k 0 7)) 0 1
    ∷ sides (λ x. rows21_by1 7 (running_at x 1 0 7)) 2 1
    ∷ sides (λ x. rows21_by1 7 (crashed_at x 1 0 7)) 2 1
    ∷ sides (with_row (row2_by2 (row2_by1 0 (finished_at 2 3 0)) (running_at 2 1 0 9)) 1) 1 0
    ∷ []

-- Empty, and i has level below x; has level x with an access: each running, crashed, finished.
abbrev pub written_is_filled : List BothSides
written_is_filled =
    sides (λ x. nothing_by1 (running_at x 0 0 7)) 1 2
    ∷ sides (λ x. nothing_by1 (crashed_at x 0 0 7)) 1 2
    ∷ sides (with_row (rows21_by1 0 (finished_at 1 1 0)) 2) 0 1
    ∷ sides (λ k. nothing_by1 (running_at 2 k 0 7)) 1 0
    ∷ sides (λ k. nothing_by1 (crashed_at 2 k 0 7)) 1 0
    ∷ sides (with_row (rows21_by2 (rows21_by1 0 (finished_at 1 2 0)) (running_at 1 1 0 9)) 1) 2 3
    ∷ []

-- ".., with i's value, ..": another; 0 for it; another for 0
abbrev pub filled_with_its_value : List BothSides
filled_with_its_value =
    sides (with_cell (row2_by1 7 (running_at 2 1 0 7)) 2 1) 8 7
    ∷ sides (with_cell (row2_by1 7 (running_at 2 1 0 7)) 2 1) 0 7
    ∷ sides (with_cell (row2_by1 0 (running_at 2 1 0 0)) 2 1) 7 0
    ∷ []

-- All of them but the clause of n.
abbrev pub clauses_of_two : List BothSides
clauses_of_two =
    rows_above_are_zero ++ slots_above_are_zero ++ absent_are_zero ++ beside_empty_is_zero ++ level_is_in_range ++ accesses_are_in_range ++ found_was_read
    ++ found_is_filled ++ view_has_its_size ++ view_is_filled ++ filled_was_written ++ written_is_filled ++ filled_with_its_value

abbrev pub every_clause : List BothSides
every_clause = n_is_in_range ++ clauses_of_two

-- The number that a state is answered with, whatever the process and the value, by enter, step, crash, finishing alone and look.
pub record EveryNumber (m : Machine) (Q : ℕ → Type 0) : Type 0 where
  pub enter : (p v : ℕ) → Q (number_of (enter_of m p v).answer)
  pub step : (p : ℕ) → Q (number_of (step_of m p).answer)
  pub crash : (p : ℕ) → Q (number_of (crash_of m p).answer)
  pub finish : (p : ℕ) → Q (number_of (finish_of m p).answer)
  pub look : (p : ℕ) → Q (number_of (look_of m p).answer)

-- "1: state not well shaped", on both sides of every clause.
pub record EveryClauseTested : Type 0 where
  pub broken : (e : BothSides) → Memᴰ e every_clause → EveryNumber e.broken (λ k. k ≡ 1)
  pub neighbour : (e : BothSides) → Memᴰ e every_clause → EveryNumber e.neighbour (λ k. k ≢ 1)
