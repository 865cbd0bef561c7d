-- Document 01's examples P1 to P8, and its others of machine calls, as one table: where an example starts, the calls made one after another, and
-- what must hold then.
use Rattle.std.specs.Prelude.{◌≡◌, Bool, true, false, ◌&&◌, List, [], ◌∷◌, ◌++◌, ℕ, suc, eqb}
use Rattle.sets.specs.Members.{has}
use Rattle.rules.specs.declared.Stage.TheVariants.{Running}
use Rattle.rules.specs.declared.Standing.{Standing}
use Rattle.rules.specs.declared.Machine.{Machine}
use Rattle.rules.specs.declared.Called.{Called}
use Rattle.rules.specs.declared.Sight.{Sight}
use Rattle.rules.specs.State.{with_process, with_register}
use Rattle.rules.specs.Calls.{number_of, done, fresh, new_of, enter_of, step_of, crash_of, finish_of, look_of}

-- a call of document 01, finishing alone among them (a list of calls, of demand 3, has none)
pub data MachineCall : Type 0 where
  enters : ℕ → ℕ → MachineCall
  steps crashes alone : ℕ → MachineCall

-- a pair of a view
pub data Seen : Type 0 where
  ◌∶◌ : ℕ → ℕ → Seen

infix 90 ◌∶◌
pub data Fact : Type 0 where
  -- the last call answered with this number
  answers : ℕ → Fact
  -- the machine has so many processes
  counts : ℕ → Fact
  -- a look at a process gives this stage, level and accesses
  stands : ℕ → Standing → ℕ → ℕ → Fact
  -- and this view
  sees : ℕ → List Seen → Fact

pub data Start : Type 0 where
  new : ℕ → Start
  state : Machine → Start

pub record Example : Type 0 where
  pub start : Start
  pub calls : List MachineCall
  pub facts : List Fact

-- Whether an example passes, by what a call and a look answer.
unfoldable pub answer_to : Machine → MachineCall → Called
answer_to m (enters p v) = enter_of m p v
answer_to m (steps p) = step_of m p
answer_to m (crashes p) = crash_of m p
answer_to m (alone p) = finish_of m p

abbrev pub started : Start → Called
started (new n) = new_of n
started (state m) = done m

unfoldable pub calls_from : (Machine → MachineCall → Called) → Called → List MachineCall → Called
calls_from call c [] = c
calls_from call c (a ∷ rest) = calls_from call (call c.machine a) rest

abbrev pub standing_code : Standing → ℕ
standing_code Standing.Absent = 0
standing_code Standing.Running = 1
standing_code Standing.Finished = 2
standing_code Standing.Crashed = 3

-- the pairs of a view, from process i on, whose values are given
unfoldable pub pairs_of : ℕ → ℕ → List ℕ → List Seen
pairs_of w i [] = []
pairs_of w i (v ∷ vs) = elim (has w i) [ true ↦ i ∶ v ∷ pairs_of w (suc i) vs | false ↦ pairs_of w (suc i) vs ]

abbrev pub same_seen : Seen → Seen → Bool
same_seen (i ∶ v) (j ∶ w) = eqb i j && eqb v w

unfoldable pub same_pairs : List Seen → List Seen → Bool
same_pairs [] [] = true
same_pairs [] (t ∷ ts) = false
same_pairs (s ∷ ss) [] = false
same_pairs (s ∷ ss) (t ∷ ts) = same_seen s t && same_pairs ss ts

abbrev pub stands_in : Sight → Standing → ℕ → ℕ → Bool
stands_in l s x k = eqb (standing_code l.standing) (standing_code s) && eqb l.level x && eqb l.accesses k

abbrev pub sees_in : Sight → List Seen → Bool
sees_in l view = same_pairs (pairs_of l.view 1 l.values) view

unfoldable pub holds : (Machine → ℕ → Sight) → Called → Fact → Bool
holds look c (answers k) = eqb (number_of c.answer) k
holds look c (counts n) = eqb c.machine.n n
holds look c (stands p s x k) = stands_in (look c.machine p) s x k
holds look c (sees p view) = sees_in (look c.machine p) view

unfoldable pub hold : (Machine → ℕ → Sight) → Called → List Fact → Bool
hold look c [] = true
hold look c (f ∷ fs) = holds look c f && hold look c fs

abbrev pub passes_by : (Machine → MachineCall → Called) → (Machine → ℕ → Sight) → Example → Bool
passes_by call look r = hold look (calls_from call (started r.start) r.calls) r.facts

abbrev pub passes : Example → Bool
passes = passes_by answer_to look_of

unfoldable pub all_pass : List Example → Bool
all_pass [] = true
all_pass (r ∷ rs) = passes r && all_pass rs

-- The examples, in document 01's words.
abbrev example : Start → List MachineCall → List Fact → Example
example s a f = record { start = s; calls = a; facts = f }

-- "P1 n = 0 and n = 33: 8. n = 32: done."
abbrev pub p1 : List Example
p1 =
    example (new 0) [] (answers 8 ∷ counts 1 ∷ [])
    ∷ example (new 33) [] (answers 8 ∷ counts 1 ∷ [])
    ∷ example (new 32) [] (answers 0 ∷ counts 32 ∷ [])
    ∷ []

-- "P2 n = 1, value 0: two steps, finished, level 1, view 1:0."
abbrev pub p2 : List Example
p2 = example (new 1) (enters 1 0 ∷ steps 1 ∷ steps 1 ∷ []) (answers 0 ∷ stands 1 Standing.Finished 1 2 ∷ sees 1 (1 ∶ 0 ∷ []) ∷ []) ∷ []

-- "P3 the printed run": 1 enters with 7 and 2 with 9; three steps of 1, three of 2, three of 1; the twelfth order is refused.
abbrev pub p3 : List Example
p3 =
    example (new 2)
    (enters 1 7 ∷ enters 2 9 ∷ steps 1 ∷ steps 1 ∷ steps 1 ∷ steps 2 ∷ steps 2 ∷ steps 2 ∷ steps 1 ∷ steps 1 ∷ steps 1 ∷ steps 2 ∷ [])
    (answers 6 ∷ stands 1 Standing.Finished 1 6 ∷ sees 1 (1 ∶ 7 ∷ []) ∷ stands 2 Standing.Finished 2 3 ∷ sees 2 (1 ∶ 7 ∷ 2 ∶ 9 ∷ []) ∷ [])
    ∷ []

-- "P4 n = 2: write 1, write 2, all reads of 1, all of 2: both finish at level 2 after 3 accesses."
abbrev pub p4 : List Example
p4 =
    example (new 2) (enters 1 7 ∷ enters 2 9 ∷ steps 1 ∷ steps 2 ∷ steps 1 ∷ steps 1 ∷ steps 2 ∷ steps 2 ∷ [])
    (answers 0 ∷ stands 1 Standing.Finished 2 3 ∷ stands 2 Standing.Finished 2 3 ∷ [])
    ∷ []

-- "P5 n = 2: 1 writes and reads register 1; 2 writes; 1 reads register 2: 1 finishes at level 2."
abbrev pub p5 : List Example
p5 =
    example (new 2) (enters 1 7 ∷ enters 2 9 ∷ steps 1 ∷ steps 1 ∷ steps 2 ∷ steps 1 ∷ [])
    (answers 0 ∷ stands 1 Standing.Finished 2 3 ∷ sees 1 (1 ∶ 7 ∷ 2 ∶ 9 ∷ []) ∷ [])
    ∷ []

-- "P6 n = 3, processes alone in order 1, 2, 3: levels 1, 2, 3; accesses 12, 8, 4."
abbrev pub p6 : List Example
p6 =
    example (new 3) (enters 1 7 ∷ enters 2 8 ∷ enters 3 9 ∷ alone 1 ∷ alone 2 ∷ alone 3 ∷ [])
    (answers 0 ∷ stands 1 Standing.Finished 1 12 ∷ stands 2 Standing.Finished 2 8 ∷ stands 3 Standing.Finished 3 4 ∷ [])
    ∷ []

-- "P7 n = 3: 1 writes and crashes; 2 alone ends at level 1 after 12; 3 alone ends at level 3 after 4, and its view has 1, 2, 3."
abbrev pub p7 : List Example
p7 =
    example (new 3) (enters 1 7 ∷ enters 2 8 ∷ enters 3 9 ∷ steps 1 ∷ crashes 1 ∷ alone 2 ∷ alone 3 ∷ [])
    (answers 0 ∷ stands 1 Standing.Crashed 3 1 ∷ stands 2 Standing.Finished 1 12 ∷ stands 3 Standing.Finished 3 4
    ∷ sees 3 (1 ∶ 7 ∷ 2 ∶ 8 ∷ 3 ∶ 9 ∷ []) ∷ [])
    ∷ []

-- "P8 n = 2, both at level 1, both written there, process 1 has read register 1 and found it filled: its next step is 7." No run leaves this
-- state; it is well shaped (`crowded-shaped` of proofs/Laws/Examples).
abbrev both_written : Machine
both_written = with_register (with_register (with_register (with_register (fresh 2) 2 1 7) 2 2 9) 1 1 7) 1 2 9

abbrev pub crowded : Machine
crowded =
    with_process (with_process both_written 1 (record { stage = Running 1 2 1; value = 7 })) 2 (record { stage = Running 1 1 0; value = 9 })

-- 7 is "a count other than 1": 0 too. n = 2, process 1 alone at level 1 has read register 1 and not found it. No run leaves this state either.
abbrev pub lonely : Machine
lonely = with_process (with_register (with_register (fresh 2) 2 1 7) 1 1 7) 1 (record { stage = Running 1 2 0; value = 7 })

abbrev pub p8 : List Example
p8 =
    example (state crowded) (steps 1 ∷ []) (answers 7 ∷ stands 1 Standing.Running 1 5 ∷ [])
    ∷ example (state crowded) (alone 1 ∷ []) (answers 7 ∷ stands 1 Standing.Running 1 5 ∷ [])
    ∷ example (state lonely) (steps 1 ∷ []) (answers 7 ∷ stands 1 Standing.Running 1 5 ∷ [])
    ∷ example (state lonely) (alone 1 ∷ []) (answers 7 ∷ stands 1 Standing.Running 1 5 ∷ [])
    ∷ []

-- "Step of a process that never entered: 4; crashed: 5; finished: 6; number 0: 2." And the same of the other calls; 3 of a second enter, whatever
-- became of the process. A refused call changes nothing: what it would change is looked at after it.
abbrev pub refusals : List Example
refusals =
    example (new 2) (steps 1 ∷ []) (answers 4 ∷ stands 1 Standing.Absent 0 0 ∷ [])
    ∷ example (new 2) (enters 1 7 ∷ crashes 1 ∷ steps 1 ∷ []) (answers 5 ∷ stands 1 Standing.Crashed 2 0 ∷ [])
    ∷ example (new 1) (enters 1 7 ∷ steps 1 ∷ steps 1 ∷ steps 1 ∷ []) (answers 6 ∷ stands 1 Standing.Finished 1 2 ∷ sees 1 (1 ∶ 7 ∷ []) ∷ [])
    ∷ example (new 2) (steps 0 ∷ []) (answers 2 ∷ [])
    ∷ example (new 2) (steps 3 ∷ []) (answers 2 ∷ [])
    ∷ example (new 2) (crashes 1 ∷ []) (answers 4 ∷ stands 1 Standing.Absent 0 0 ∷ [])
    ∷ example (new 2) (enters 2 0 ∷ crashes 2 ∷ crashes 2 ∷ []) (answers 5 ∷ stands 2 Standing.Crashed 2 0 ∷ [])
    ∷ example (new 1) (enters 1 7 ∷ steps 1 ∷ steps 1 ∷ crashes 1 ∷ []) (answers 6 ∷ stands 1 Standing.Finished 1 2 ∷ sees 1 (1 ∶ 7 ∷ []) ∷ [])
    ∷ example (new 2) (crashes 0 ∷ []) (answers 2 ∷ [])
    ∷ example (new 2) (crashes 3 ∷ []) (answers 2 ∷ [])
    ∷ example (new 2) (alone 2 ∷ []) (answers 4 ∷ stands 2 Standing.Absent 0 0 ∷ [])
    ∷ example (new 2) (enters 1 7 ∷ crashes 1 ∷ alone 1 ∷ []) (answers 5 ∷ stands 1 Standing.Crashed 2 0 ∷ [])
    ∷ example (new 1) (enters 1 7 ∷ alone 1 ∷ alone 1 ∷ []) (answers 6 ∷ stands 1 Standing.Finished 1 2 ∷ sees 1 (1 ∶ 7 ∷ []) ∷ [])
    ∷ example (new 2) (alone 0 ∷ []) (answers 2 ∷ [])
    ∷ example (new 2) (alone 3 ∷ []) (answers 2 ∷ [])
    ∷ example (new 2) (enters 2 5 ∷ enters 2 6 ∷ []) (answers 3 ∷ stands 2 Standing.Running 2 0 ∷ [])
    ∷ example (new 1) (enters 1 5 ∷ steps 1 ∷ steps 1 ∷ enters 1 6 ∷ []) (answers 3 ∷ stands 1 Standing.Finished 1 2 ∷ sees 1 (1 ∶ 5 ∷ []) ∷ [])
    ∷ example (new 2) (enters 1 5 ∷ steps 1 ∷ crashes 1 ∷ enters 1 6 ∷ []) (answers 3 ∷ stands 1 Standing.Crashed 2 1 ∷ [])
    ∷ example (new 2) (enters 0 5 ∷ []) (answers 2 ∷ [])
    ∷ example (new 2) (enters 3 5 ∷ []) (answers 2 ∷ [])
    ∷ []

-- On from a refusal and from the middle of a level; no view but of a finished process.
abbrev pub others : List Example
others =
    -- the first value is the one that is written
    example (new 1) (enters 1 5 ∷ enters 1 6 ∷ steps 1 ∷ steps 1 ∷ []) (answers 0 ∷ sees 1 (1 ∶ 5 ∷ []) ∷ [])
    -- P5, its last read made by finishing alone
    ∷ example (new 2) (enters 1 7 ∷ enters 2 9 ∷ steps 1 ∷ steps 1 ∷ steps 2 ∷ alone 1 ∷ [])
    (answers 0 ∷ stands 1 Standing.Finished 2 3 ∷ sees 1 (1 ∶ 7 ∷ 2 ∶ 9 ∷ []) ∷ stands 2 Standing.Running 2 1 ∷ [])
    -- a running and a crashed process have found a register, and have no view
    ∷ example (new 2) (enters 1 7 ∷ steps 1 ∷ steps 1 ∷ []) (answers 0 ∷ stands 1 Standing.Running 2 2 ∷ sees 1 [] ∷ stands 2 Standing.Absent 0 0 ∷ [])
    ∷ example (new 2) (enters 1 7 ∷ steps 1 ∷ steps 1 ∷ crashes 1 ∷ []) (answers 0 ∷ stands 1 Standing.Crashed 2 2 ∷ sees 1 [] ∷ [])
    ∷ []

abbrev pub table : List Example
table = p1 ++ p2 ++ p3 ++ p4 ++ p5 ++ p6 ++ p7 ++ p8 ++ refusals ++ others

abbrev pub EveryExamplePasses : Type 0
EveryExamplePasses = all_pass table ≡ true
