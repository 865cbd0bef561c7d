-- The calls: document 01's table of numbers, lowest first, and then what is done.
use Rattle.std.specs.Prelude.{ℕ, zero, suc, ◌+◌, ◌-◌, Bool, true, false, ◌&&◌, cond, List, [], ◌∷◌, leb, ltb, eqb, replicate}
use Rattle.sets.specs.Members.{has, size}
use Rattle.sets.specs.Sets.{plus}
use Rattle.rules.specs.declared.Stage.{Stage}
use Rattle.rules.specs.declared.Stage.TheVariants.{Absent, Running, Finished, Crashed}
use Rattle.rules.specs.declared.Standing.{Standing}
use Rattle.rules.specs.declared.Machine.{Machine}
use Rattle.rules.specs.declared.Answer.{Answer}
use Rattle.rules.specs.declared.Answer.TheVariants.{Done, NotShaped, NoProcess, EnteredBefore, NeverEntered, HasCrashed, HasFinished, NoLevelBelow, OutOfRange}
use Rattle.rules.specs.declared.Called.{Called}
use Rattle.rules.specs.declared.Sight.{Sight}
use Rattle.rules.specs.Stands.{nobody, stage_of, value_of, row_of, cell_in}
use Rattle.rules.specs.State.{finished, level_of, made_of, accesses_of, with_process, with_stage, with_register}
use Rattle.rules.specs.Shape.{shaped}

abbrev pub number_of : Answer → ℕ
number_of Done = 0
number_of NotShaped = 1
number_of NoProcess = 2
number_of EnteredBefore = 3
number_of NeverEntered = 4
number_of HasCrashed = 5
number_of HasFinished = 6
number_of NoLevelBelow = 7
number_of OutOfRange = 8

abbrev pub accepted : Called → Bool
accepted c = eqb (number_of c.answer) 0

abbrev pub done : Machine → Called
done m = record { answer = Done; machine = m }

-- a refused call hands back the state it was given
abbrev pub refused : Answer → Machine → Called
refused a m = record { answer = a; machine = m }

-- a machine of n processes, none of which has entered
abbrev pub fresh : ℕ → Machine
fresh n = record { n = n; filled = replicate 32 0; values = replicate 1024 0; processes = replicate 32 nobody }

-- 8
unfoldable pub new_of : ℕ → Called
new_of n = cond (leb 1 n && leb n 32) (done (fresh n)) (refused OutOfRange (fresh 1))

-- 1 and 2, which come before all else
abbrev pub tested : Machine → ℕ → Called → Called
tested m p c = cond (shaped m) (cond (leb 1 p && leb p m.n) c (refused NoProcess m)) (refused NotShaped m)

-- rule 3: entering gives a process its value and puts it at level n with no access made; it touches no register
abbrev pub enter_at : Stage → Machine → ℕ → ℕ → Called
enter_at Absent m p v = done (with_process m p (record { stage = Running m.n 0 0; value = v }))
enter_at (Running x k f) m p v = refused EnteredBefore m
enter_at (Finished x w) m p v = refused EnteredBefore m
enter_at (Crashed x k f) m p v = refused EnteredBefore m

unfoldable pub enter_of : Machine → ℕ → ℕ → Called
enter_of m p v = tested m p (enter_at (stage_of m p) m p v)

-- rule 6: a crashed process never moves again; what it wrote stays
abbrev pub crash_at : Stage → Machine → ℕ → Called
crash_at Absent m p = refused NeverEntered m
crash_at (Running x k f) m p = done (with_stage m p (Crashed x k f))
crash_at (Finished x w) m p = refused HasFinished m
crash_at (Crashed x k f) m p = refused HasCrashed m

unfoldable pub crash_of : Machine → ℕ → Called
crash_of m p = tested m p (crash_at (stage_of m p) m p)

-- rule 4: a read of register j finds what stands there at that step
unfoldable pub reading : ℕ → ℕ → ℕ → ℕ
reading row j found = cond (has row j) (plus found j) found

-- rule 4, the write: the first access at level x
abbrev pub write : Machine → ℕ → ℕ → ℕ → Machine
write m p x f = with_stage (with_register m x p (value_of m p)) p (Running x 1 f)

-- rule 5: with the last read, in the same step, the process counts the registers it found filled
unfoldable pub settle : Machine → ℕ → ℕ → ℕ → Called
settle m p x f =
    cond (eqb (size f) x) (done (with_stage m p (Finished x f)))
    (cond (eqb x 1) (refused NoLevelBelow m) (done (with_stage m p (Running (x - 1) 0 0))))

-- access number k + 1 at level x: the write, or the read of register k
unfoldable pub access : Machine → ℕ → ℕ → ℕ → ℕ → Called
access m p x k f =
    cond (eqb k 0) (done (write m p x f))
    (cond (ltb k m.n) (done (with_stage m p (Running x (k + 1) (reading (row_of m x) k f)))) (settle m p x (reading (row_of m x) k f)))

abbrev pub step_at : Stage → Machine → ℕ → Called
step_at Absent m p = refused NeverEntered m
step_at (Running x k f) m p = access m p x k f
step_at (Finished x w) m p = refused HasFinished m
step_at (Crashed x k f) m p = refused HasCrashed m

unfoldable pub step_of : Machine → ℕ → Called
step_of m p = tested m p (step_at (stage_of m p) m p)

-- after an accepted call, what follows it; a refused one ends there
abbrev pub if_accepted : Called → (Machine → Called) → Called
if_accepted c next = elim (accepted c) [ true ↦ next c.machine | false ↦ c ]

-- k steps of process p, one after another, up to the first that is refused
unfoldable pub steps_of : ℕ → Machine → ℕ → Called
steps_of zero m p = done m
steps_of (suc k) m p = if_accepted (step_of m p) (λ after. steps_of k after p)

-- rule 8: the call at level x makes the accesses that are left there and, unless the process has finished, calls itself at x - 1
unfoldable pub finish_from : ℕ → Machine → ℕ → Called
finish_from zero m p = refused NoLevelBelow m
finish_from (suc x) m p =
    if_accepted (steps_of (m.n + 1 - made_of m.n (stage_of m p)) m p)
    (λ after. elim (finished (stage_of after p)) [ true ↦ done after | false ↦ finish_from x after p ])

-- "If one of these steps would be refused, the call is refused with that number and the state is as at entry."
abbrev pub or_as_at_entry : Machine → Called → Called
or_as_at_entry m c = cond (accepted c) c (refused c.answer m)

abbrev pub finish_at : Stage → Machine → ℕ → Called
finish_at Absent m p = refused NeverEntered m
finish_at (Running x k f) m p = or_as_at_entry m (finish_from x m p)
finish_at (Finished x w) m p = refused HasFinished m
finish_at (Crashed x k f) m p = refused HasCrashed m

unfoldable pub finish_of : Machine → ℕ → Called
finish_of m p = tested m p (finish_at (stage_of m p) m p)

-- A look: stage by name, level, accesses and, if finished, the view.
abbrev pub standing_of : Stage → Standing
standing_of Absent = Standing.Absent
standing_of (Running x k f) = Standing.Running
standing_of (Finished x w) = Standing.Finished
standing_of (Crashed x k f) = Standing.Crashed

abbrev pub view_of : Stage → ℕ
view_of Absent = 0
view_of (Running x k f) = 0
view_of (Finished x w) = w
view_of (Crashed x k f) = 0

-- the value of each process of the view w at level x, process i's at i - 1, and 0 elsewhere: those of the k processes from i on
unfoldable pub row_values : List ℕ → ℕ → ℕ → ℕ → ℕ → List ℕ
row_values values x w i zero = []
row_values values x w i (suc k) = cond (has w i) (cell_in values x i) 0 ∷ row_values values x w (suc i) k

abbrev pub values_of : Machine → ℕ → ℕ → List ℕ
values_of m x w = row_values m.values x w 1 32

abbrev pub looked : Machine → Stage → Sight
looked m s =
    record { answer = Done; standing = standing_of s; level = level_of s; accesses = accesses_of m.n s; view = view_of s; values = values_of m (level_of s) (view_of s) }

-- a look that shows no view
abbrev pub blindly : Answer → Standing → ℕ → ℕ → Sight
blindly a s x k = record { answer = a; standing = s; level = x; accesses = k; view = 0; values = replicate 32 0 }

-- a refused look gives absent, 0, 0 and no view
abbrev pub unseen : Answer → Sight
unseen a = blindly a Standing.Absent 0 0

unfoldable pub look_of : Machine → ℕ → Sight
look_of m p = cond (shaped m) (cond (leb 1 p && leb p m.n) (looked m (stage_of m p)) (unseen NoProcess)) (unseen NotShaped)
