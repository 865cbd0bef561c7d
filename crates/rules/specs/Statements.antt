-- What is proved of the machine's definitions, with the sentence of document 01 above each statement. proofs/Laws proves them.
use Rattle.std.specs.Prelude.{◌≡◌, ◌↔◌, ◌⊎◌, ◌≢◌, Bool, true, false, not, ◌&&◌, ◌||◌, ℕ, ◌+◌, ◌-◌, ◌*◌, ◌≤◌, ◌<◌, ltb, eqb, length, get_or, replicate}
use mathlib.Core.List.{List, [], ◌∷◌, ◌++◌, Memᴰ}
use Rattle.sets.specs.Members.{has, size}
use Rattle.rules.specs.declared.Stage.{Stage}
use Rattle.rules.specs.declared.Stage.TheVariants.{Absent, Running, Finished, Crashed}
use Rattle.rules.specs.declared.Machine.{Machine}
use Rattle.rules.specs.declared.Answer.{Answer}
use Rattle.rules.specs.declared.Answer.TheVariants.{Done, NoLevelBelow}
use Rattle.rules.specs.declared.Standing.{Standing}
use Rattle.rules.specs.declared.Sight.{Sight}
use Rattle.rules.specs.Stands.{process_of, stage_of, value_of, row_of, cell_of, entered}
use Rattle.rules.specs.State.{finished, crashed, level_of, made_of, found_of, accesses_of}
use Rattle.rules.specs.State.{with_process, with_stage, with_register}
use Rattle.rules.specs.Shape.{Held, Shaped, shaped}
use Rattle.sets.specs.Lines.{Line}
use Rattle.rules.specs.Numbers.{always, enter_lines, crash_lines, step_lines, new_lines}
use Rattle.rules.specs.Calls.{number_of, accepted, done, refused, fresh, new_of, enter_of, crash_of, reading, step_of, steps_of}
use Rattle.rules.specs.Calls.{finish_of, look_of}

-- Shape. The test that the code computes is the record of document 01's paragraph.
abbrev pub ShapeIsTested : Type 0
ShapeIsTested = (m : Machine) → (shaped m ≡ true) ↔ Shaped m

-- a well shaped machine of n processes
pub record Meets (n : ℕ) (m : Machine) : Type 0 where
  pub size : m.n ≡ n
  pub held : Held m
  pub shape : Shaped m

-- "Every state that a run leaves meets it": a fresh machine does, and what a call leaves of a machine that does.
pub record EveryStateMeets : Type 0 where
  pub starts : (n : ℕ) → 1 ≤ n → n ≤ 32 → Meets n (fresh n)
  pub enter : (n : ℕ) (m : Machine) → Meets n m → (p v : ℕ) → Meets n (enter_of m p v).machine
  pub step : (n : ℕ) (m : Machine) → Meets n m → (p : ℕ) → Meets n (step_of m p).machine
  pub crash : (n : ℕ) (m : Machine) → Meets n m → (p : ℕ) → Meets n (crash_of m p).machine
  pub finish : (n : ℕ) (m : Machine) → Meets n m → (p : ℕ) → Meets n (finish_of m p).machine

-- Neither 1 nor 2 applies.
pub record Valid (m : Machine) (p : ℕ) : Type 0 where
  pub shape : shaped m ≡ true
  pub low : 1 ≤ p
  pub high : p ≤ m.n

-- what a process at level x has found with the last read there, having found f before it
abbrev pub at_last : Machine → ℕ → ℕ → ℕ
at_last m x f = reading (row_of m x) m.n f

-- "A new machine": of n processes, none of which has entered.
pub record NewMachine : Type 0 where
  pub made : (n : ℕ) → 1 ≤ n → n ≤ 32 → new_of n ≡ done (fresh n)
  pub absent : (n p : ℕ) → stage_of (fresh n) p ≡ Absent

-- Rule 4: "A read finds what stands there at that step." Register j is added to those found exactly if it stands filled in the row.
abbrev pub ReadFinds : Type 0
ReadFinds = (row j found i : ℕ) → has (reading row j found) i ≡ (has found i || (eqb i j && has row i))

-- What a call does, from what stands. Rule 3: "Entering gives a process its value and puts it at level n with no access made." Rule 6: a crash leaves
-- level, accesses and found registers. Rules 4 and 5: the write; a read that is not the last; the last read, which finishes, goes to the next lower
-- level, or is refused with 7.
pub record WhatCallsDo : Type 0 where
  pub enters : (m : Machine) (p : ℕ) → Valid m p → (v : ℕ) → stage_of m p ≡ Absent
      → enter_of m p v ≡ done (with_process m p (record { stage = Running m.n 0 0; value = v }))
  pub crashes : (m : Machine) (p : ℕ) → Valid m p → (x k f : ℕ) → stage_of m p ≡ Running x k f → crash_of m p ≡ done (with_stage m p (Crashed x k f))
  pub writes : (m : Machine) (p : ℕ) → Valid m p → (x f : ℕ) → stage_of m p ≡ Running x 0 f
      → step_of m p ≡ done (with_stage (with_register m x p (value_of m p)) p (Running x 1 f))
  pub reads : (m : Machine) (p : ℕ) → Valid m p → (x k f : ℕ) → stage_of m p ≡ Running x k f → 1 ≤ k → k < m.n
      → step_of m p ≡ done (with_stage m p (Running x (k + 1) (reading (row_of m x) k f)))
  pub finishes : (m : Machine) (p : ℕ) → Valid m p → (x f : ℕ) → stage_of m p ≡ Running x m.n f → size (at_last m x f) ≡ x
      → step_of m p ≡ done (with_stage m p (Finished x (at_last m x f)))
  pub falls : (m : Machine) (p : ℕ) → Valid m p → (x f : ℕ) → stage_of m p ≡ Running x m.n f → size (at_last m x f) ≢ x → 2 ≤ x
      → step_of m p ≡ done (with_stage m p (Running (x - 1) 0 0))
  pub sticks : (m : Machine) (p : ℕ) → Valid m p → (f : ℕ) → stage_of m p ≡ Running 1 m.n f → size (at_last m 1 f) ≢ 1
      → step_of m p ≡ refused NoLevelBelow m

-- a look that gives no view: all that stands beside it is 0
abbrev pub no_view : Answer → Standing → ℕ → ℕ → Sight
no_view a s x k = record { answer = a; standing = s; level = x; accesses = k; view = 0; values = replicate 32 0 }

-- Demand 1: "A refused machine call hands back the state it was given." "A new machine is refused with 8 only, and then a fresh machine of one
-- process is returned." "A refused look gives absent, 0, 0 and no view."
pub record RefusedHandsBack : Type 0 where
  pub enter : (m : Machine) (p v : ℕ) → accepted (enter_of m p v) ≡ false → (enter_of m p v).machine ≡ m
  pub step : (m : Machine) (p : ℕ) → accepted (step_of m p) ≡ false → (step_of m p).machine ≡ m
  pub crash : (m : Machine) (p : ℕ) → accepted (crash_of m p) ≡ false → (crash_of m p).machine ≡ m
  pub finish : (m : Machine) (p : ℕ) → accepted (finish_of m p) ≡ false → (finish_of m p).machine ≡ m
  pub new : (n : ℕ) → accepted (new_of n) ≡ false → (new_of n).machine ≡ fresh 1
  pub look : (m : Machine) (p : ℕ) → number_of (look_of m p).answer ≢ 0 → look_of m p ≡ no_view (look_of m p).answer Standing.Absent 0 0

-- "A look at a process refuses 1, 2 and otherwise gives its stage, level, accesses and, if finished, its view": the accesses by rule 7, and beside the
-- view the value of each of its processes, out of the row of its level, process i's at i - 1, and 0 at every other place.
pub record ShowsView (m : Machine) (x w : ℕ) (l : Sight) : Type 0 where
  pub answer : l.answer ≡ Done
  pub standing : l.standing ≡ Standing.Finished
  pub level : l.level ≡ x
  pub accesses : l.accesses ≡ (m.n + 1) * (m.n - x) + (m.n + 1)
  pub view : l.view ≡ w
  pub places : length l.values ≡ 32
  pub value : (i : ℕ) → has w i ≡ true → get_or l.values (i - 1) 0 ≡ cell_of m x i
  pub other : (i : ℕ) → 1 ≤ i → i ≤ 32 → has w i ≡ false → get_or l.values (i - 1) 0 ≡ 0

pub record WhatLooksShow : Type 0 where
  -- "the level of an absent process is 0"
  pub absent : (m : Machine) (p : ℕ) → Valid m p → stage_of m p ≡ Absent → look_of m p ≡ no_view Done Standing.Absent 0 0
  pub running : (m : Machine) (p : ℕ) → Valid m p → (x k f : ℕ) → stage_of m p ≡ Running x k f
      → look_of m p ≡ no_view Done Standing.Running x ((m.n + 1) * (m.n - x) + k)
  pub crashed : (m : Machine) (p : ℕ) → Valid m p → (x k f : ℕ) → stage_of m p ≡ Crashed x k f
      → look_of m p ≡ no_view Done Standing.Crashed x ((m.n + 1) * (m.n - x) + k)
  pub finished : (m : Machine) (p : ℕ) → Valid m p → (x w : ℕ) → stage_of m p ≡ Finished x w → ShowsView m x w (look_of m p)

-- "Given exactly when", of a call's lines in their order: the number k where a line of that number applies and no line before it does, and 0 where
-- no line applies.
abbrev pub none : List Line → Bool
none [] = true
none (l ∷ ls) = not l.applies && none ls

pub record FirstLine (k : ℕ) (ls : List Line) : Type 0 where
  pub before : List Line
  pub line : Line
  pub after : List Line
  pub all : ls ≡ before ++ line ∷ after
  pub number : line.number ≡ k
  pub applies : line.applies ≡ true
  pub earlier : none before ≡ true

pub record ExactlyWhen (a : Answer) (ls : List Line) : Type 0 where
  pub some : (k : ℕ) → k ≢ 0 → (number_of a ≡ k) ↔ FirstLine k ls
  pub nothing : (number_of a ≡ 0) ↔ (none ls ≡ true)

-- Finishing alone (rule 8) "makes its steps until it finishes": so many single steps of p are accepted, and then it has finished.
pub record Finishes (m : Machine) (p : ℕ) : Type 0 where
  pub steps : ℕ
  pub made : accepted (steps_of steps m p) ≡ true
  pub ended : finished (stage_of (steps_of steps m p).machine p) ≡ true

-- "If one of these steps would be refused": so many are accepted, and the next is refused with 7.
pub record Sticks (m : Machine) (p : ℕ) : Type 0 where
  pub steps : ℕ
  pub made : accepted (steps_of steps m p) ≡ true
  pub next : number_of (step_of (steps_of steps m p).machine p).answer ≡ 7

-- 1, 2, 4, 5 and 6 as for a crash; where none of them applies, "the call is refused with that number", or done.
pub record ExactlyWhenAlone (m : Machine) (p : ℕ) : Type 0 where
  pub some : (k : ℕ) → k ≢ 0 → k ≢ 7 → (number_of (finish_of m p).answer ≡ k) ↔ FirstLine k (crash_lines m p)
  pub seven : (number_of (finish_of m p).answer ≡ 7) ↔ ((none (crash_lines m p) ≡ true) × Sticks m p)
  pub nothing : (number_of (finish_of m p).answer ≡ 0) ↔ ((none (crash_lines m p) ≡ true) × Finishes m p)

-- `Valid` is that neither 1 nor 2 applies.
abbrev pub ValidIsTested : Type 0
ValidIsTested = (m : Machine) (p : ℕ) → Valid m p ↔ (none (always m p) ≡ true)

-- Document 01's table of the numbers 0 to 8, call by call.
pub record TableOfNumbers : Type 0 where
  pub enter : (m : Machine) (p v : ℕ) → ExactlyWhen (enter_of m p v).answer (enter_lines m p)
  pub step : (m : Machine) (p : ℕ) → ExactlyWhen (step_of m p).answer (step_lines m p)
  pub crash : (m : Machine) (p : ℕ) → ExactlyWhen (crash_of m p).answer (crash_lines m p)
  -- of every state that the declared types hold
  pub finish : (m : Machine) → Held m → (p : ℕ) → ExactlyWhenAlone m p
  -- "A look at a process refuses 1, 2"
  pub look : (m : Machine) (p : ℕ) → ExactlyWhen (look_of m p).answer (always m p)
  -- "A new machine is refused with 8 only"
  pub new : (n : ℕ) → ExactlyWhen (new_of n).answer (new_lines n)

-- "The lowest number that applies is given": the numbers of every call's lines ascend, and so the number of the first line that applies is the
-- lowest of all that apply. (Finishing alone has the lines of a crash and then 7, as a step has.) k is below the numbers of all the lines:
abbrev pub below : ℕ → List Line → Bool
below k [] = true
below k (l ∷ ls) = ltb k l.number && below k ls

abbrev pub ascending : List Line → Bool
ascending [] = true
ascending (l ∷ ls) = below l.number ls && ascending ls

pub record LinesAscend : Type 0 where
  pub enter : (m : Machine) (p : ℕ) → ascending (enter_lines m p) ≡ true
  pub step : (m : Machine) (p : ℕ) → ascending (step_lines m p) ≡ true
  pub crash : (m : Machine) (p : ℕ) → ascending (crash_lines m p) ≡ true
  pub look : (m : Machine) (p : ℕ) → ascending (always m p) ≡ true
  pub lowest : (k : ℕ) (ls : List Line) → ascending ls ≡ true → FirstLine k ls → (l : Line) → Memᴰ l ls → l.applies ≡ true → k ≤ l.number

-- Demand 2: "An accepted enter or crash does to its task what rules 2, 3 and 6 of document 01 say, the batch number kept as it was given, and
-- changes nothing else." `m'` is what a call of process p leaves of m.
pub record OthersStay (m m' : Machine) (p : ℕ) : Type 0 where
  pub size : m'.n ≡ m.n
  pub others : (q : ℕ) → 1 ≤ q → q ≢ p → process_of m' q ≡ process_of m q

pub record RegistersStay (m m' : Machine) : Type 0 where
  pub rows : m'.filled ≡ m.filled
  pub cells : m'.values ≡ m.values

pub record EnterEffect (m m' : Machine) (p v : ℕ) : Type 0 where
  pub value : value_of m' p ≡ v
  pub stage : stage_of m' p ≡ Running m.n 0 0
  pub rest : OthersStay m m' p
  pub registers : RegistersStay m m'

pub record CrashEffect (m m' : Machine) (p : ℕ) : Type 0 where
  pub never_moves : crashed (stage_of m' p) ≡ true
  pub level : level_of (stage_of m' p) ≡ level_of (stage_of m p)
  pub made : made_of m.n (stage_of m' p) ≡ made_of m.n (stage_of m p)
  pub found : found_of (stage_of m' p) ≡ found_of (stage_of m p)
  pub value : value_of m' p ≡ value_of m p
  pub rest : OthersStay m m' p
  pub registers : RegistersStay m m'

-- "An accepted step makes one register access": its first access at a level fills its own register in the row of that level, with its value; any
-- other changes no register.
pub record StepEffect (m m' : Machine) (p : ℕ) : Type 0 where
  pub value : value_of m' p ≡ value_of m p
  pub rest : OthersStay m m' p
  pub first : made_of m.n (stage_of m p) ≡ 0
      → (has (row_of m' (level_of (stage_of m p))) p ≡ true) × (cell_of m' (level_of (stage_of m p)) p ≡ value_of m p)
  pub elsewhere : (y i : ℕ) → 1 ≤ y → y ≤ 32 → 1 ≤ i → i ≤ 32 → (y ≢ level_of (stage_of m p)) ⊎ (i ≢ p)
      → (has (row_of m' y) i ≡ has (row_of m y) i) × (cell_of m' y i ≡ cell_of m y i)
  pub later : made_of m.n (stage_of m p) ≢ 0 → RegistersStay m m'

pub record EffectsOfCalls : Type 0 where
  pub enter : (m : Machine) → Held m → (p v : ℕ) → accepted (enter_of m p v) ≡ true → EnterEffect m (enter_of m p v).machine p v
  pub crash : (m : Machine) → Held m → (p : ℕ) → accepted (crash_of m p) ≡ true → CrashEffect m (crash_of m p).machine p
  pub step : (m : Machine) → Held m → (p : ℕ) → accepted (step_of m p) ≡ true → StepEffect m (step_of m p).machine p

-- Rule 7: "Accesses of a process = (n+1)(n-level) + accesses at this level, where a finished process has n+1 at its level. Absent: 0." Each accepted
-- step is one access more; an enter and a crash make none. A process makes at most n(n+1).
pub record AccessesOfCalls : Type 0 where
  pub sum : (n : ℕ) (s : Stage) → entered s ≡ true → accesses_of n s ≡ (n + 1) * (n - level_of s) + made_of n s
  pub whole : (n x w : ℕ) → made_of n (Finished x w) ≡ n + 1
  pub absent : (n : ℕ) → accesses_of n Absent ≡ 0
  pub enter : (m : Machine) → Held m → (p v : ℕ) → accepted (enter_of m p v) ≡ true
      → (accesses_of m.n (stage_of m p) ≡ 0) × (accesses_of m.n (stage_of (enter_of m p v).machine p) ≡ 0)
  pub step : (m : Machine) → Held m → (p : ℕ) → accepted (step_of m p) ≡ true
      → accesses_of m.n (stage_of (step_of m p).machine p) ≡ accesses_of m.n (stage_of m p) + 1
  pub crash : (m : Machine) → Held m → (p : ℕ) → accepted (crash_of m p) ≡ true
      → accesses_of m.n (stage_of (crash_of m p).machine p) ≡ accesses_of m.n (stage_of m p)
  pub finished : (m : Machine) → Shaped m → (p : ℕ) → 1 ≤ p → p ≤ m.n → finished (stage_of m p) ≡ true
      → accesses_of m.n (stage_of m p) ≡ (m.n + 1) * (m.n - size (found_of (stage_of m p)) + 1)
  pub most : (m : Machine) → Shaped m → (p : ℕ) → 1 ≤ p → p ≤ m.n → accesses_of m.n (stage_of m p) ≤ m.n * (m.n + 1)

-- Rule 8: "It equals that many single steps": as many as finish the process, which are the accesses that it makes. A refused one leaves the state
-- "as at entry": `RefusedHandsBack`.
pub record FinishingAlone : Type 0 where
  pub equals : (m : Machine) → Held m → (p : ℕ) → accepted (finish_of m p) ≡ true → (s : Finishes m p) → finish_of m p ≡ steps_of s.steps m p
  pub count : (m : Machine) → Held m → (p : ℕ) → accepted (finish_of m p) ≡ true → (s : Finishes m p)
      → accesses_of m.n (stage_of (finish_of m p).machine p) ≡ accesses_of m.n (stage_of m p) + s.steps
