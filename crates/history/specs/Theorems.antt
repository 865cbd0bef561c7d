-- What holds of lists of calls, as statements that proofs/Theorems proves: demand 3; demand 2's sentences on calls in the terms of Fig. 8.16; what a look
-- shows; and document 01's rules 2, 6 and 7 and numbers 1 and 7 over a whole run.
use Rattle.std.specs.Prelude.{◌≡◌, ◌⊎◌, ◌↔◌, ◌≢◌, true, false, ℕ, zero, suc, ◌+◌, ◌-◌, ◌*◌, ◌≤◌, length, get_or, replicate}
use mathlib.Core.List.{List, ◌++◌, Memᴰ}
use Rattle.sets.specs.Members.{has, count, size}
use Rattle.sets.specs.Sets.{within}
use Rattle.sets.specs.Immediate.{Immediate}
use Rattle.rules.specs.declared.Machine.{Machine}
use Rattle.rules.specs.Stands.{process_of, stage_of, entered}
use Rattle.rules.specs.State.{finished, crashed, found_of, accesses_of}
use Rattle.rules.specs.Shape.{Held, Shaped}
use Rattle.rules.specs.Calls.{number_of, accepted, finish_of, look_of}
use Rattle.rules.specs.Statements.{Meets}
use Rattle.world.specs.Programs.{holds, returns}
use Rattle.world.specs.World.{takes, does}
use Rattle.history.specs.Runs.{Call, steps, answer, after, runs, accepted_steps, all_steps, reached, given, has_entered}
use Rattle.history.specs.Figure.{Pair, figure}
use Rattle.history.specs.Demand.{begun}
use Rattle.history.specs.AsWorld.{register, program_of, world_of}
use Rattle.history.specs.Views.{Has, View}

-- Demand 2: "An accepted step makes one register access and leaves the machine as the published recursive algorithm does." Of any well shaped
-- state that the declared types hold, whether a run leaves it or not: the world of Fig. 8.16 takes a call that the machine accepts, and what the
-- machine is after it is what the call does to that world. So a step makes the first access of what the process has yet to do, on the registers as
-- they stand; an enter puts the process at line 1; a crashed process does nothing more; and all else stays.
pub record FiguresCall (m : Machine) (c : Call) : Type 0 where
  pub takes : takes (figure m.n) (world_of m) c ≡ true
  pub does : world_of (after m c) ≡ does (figure m.n) (world_of m) c

abbrev pub CallIsFigures : Type 0
CallIsFigures = (m : Machine) → Held m → (c : Call) → accepted (answer m c) ≡ true → FiguresCall m c

-- The view of a finished process is the list of pairs that the figure returns.
pub record Returned (m : Machine) (p : ℕ) : Type 0 where
  pub list : List Pair
  pub returned : program_of m p ≡ returns list
  pub count : length list ≡ size (found_of (stage_of m p))
  pub pairs : (j v : ℕ) → View m p j v ↔ Memᴰ (record { process = j; value = v }) list

abbrev pub ViewIsReturned : Type 0
ViewIsReturned = (m : Machine) → Shaped m → (p : ℕ) → Has m p → Returned m p

-- And it is what a look at the process gives, "if finished, its view": the same pairs, of any well shaped state.
abbrev pub LookShowsView : Type 0
LookShowsView = (m : Machine) → Shaped m → (i : ℕ) → Has m i → (j v : ℕ)
    → View m i j v ↔ ((has (look_of m i).view j ≡ true) × (get_or (look_of m i).values (j - 1) 0 ≡ v))

-- Demand 3: "Take any list of enters, steps and crashes from a fresh machine of n tasks, refused calls among them."
abbrev pub OfEveryRun : (ℕ → List Call → Type 0) → Type 0
OfEveryRun P = (n : ℕ) → 1 ≤ n → n ≤ 32 → (cs : List Call) → P n cs

-- Document 01: "Every state that a run leaves meets it."
abbrev pub EveryStateShaped : Type 0
EveryStateShaped = OfEveryRun λ n cs. Meets n (runs n cs)

-- Document 01: "so no run is refused with 1"; "Refusal 7 comes only from a state that no run reaches".
pub record NeitherOneNorSeven (n : ℕ) (cs : List Call) : Type 0 where
  pub one : (c : Call) → number_of (answer (runs n cs) c).answer ≢ 1
  pub seven : (c : Call) → number_of (answer (runs n cs) c).answer ≢ 7

abbrev pub NeverOneNorSeven : Type 0
NeverOneNorSeven = OfEveryRun NeitherOneNorSeven

-- Nor is finishing alone, after any run.
abbrev pub AloneNeverOneNorSeven : Type 0
AloneNeverOneNorSeven = OfEveryRun λ n cs. (p : ℕ) → (number_of (finish_of (runs n cs) p).answer ≢ 1) × (number_of (finish_of (runs n cs) p).answer ≢ 7)

-- "For each x from 1 to n, at most x tasks ever reach level x."
abbrev pub AtMostXReachX : Type 0
AtMostXReachX = OfEveryRun λ n cs. (x : ℕ) → 1 ≤ x → x ≤ n → count (reached n cs x) n ≤ x

-- To reach a level is to have begun the figure's rec_update_snapshot there.
abbrev pub ReachedIsBegun : Type 0
ReachedIsBegun = OfEveryRun λ n cs. (x p : ℕ) → 1 ≤ x → 1 ≤ p → p ≤ n → reached n cs x p ≡ begun n cs x p

-- "The lists of all finished tasks obey the three properties": self_inclusion, containment, simultaneity.
abbrev pub ThreeProperties : Type 0
ThreeProperties = OfEveryRun λ n cs. Immediate (Has (runs n cs)) (View (runs n cs)) (given n cs)

-- The same of the sets of processes alone, as the machine holds them.
pub record OfSets (m : Machine) : Type 0 where
  pub self_inclusion : (i : ℕ) → Has m i → has (found_of (stage_of m i)) i ≡ true
  pub containment : (i j : ℕ) → Has m i → Has m j
      → (within (found_of (stage_of m i)) (found_of (stage_of m j)) ≡ true) ⊎ (within (found_of (stage_of m j)) (found_of (stage_of m i)) ≡ true)
  pub simultaneity : (i j : ℕ) → Has m i → Has m j
      → has (found_of (stage_of m i)) j ≡ true
      → has (found_of (stage_of m j)) i ≡ true
      → found_of (stage_of m i) ≡ found_of (stage_of m j)

abbrev pub ThreePropertiesOfSets : Type 0
ThreePropertiesOfSets = OfEveryRun λ n cs. OfSets (runs n cs)

-- Every pair (j, v) in a list is one that j was given at its accepted enter.
abbrev pub ViewsAreGiven : Type 0
ViewsAreGiven = OfEveryRun λ n cs. (i j v : ℕ) → Has (runs n cs) i → View (runs n cs) i j v → v ≡ given n cs j

-- "A task that finished with s tasks in its list has had exactly (n+1)(n-s+1) accepted steps, counted from the list of calls,"
abbrev pub ExactSteps : Type 0
ExactSteps = OfEveryRun λ n cs. (p : ℕ) → Has (runs n cs) p → accepted_steps n cs p ≡ (n + 1) * (n - size (found_of (stage_of (runs n cs) p)) + 1)

-- "and any task that has had n(n+1) accepted steps is finished."
abbrev pub EnoughSteps : Type 0
EnoughSteps = OfEveryRun λ n cs. (p : ℕ) → 1 ≤ p → p ≤ n → n * (n + 1) ≤ accepted_steps n cs p → finished (stage_of (runs n cs) p) ≡ true

-- Rule 7 of document 01 is what the list of calls counts.
abbrev pub AccessesCounted : Type 0
AccessesCounted = OfEveryRun λ n cs. (p : ℕ) → 1 ≤ p → p ≤ n → accesses_of n (stage_of (runs n cs) p) ≡ accepted_steps n cs p

-- "Nobody waits." From any run, a process that has entered and not crashed finishes by k more steps of its own, whatever the others did, as soon as
-- those that it has had and k come to n(n+1).
abbrev pub WaitFree : Type 0
WaitFree = OfEveryRun λ n cs. (p : ℕ) → 1 ≤ p → p ≤ n → entered (stage_of (runs n cs) p) ≡ true → crashed (stage_of (runs n cs) p) ≡ false
    → (k : ℕ) → n * (n + 1) ≤ accepted_steps n cs p + k → finished (stage_of (runs n (cs ++ replicate k (steps p))) p) ≡ true

-- Document 01, rule 2: "the same three for ever once it has crashed"; rule 6: "A crashed process never moves again." Whatever calls come after, its
-- record is the one that it had.
abbrev pub CrashedStays : Type 0
CrashedStays = OfEveryRun λ n cs. (p : ℕ) → 1 ≤ p → crashed (stage_of (runs n cs) p) ≡ true
    → (ds : List Call) → process_of (runs n (cs ++ ds)) p ≡ process_of (runs n cs) p

-- Rule 2: "level and view once it has finished." Whatever calls come after, its record is the one that it had, and the list that it was told has the
-- same pairs.
pub record SameList (m m' : Machine) (p : ℕ) : Type 0 where
  pub process : process_of m' p ≡ process_of m p
  pub pairs : (j v : ℕ) → View m p j v ↔ View m' p j v

abbrev pub FinishedStays : Type 0
FinishedStays = OfEveryRun λ n cs. (p : ℕ) → Has (runs n cs) p → (ds : List Call) → SameList (runs n cs) (runs n (cs ++ ds)) p

-- Rule 6: "What it wrote stays." So does what any process wrote: no register is emptied, and none is given another value.
abbrev pub WrittenStays : Type 0
WrittenStays = OfEveryRun λ n cs. (x i v : ℕ) → 1 ≤ x → x ≤ n → 1 ≤ i → i ≤ n → register (runs n cs) x i ≡ holds v
    → (ds : List Call) → register (runs n (cs ++ ds)) x i ≡ holds v

-- And if it has not finished, finishing alone is accepted; it is `more` accepted steps of p at the end of the list, at most n(n+1) in all.
pub record FinishesAlone (n : ℕ) (cs : List Call) (p : ℕ) : Type 0 where
  pub accepts : accepted (finish_of (runs n cs) p) ≡ true
  pub more : ℕ
  pub calls : (finish_of (runs n cs) p).machine ≡ runs n (cs ++ replicate more (steps p))
  pub ended : finished (stage_of (runs n (cs ++ replicate more (steps p))) p) ≡ true
  pub all : accepted_steps n (cs ++ replicate more (steps p)) p ≡ accepted_steps n cs p + more
  pub most : accepted_steps n (cs ++ replicate more (steps p)) p ≤ n * (n + 1)

abbrev pub AloneFinishes : Type 0
AloneFinishes = OfEveryRun λ n cs. (p : ℕ) → 1 ≤ p → p ≤ n → entered (stage_of (runs n cs) p) ≡ true → crashed (stage_of (runs n cs) p) ≡ false
    → finished (stage_of (runs n cs) p) ≡ false → FinishesAlone n cs p

-- f 1 + .. + f k
unfoldable pub total : (ℕ → ℕ) → ℕ → ℕ
total f zero = 0
total f (suc k) = f (suc k) + total f k

-- The accepted steps are those of the processes 1 to n.
abbrev pub CountsOfRuns : Type 0
CountsOfRuns = OfEveryRun λ n cs. all_steps n cs ≡ total (accepted_steps n cs) n

-- A process has entered, whatever became of it since, exactly if an enter of it is among the calls and was accepted.
abbrev pub EnteredByCall : Type 0
EnteredByCall = OfEveryRun λ n cs. (p : ℕ) → 1 ≤ p → entered (stage_of (runs n cs) p) ≡ has_entered n cs p
