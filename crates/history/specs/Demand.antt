-- Demand 3 of Fig. 8.16 itself, of every list of calls from the start of a world of n processes that run update_snapshot. No machine is named here:
-- by EveryRunIsFigure of specs/Theorems the same holds of a machine.
use Rattle.std.specs.Prelude.{◌≡◌, ◌≢◌, Bool, false, ℕ, ◌+◌, ◌-◌, ◌*◌, ◌≤◌, eqb, length, replicate}
use mathlib.Core.List.{List, ◌++◌, Memᴰ}
use Rattle.sets.specs.Members.{count}
use Rattle.sets.specs.Immediate.{Immediate}
use Rattle.world.specs.Programs.{writes, reads, returns, halted}
use Rattle.world.specs.Calls.{Call, steps, leaves, counts, accepted_step_of, ever, deposits}
use Rattle.world.specs.World.{World, start, world_taker}
use Rattle.history.specs.Figure.{Address, Pair, Code, figure}

-- the world after the calls
abbrev pub figure_runs : ℕ → List Call → World Address (List Pair)
figure_runs n cs = leaves (world_taker (figure n)) (start (figure n)) cs

-- the accesses that process p has made: its accepted steps, counted from the list of calls
abbrev pub accesses_made : ℕ → List Call → ℕ → ℕ
accesses_made n cs p = counts (world_taker (figure n)) (accepted_step_of p) (start (figure n)) cs

-- what process p deposited
abbrev pub deposited : ℕ → List Call → ℕ → ℕ
deposited n cs p = deposits (world_taker (figure n)) (start (figure n)) cs p

-- Process p has reached level x: it has begun rec_update_snapshot(x), so that after some of the calls its next access is in row x.
abbrev pub in_row : ℕ → Code → Bool
in_row x (writes a v next) = eqb a.row x
in_row x (reads a next) = eqb a.row x
in_row x (returns view) = false
in_row x halted = false

abbrev pub begun : ℕ → List Call → ℕ → ℕ → Bool
begun n cs x p = ever (world_taker (figure n)) (λ w. in_row x (w.remains p)) (start (figure n)) cs

-- process p has returned, and (j, v) is a pair of what it returned
pub record Returned (n : ℕ) (cs : List Call) (p : ℕ) : Type 0 where
  pub view : List Pair
  pub there : (figure_runs n cs).remains p ≡ returns view

pub record InView (n : ℕ) (cs : List Call) (p j v : ℕ) : Type 0 where
  pub of : Returned n cs p
  pub pair : Memᴰ (record { process = j; value = v }) of.view

pub record DemandThree (n : ℕ) (cs : List Call) : Type 0 where
  -- "For each x from 1 to n, at most x tasks ever reach level x."
  pub levels : (x : ℕ) → 1 ≤ x → x ≤ n → count (begun n cs x) n ≤ x
  -- "The lists of all finished tasks obey the three properties."
  pub properties : Immediate (Returned n cs) (InView n cs) (deposited n cs)
  -- "A task that finished with s tasks in its list has had exactly (n+1)(n-s+1) accepted steps, counted from the list of calls,"
  pub exact : (p : ℕ) (r : Returned n cs p) → accesses_made n cs p ≡ (n + 1) * (n - length r.view + 1)
  -- "and any task that has had n(n+1) accepted steps is finished."
  pub enough : (p : ℕ) → 1 ≤ p → p ≤ n → n * (n + 1) ≤ accesses_made n cs p → Returned n cs p
  -- Nobody waits: a process that has entered and not crashed returns by k more steps of its own, whatever the others did, as soon as those that it has
  -- had and k come to n(n+1).
  pub nobody_waits : (p : ℕ) → (figure_runs n cs).remains p ≢ halted → (k : ℕ) → n * (n + 1) ≤ accesses_made n cs p + k
      → Returned n (cs ++ replicate k (steps p)) p

abbrev pub EveryRunDemandThree : Type 0
EveryRunDemandThree = (n : ℕ) → 1 ≤ n → n ≤ 32 → (cs : List Call) → DemandThree n cs
