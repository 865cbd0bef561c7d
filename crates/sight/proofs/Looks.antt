-- How a process that was found stands.
use mathlib.Core.Path.{◌≡◌, ap, ◌∙◌}
use Prim.Native.Nat.{ℕ, ◌≤◌}
use Rattle.std.specs.Prelude.{Ok}
use Rattle.rules.specs.declared.Stage.{Stage}
use Rattle.rules.specs.declared.Stage.TheVariants.{Running, Finished, Crashed}
use Rattle.rules.specs.declared.Process.{Process}
use Rattle.rules.specs.declared.Machine.{Machine}
use Rattle.rules.specs.Stands.{row_of}
use Rattle.rules.specs.Shape.{ShapedStage, Going}
use Rattle.rules.proofs.Laws.Looks.{no_values}
use Rattle.moves.specs.Coded.Asked.{asked_of}
use Rattle.moves.proofs.Laws.{most, asked_valid, standing}

-- it has a level
pub record AtLevel (n x : ℕ) : Type 0 where
  pub low : 1 ≤ x
  pub high : x ≤ n

module _ (m : Machine) (p : ℕ) (P : Process) (e : Ok P ≡ asked_of m p) where
  stands : (s : Stage) → P.stage ≡ s → ShapedStage m.n (row_of m) s
  stands s q = let v = asked_valid m p P e in standing m p v.0 s (ap (λ (P : Process). P.stage) v.1 ∙ q)

  pub found_running : (x k f : ℕ) → P.stage ≡ Running x k f → Going m.n (row_of m) x k f
  found_running x k f q = stands (Running x k f) q

  pub found_crashed : (x k f : ℕ) → P.stage ≡ Crashed x k f → Going m.n (row_of m) x k f
  found_crashed x k f q = stands (Crashed x k f) q

  pub found_finished : (x w : ℕ) → P.stage ≡ Finished x w → AtLevel m.n x
  found_finished x w q = let s = stands (Finished x w) q in record { low = s.low; high = s.high }

pub ruleset looks = (most, no_values, found_running, found_crashed, found_finished)
