-- A look at a finished process shows its view.
use mathlib.Core.Path.{◌≡◌, refl, sym, ap, subst, ◌∙◌}
use mathlib.Core.Logic.{◌↔◌}
use mathlib.Core.Bool.{true, cond, false≢true}
use Prim.Native.Nat.{ℕ, ◌+◌, ◌-◌}
use native.Mathlib.Omega.{arith}
use lib.ListN.{get_or}
use Rattle.sets.specs.Members.{has}
use Rattle.sets.proofs.Laws.{has-known}
use Rattle.rules.specs.declared.Stage.{Stage}
use Rattle.rules.specs.declared.Stage.TheVariants.{Absent, Running, Finished, Crashed}
use Rattle.rules.specs.Stands.{stage_of, row_of, cell_of}
use Rattle.rules.specs.State.{finished, level_of, found_of}
use Rattle.rules.specs.Shape.{Ended, ShapedStage}
use Rattle.rules.specs.Calls.{row_values, looked, look_of}
use Rattle.rules.proofs.Laws.Small.{cond-true}
use Rattle.rules.proofs.Laws.Shape.{record_shaped}
use Rattle.rules.proofs.Laws.Looks.{look_valid, row_values_at}
use Rattle.history.specs.Views.{View}
use Rattle.history.specs.Theorems.{LookShowsView}
use Rattle.history.proofs.Found.{row_upto}

pub look_shows_view : LookShowsView
look_shows_view m sh i given j v = go (stage_of m i) refl given.ended
  where
    seen : look_of m i ≡ looked m (stage_of m i)
    seen = look_valid m i (record { shape = record_shaped m sh; low = given.low; high = given.high })

    go : (s : Stage) → stage_of m i ≡ s → finished s ≡ true → View m i j v ↔ ((has (look_of m i).view j ≡ true) × (get_or (look_of m i).values (j - 1) 0 ≡ v))
    go Absent e t = absurd (false≢true t)
    go (Running x k f) e t = absurd (false≢true t)
    go (Crashed x k f) e t = absurd (false≢true t)
    go (Finished x w) e t =
        subst (λ r. View m i j v ↔ ((has r.view j ≡ true) × (get_or r.values (j - 1) 0 ≡ v))) (sym (seen ∙ ap (looked m) e)) (to, back)
      where
        ended : Ended m.n (row_of m) x w
        ended = subst (ShapedStage m.n (row_of m)) e (sh.process i given.low (omega (arith, given.high, sh.most))).stage

        value : has w j ≡ true → get_or (row_values m.values x w 1 32) (j - 1) 0 ≡ cell_of m x j
        value h =
            let k = has-known w j h in
            let one : 1 + (j - 1) ≡ j = omega arith in
            row_values_at m.values x w 1 32 (j - 1) (omega arith) ∙ ap (λ (p : ℕ). cond (has w p) (cell_of m x p) 0) one
            ∙ cond-true (has w j) (cell_of m x j) 0 h

        to : View m i j v → (has w j ≡ true) × (get_or (row_values m.values x w 1 32) (j - 1) 0 ≡ v)
        to s =
            let h : has w j ≡ true = sym (ap (λ t. has (found_of t) j) e) ∙ s.seen in
            (h, value h ∙ sym (ap (λ t. cell_of m (level_of t) j) e) ∙ s.held)

        back : (has w j ≡ true) × (get_or (row_values m.values x w 1 32) (j - 1) 0 ≡ v) → View m i j v
        back (h, q) =
            record {
              low = (has-known w j h).0;
              high = row_upto m sh x ended.low ended.high j (ended.stands j h);
              seen = ap (λ t. has (found_of t) j) e ∙ h;
              held = ap (λ t. cell_of m (level_of t) j) e ∙ sym (value h) ∙ q;
            }
