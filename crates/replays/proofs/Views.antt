-- The views of a machine, element by element.
use Prim.Native.Nat.{ℕ, ◌+◌, ◌-◌, ◌*◌, ◌≤◌}
use mathlib.Core.Bool.{Bool, ◌&&◌}
use mathlib.Core.Path.{◌≡◌, refl, ap, ap₂, ◌∙◌}
use mathlib.Core.List.{List, [], ◌∷◌}
use native.Mathlib.Omega.{arith}
use lib.ListN.{get_or}
use borrow.Author.Tests.{le-leb}
use Rattle.sets.proofs.Laws.{true_known, has-set_of}
use Rattle.rules.specs.declared.Machine.{Machine}
use Rattle.rules.specs.Stands.{stage_of}
use Rattle.rules.specs.State.{finished}
use Rattle.rules.specs.Calls.{view_of}
use Rattle.formats.specs.Views.{owns, seen_by, value_by}
use Rattle.text.specs.Parts.{joined}
use Rattle.replays.specs.Writes.{value_in, views_of}
use Rattle.text.proofs.Parts.{joined_length, joined-get_or}

module _ (m : Machine) (i : ℕ) (low : 1 ≤ i) (high : i ≤ 32) where
  -- those that have finished have a view
  pub owned : owns (views_of m) i ≡ finished (stage_of m i)
  unfolding views_of
  owned =
      has-set_of (λ j. finished (stage_of m j)) 32 i
      ∙ ap₂ (λ (a b : Bool). a && b && finished (stage_of m i)) (true_known i low high) (le-leb i 32 high)

  pub seen : seen_by (views_of m) i ≡ view_of (stage_of m i)
  unfolding views_of
  seen =
      let f : ℕ → List ℕ = λ k. view_of (stage_of m k) ∷ [] in
      let e : i - 1 ≡ 1 * (i - 1) + 0 = omega arith in
      let d : 1 + (i - 1) ≡ i = omega arith in
      ap (λ (k : ℕ). get_or (joined 1 32 f) k 0) e ∙ joined-get_or 1 1 32 (i - 1) 0 f (λ j. refl) (omega arith) (omega arith)
      ∙ ap (λ (k : ℕ). view_of (stage_of m k)) d

  pub valued : (j : ℕ) → 1 ≤ j → j ≤ 32 → value_by (views_of m) i j ≡ value_in m i j
  unfolding views_of
  valued j below above =
      let g : ℕ → ℕ → List ℕ = λ k l. value_in m k l ∷ [] in
      let f : ℕ → List ℕ = λ k. joined 1 32 (g k) in
      let d : 1 + (i - 1) ≡ i = omega arith in
      let d' : 1 + (j - 1) ≡ j = omega arith in
      let e : j - 1 ≡ 1 * (j - 1) + 0 = omega arith in
      joined-get_or 32 1 32 (i - 1) (j - 1) f (λ k. joined_length 1 1 32 (g k) (λ l. refl)) (omega arith) (omega arith)
      ∙ ap₂ (λ (k l : ℕ). get_or (f k) l 0) d e
      ∙ joined-get_or 1 1 32 (j - 1) 0 (g i) (λ k. refl) (omega arith) (omega arith)
      ∙ ap (value_in m i) d'
