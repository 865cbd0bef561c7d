-- The pairs of a view that are left from the process i on: the next one, and none after the last.
use Prim.Native.Nat.{ℕ, suc, ◌+◌, ◌-◌, ◌≤◌, ◌<◌}
use mathlib.Core.Bool.{Bool, true, false, cond}
use mathlib.Core.Path.{◌≡◌, ap, ap₂, ◌∙◌}
use mathlib.Core.List.{List, [], ◌++◌}
use native.Mathlib.Omega.{arith}
use lib.ListN.{get_or}
use Rattle.sets.specs.Members.{has}
use Rattle.output.specs.Lines.{pair, pairs_from}

module _ (later : Bool) (w : ℕ) (values : List ℕ) (i : ℕ) where
  one_more : i < 33 → (t : Bool) → has w i ≡ t
      → pairs_from later w values i (33 - i)
      ≡ cond t (pair later i (get_or values (i - 1) 0) ++ pairs_from true w values (i + 1) (33 - (i + 1))) (pairs_from later w values (i + 1) (33 - (i + 1)))
  unfolding pairs_from
  one_more h t e =
      let k : 33 - i ≡ suc (33 - (i + 1)) = omega arith in
      let s : suc i ≡ i + 1 = omega arith in
      ap (pairs_from later w values i) k
      ∙ ap₂ (λ (u : Bool) (j : ℕ). cond u (pair later i (get_or values (i - 1) 0) ++ pairs_from true w values j (33 - (i + 1)))
      (pairs_from later w values j (33 - (i + 1)))) e s

  pub pair_next : i < 33 → has w i ≡ true
      → pairs_from later w values i (33 - i) ≡ pair later i (get_or values (i - 1) 0) ++ pairs_from true w values (i + 1) (33 - (i + 1))
  pair_next h e = one_more h true e

  pub no_pair_here : i < 33 → has w i ≡ false → pairs_from later w values i (33 - i) ≡ pairs_from later w values (i + 1) (33 - (i + 1))
  no_pair_here h e = one_more h false e

  pub no_pair_left : 33 ≤ i → pairs_from later w values i (33 - i) ≡ []
  unfolding pairs_from
  no_pair_left h = let k : 33 - i ≡ 0 = omega arith in ap (pairs_from later w values i) k
