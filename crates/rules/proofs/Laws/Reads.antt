-- What a read finds.
use mathlib.Core.Path.{◌≡◌, sym, ap, subst, ◌∙◌}
use mathlib.Core.Logic.{◌⊎◌, inl, inr}
use mathlib.Core.Bool.{Bool, true, false, ◌&&◌, ◌||◌, cond}
use Prim.Native.Nat.{ℕ}
use lib.Dec.{eqb}
use borrow.Author.Tests.{eqb-true, eq-eqb}
use Rattle.sets.specs.Members.{has}
use Rattle.sets.specs.Sets.{plus}
use Rattle.sets.proofs.Laws.{same_truth, has-known, has-plus-same, has-plus_keeps}
use Rattle.rules.specs.Calls.{reading}
use Rattle.rules.specs.Statements.{ReadFinds}
use Rattle.rules.proofs.Laws.Small.{or_true, or_left, or_right, both, and_first, and_second}
use Rattle.rules.proofs.Laws.Keeps.{reading-has}

pub reading_keeps : (row j f i : ℕ) → has f i ≡ true → has (reading row j f) i ≡ true
unfolding reading
reading_keeps row j f i t = go (has row j)
  where
    go : (b : Bool) → has (cond b (plus f j) f) i ≡ true
    go true = has-plus_keeps f j i t
    go false = t

pub reading_finds : (row j f : ℕ) → has row j ≡ true → has (reading row j f) j ≡ true
unfolding reading
reading_finds row j f t =
    let k = has-known row j t in
    ap (λ b. has (cond b (plus f j) f) j) t ∙ has-plus-same f j k.0 k.1

pub read_finds : ReadFinds
read_finds row j f i =
    same_truth (has (reading row j f) i) (has f i || (eqb i j && has row i)) (λ t. there (reading-has row j f i t)) (λ t. back (or_true (has f i) _ t))
  where
    there : (has f i ≡ true) ⊎ ((i ≡ j) × (has row i ≡ true)) → (has f i || (eqb i j && has row i)) ≡ true
    there (inl t) = or_left (has f i) _ t
    there (inr t) = or_right (has f i) _ (both (eqb i j) (has row i) (eq-eqb i j t.0) t.1)

    back : (has f i ≡ true) ⊎ ((eqb i j && has row i) ≡ true) → has (reading row j f) i ≡ true
    back (inl t) = reading_keeps row j f i t
    back (inr t) =
        let e : i ≡ j = eqb-true i j (and_first (eqb i j) (has row i) t) in
        subst (λ k. has (reading row j f) k ≡ true) (sym e)
        (reading_finds row j f (subst (λ k. has row k ≡ true) e (and_second (eqb i j) (has row i) t)))
