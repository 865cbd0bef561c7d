-- Small laws that the other files cite: on tests, and on the elements of a list after a store.
use mathlib.Core.Path.{◌≡◌, refl, sym, ◌∙◌}
use mathlib.Core.Logic.{◌⊎◌, inl, inr, ◌≢◌}
use mathlib.Core.Bool.{Bool, true, false, ◌&&◌, ◌||◌, cond, false≢true, true≢false}
use mathlib.Core.List.{List, [], ◌∷◌}
use Prim.Native.Nat.{ℕ, zero, suc, ◌≤◌, ◌<◌}
use lib.Dec.{leb, eqb}
use lib.ListN.{get_or, set, replicate}
use borrow.Author.Tests.{eqb-true, eqb-false, leb-true, leb-false}

pub and_first : (a b : Bool) → (a && b) ≡ true → a ≡ true
and_first true b e = refl
and_first false b e = e

pub and_second : (a b : Bool) → (a && b) ≡ true → b ≡ true
and_second true b e = e
and_second false b e = absurd (false≢true e)

pub both : (a b : Bool) → a ≡ true → b ≡ true → (a && b) ≡ true
both true b p q = q
both false b p q = p

pub or_true : (a b : Bool) → (a || b) ≡ true → (a ≡ true) ⊎ (b ≡ true)
or_true true b e = inl refl
or_true false b e = inr e

pub or_left : (a b : Bool) → a ≡ true → (a || b) ≡ true
or_left true b e = refl
or_left false b e = absurd (false≢true e)

pub or_right : (a b : Bool) → b ≡ true → (a || b) ≡ true
or_right true b e = refl
or_right false b e = e

pub not_both {ℓ} : {X : Type ℓ} (b : Bool) → b ≡ true → b ≡ false → X
not_both b t f = absurd (true≢false (sym t ∙ f))

pub is_false : (b : Bool) → (b ≡ true → ⊥) → b ≡ false
is_false true h = absurd (h refl)
is_false false h = refl

pub cond-true {ℓ} : {A : Type ℓ} (b : Bool) (x y : A) → b ≡ true → cond b x y ≡ x
cond-true true x y e = refl
cond-true false x y e = absurd (false≢true e)

pub cond-false {ℓ} : {A : Type ℓ} (b : Bool) (x y : A) → b ≡ false → cond b x y ≡ y
cond-false true x y e = absurd (true≢false e)
cond-false false x y e = refl

-- two numbers are equal or not
pub equal_or_not : (a b : ℕ) → (a ≡ b) ⊎ (a ≢ b)
equal_or_not a b = go (eqb a b) refl
  where
    go : (t : Bool) → eqb a b ≡ t → (a ≡ b) ⊎ (a ≢ b)
    go true e = inl (eqb-true a b e)
    go false e = inr (eqb-false a b e)

pub at_most_or_above : (a b : ℕ) → (a ≤ b) ⊎ (b < a)
at_most_or_above a b = go (leb a b) refl
  where
    go : (t : Bool) → leb a b ≡ t → (a ≤ b) ⊎ (b < a)
    go true e = inl (leb-true a b e)
    go false e = inr (leb-false a b e)

-- what holds of the stored element and of every element before holds of every element after
pub stored-all {ℓ κ} : {A : Type ℓ} (Q : A → Type κ) (l : List A) (i : ℕ) (a d : A) → Q a → ((j : ℕ) → Q (get_or l j d)) → (j : ℕ)
    → Q (get_or (set l i a) j d)
stored-all Q [] i a d q h j = h j
stored-all Q (x ∷ xs) zero a d q h zero = q
stored-all Q (x ∷ xs) zero a d q h (suc j) = h (suc j)
stored-all Q (x ∷ xs) (suc i) a d q h zero = h zero
stored-all Q (x ∷ xs) (suc i) a d q h (suc j) = stored-all Q xs i a d q (λ k. h (suc k)) j

-- a list of one value
pub blank {ℓ} : {A : Type ℓ} (n i : ℕ) (a : A) → get_or (replicate n a) i a ≡ a
blank zero i a = refl
blank (suc n) zero a = refl
blank (suc n) (suc i) a = blank n i a
