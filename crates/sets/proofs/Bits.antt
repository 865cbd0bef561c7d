-- The laws of sets that the code goes by: sets under the machine's `&` and `|`.
use mathlib.Core.Path.{◌≡◌, refl, sym, ap, ap₂, ◌∙◌}
use mathlib.Core.Logic.{⊎_elim}
use mathlib.Core.Bool.{Bool, true, false, ◌&&◌, ◌||◌, and-eq-true_iff}
use Prim.Native.Nat.{ℕ, zero, suc, ◌+◌, ◌-◌, ◌*◌, ◌/◌, ◌%◌, ◌^◌, ◌≤◌, ◌<◌, min, max}
use native.Mathlib.Nat.{pow-suc, lt_of_le_of_lt, min-zero, add-zero, mul_assoc, one-mul, zero-mul}
use native.Mathlib.Omega.{arith}
use lib.Dec.{eqb}
use lib.Pow.{shl_exact}
use lib.Bits.{bit_and, bit_or, and_step, or_step, and_mask, and_le_l, or_add_and, or_disjoint}
use borrow.Author.Tests.{eqb-true, eq-eqb}
use Rattle.sets.specs.Members.{known, has, tick}
use Rattle.sets.specs.Sets.{plus, within}
use Rattle.sets.proofs.Digits.{digit, digit_small}
use Rattle.sets.proofs.Laws.{either, same_truth, known-digit, digit_in, digit_out, unknown_has, plus_idle, plus-new}
use Rattle.sets.proofs.Laws.{members_equal, within_true, true_within}

-- ---- digit by digit

and_digit : (k s t : ℕ) → digit (bit_and s t) k ≡ min (digit s k) (digit t k)
unfolding digit
and_digit zero s t = omega (arith, and_step s t)
and_digit (suc k) s t =
    let half : bit_and s t / 2 ≡ bit_and (s / 2) (t / 2) = omega (arith, and_step s t) in
    ap (λ (x : ℕ). digit x k) half ∙ and_digit k (s / 2) (t / 2)

or_digit : (k s t : ℕ) → digit (bit_or s t) k ≡ max (digit s k) (digit t k)
unfolding digit
or_digit zero s t = omega (arith, or_step s t)
or_digit (suc k) s t =
    let half : bit_or s t / 2 ≡ bit_or (s / 2) (t / 2) = omega (arith, or_step s t) in
    ap (λ (x : ℕ). digit x k) half ∙ or_digit k (s / 2) (t / 2)

-- ---- members of what an operation gives: `bits` on the numbers is `op` on each two digits and `test` on each two memberships

module _ (bits op : ℕ → ℕ → ℕ) (test : Bool → Bool → Bool)
    (digitwise : (k s t : ℕ) → digit (bits s t) k ≡ op (digit s k) (digit t k))
    (tests : (a b : Bool) → eqb (op (tick a) (tick b)) 1 ≡ test a b)
    (neither : test false false ≡ false) where
  on_digits : (d e : ℕ) → d ≤ 1 → e ≤ 1 → eqb (op d e) 1 ≡ test (eqb d 1) (eqb e 1)
  on_digits zero zero hd he = tests false false
  on_digits zero (suc zero) hd he = tests false true
  on_digits zero (suc (suc e)) hd he = absurd (omega arith)
  on_digits (suc zero) zero hd he = tests true false
  on_digits (suc zero) (suc zero) hd he = tests true true
  on_digits (suc zero) (suc (suc e)) hd he = absurd (omega arith)
  on_digits (suc (suc d)) e hd he = absurd (omega arith)

  has_bits : (s t i : ℕ) → has (bits s t) i ≡ test (has s i) (has t i)
  has_bits s t i =
      ⊎_elim
      (λ k.
      known-digit (bits s t) i k ∙ ap (λ (d : ℕ). eqb d 1) (digitwise (i - 1) s t)
      ∙ on_digits (digit s (i - 1)) (digit t (i - 1)) (digit_small s (i - 1)) (digit_small t (i - 1))
      ∙ sym (ap₂ test (known-digit s i k) (known-digit t i k)))
      (λ n. unknown_has (bits s t) i n ∙ sym (ap₂ test (unknown_has s i n) (unknown_has t i n) ∙ neither))
      (either (known i))

min_test : (a b : Bool) → eqb (min (tick a) (tick b)) 1 ≡ (a && b)
min_test true true = refl
min_test true false = refl
min_test false true = refl
min_test false false = refl

max_test : (a b : Bool) → eqb (max (tick a) (tick b)) 1 ≡ (a || b)
max_test true true = refl
max_test true false = refl
max_test false true = refl
max_test false false = refl

pub has_and : (s t i : ℕ) → has (bit_and s t) i ≡ (has s i && has t i)
has_and = has_bits bit_and min ◌&&◌ and_digit min_test refl

pub has_or : (s t i : ℕ) → has (bit_or s t) i ≡ (has s i || has t i)
has_or = has_bits bit_or max ◌||◌ or_digit max_test refl

-- ---- the code's forms

-- a 1 shifted by k in a word of w digits
pub one_shifted : (k w : ℕ) → k < w → (1 * 2 ^ k) % 2 ^ w ≡ 2 ^ k
one_shifted k w h = shl_exact {a = 1} 1 k w (omega arith) (omega arith) ∙ one-mul (2 ^ k)

-- the one digit k of s, in its place
and_power : (k s : ℕ) → bit_and s (2 ^ k) ≡ digit s k * 2 ^ k
unfolding digit
and_power zero s = and_mask s 1 ∙ omega arith
and_power (suc k) s =
    let half : 2 ^ suc k / 2 ≡ 2 ^ k = omega (arith, pow-suc 2 k) in
    let even : 2 ^ suc k % 2 ≡ 0 = omega (arith, pow-suc 2 k) in
    and_step s (2 ^ suc k)
    ∙ ap₂ (λ (x y : ℕ). x * 2 + y) (ap (bit_and (s / 2)) half ∙ and_power k (s / 2)) (ap (min (s % 2)) even ∙ min-zero (s % 2))
    ∙ add-zero (digit (s / 2) k * 2 ^ k * 2) ∙ mul_assoc (digit (s / 2) k) (2 ^ k) 2 ∙ ap (λ (x : ℕ). digit (s / 2) k * x) (sym (pow-suc 2 k))

pub plus_or : (s i : ℕ) → known i ≡ true → plus s i ≡ bit_or s (2 ^ (i - 1))
plus_or s i k =
    ⊎_elim
    (λ y.
    let set : bit_and s (2 ^ (i - 1)) ≡ 2 ^ (i - 1) = common (digit_in s i y) ∙ one-mul (2 ^ (i - 1)) in
    let or : bit_or s (2 ^ (i - 1)) ≡ s = omega (arith, or_add_and s (2 ^ (i - 1))) in
    plus_idle s i y ∙ sym or)
    (λ n. plus-new s i k n ∙ sym (or_disjoint s (2 ^ (i - 1)) (common (digit_out s i k n) ∙ zero-mul (2 ^ (i - 1)))))
    (either (has s i))
  where
    common : {d : ℕ} → digit s (i - 1) ≡ d → bit_and s (2 ^ (i - 1)) ≡ d * 2 ^ (i - 1)
    common e = and_power (i - 1) s ∙ ap (λ (d : ℕ). d * 2 ^ (i - 1)) e

pub within_and : (s t : ℕ) → s < 2 ^ 32 → within s t ≡ eqb (bit_and s t) s
within_and s t h =
    same_truth (within s t) (eqb (bit_and s t) s)
    (λ e. eq-eqb (bit_and s t) s (left e))
    (λ e. true_within s t (inside (eqb-true (bit_and s t) s e)))
  where
    kept : (a b : Bool) → (a ≡ true → b ≡ true) → (a && b) ≡ a
    kept true b p = p refl
    kept false b p = refl

    left : within s t ≡ true → bit_and s t ≡ s
    left e =
        members_equal (bit_and s t) s (lt_of_le_of_lt (and_le_l s t) h) h
        (λ i. has_and s t i ∙ kept (has s i) (has t i) (within_true s t e i))

    inside : bit_and s t ≡ s → (i : ℕ) → has s i ≡ true → has t i ≡ true
    inside e i m = ((and-eq-true_iff (has s i) (has t i)).0 (sym (has_and s t i) ∙ ap (λ (r : ℕ). has r i) e ∙ m)).1
