-- The binary digits of a number, one by one from the lowest: the recursion by which the laws of sets go.
use mathlib.Core.Path.{◌≡◌, refl, sym, ap, ◌∙◌}
use mathlib.Core.Logic.{◌≢◌}
use Prim.Native.Nat.{ℕ, zero, suc, ◌+◌, ◌-◌, ◌*◌, ◌/◌, ◌%◌, ◌^◌, ◌≤◌, ◌<◌}
use native.Mathlib.Nat.{div-one, mul-one, div-div-eq-div-mul, pow-suc, pow-succ', le_of_suc-le-suc}
use native.Mathlib.Omega.{arith}
use mathlib.Core.Bool.{Bool, cond}
use lib.Dec.{leb, leb-zero, leb-suc-zero, leb-suc-suc}
use lib.Bits.{shifted_half, shifted_even}
use lib.Pow.{pow_pos}

-- digit k of s
unfoldable pub digit : ℕ → ℕ → ℕ
digit s zero = s % 2
digit s (suc k) = digit (s / 2) k

pub digit_is : (s k : ℕ) → s / 2 ^ k % 2 ≡ digit s k
unfolding digit
digit_is s zero = ap (λ (x : ℕ). x % 2) (div-one s)
digit_is s (suc k) =
    ap (λ (x : ℕ). x % 2) (ap (λ (x : ℕ). s / x) (pow-succ' 2 k) ∙ sym (div-div-eq-div-mul s 2 (2 ^ k))) ∙ digit_is (s / 2) k

pub digit_small : (s k : ℕ) → digit s k ≤ 1
unfolding digit
digit_small s zero = omega arith
digit_small s (suc k) = digit_small (s / 2) k

pub digit_zero : (k : ℕ) → digit 0 k ≡ 0
unfolding digit
digit_zero zero = refl
digit_zero (suc k) = digit_zero k

-- a number of m digits has none from place m on
pub digit_above : (m k s : ℕ) → s < 2 ^ m → m ≤ k → digit s k ≡ 0
unfolding digit
digit_above zero k s h l = ap (λ (x : ℕ). digit x k) (omega arith) ∙ digit_zero k
digit_above (suc m) zero s h l = omega arith
digit_above (suc m) (suc k) s h l = digit_above m k (s / 2) (omega (arith, pow-suc 2 m)) (le_of_suc-le-suc l)

-- numbers of m digits are equal if their digits are
pub digits_equal : (m s t : ℕ) → s < 2 ^ m → t < 2 ^ m → ((k : ℕ) → k < m → digit s k ≡ digit t k) → s ≡ t
unfolding digit
digits_equal zero s t hs ht e = omega arith
digits_equal (suc m) s t hs ht e =
    let double = pow-suc 2 m in
    let halves : s / 2 ≡ t / 2 = digits_equal m (s / 2) (t / 2) (omega arith) (omega arith) (λ k h. e (suc k) (omega arith)) in
    omega (arith, e zero (omega arith))

-- ---- a power of two added where its digit was 0: that digit becomes 1, and no other changes

half_sum : (s k : ℕ) → (s + 2 ^ suc k) / 2 ≡ s / 2 + 2 ^ k
half_sum s k = omega (arith, pow-suc 2 k)

pub add_here : (k s : ℕ) → digit s k ≡ 0 → digit (s + 2 ^ k) k ≡ 1
unfolding digit
add_here zero s e = omega arith
add_here (suc k) s e = ap (λ (x : ℕ). digit x k) (half_sum s k) ∙ add_here k (s / 2) e

pub add_other : (k j s : ℕ) → digit s k ≡ 0 → k ≢ j → digit (s + 2 ^ k) j ≡ digit s j
unfolding digit
add_other zero zero s e n = absurd (n refl)
add_other zero (suc j) s e n = let half : (s + 1) / 2 ≡ s / 2 = omega arith in ap (λ (x : ℕ). digit x j) half
add_other (suc k) zero s e n = omega (arith, pow-suc 2 k)
add_other (suc k) (suc j) s e n = ap (λ (x : ℕ). digit x j) (half_sum s k) ∙ add_other k j (s / 2) e (λ q. n (ap suc q))

pub add_below : (m k s : ℕ) → s < 2 ^ m → k < m → digit s k ≡ 0 → s + 2 ^ k < 2 ^ m
unfolding digit
add_below zero k s h l e = omega arith
add_below (suc m) zero s h l e = omega (arith, pow-suc 2 m)
add_below (suc m) (suc k) s h l e =
    omega (arith, pow-suc 2 m, pow-suc 2 k, add_below m k (s / 2) (omega (arith, pow-suc 2 m)) (le_of_suc-le-suc l) e)

-- ---- m digits, all 1

pub ones_digit : (m k : ℕ) → k < m → digit (2 ^ m - 1) k ≡ 1
unfolding digit
ones_digit zero k l = omega arith
ones_digit (suc m) zero l = omega (arith, pow-suc 2 m, pow_pos m)
ones_digit (suc m) (suc k) l =
    let half : (2 ^ suc m - 1) / 2 ≡ 2 ^ m - 1 = omega (arith, pow-suc 2 m, pow_pos m) in
    ap (λ (x : ℕ). digit x k) half ∙ ones_digit m k (le_of_suc-le-suc l)

-- ---- the j lowest digits put to 0

pub cleared_digit : (j k s : ℕ) → digit (s / 2 ^ j * 2 ^ j) k ≡ cond (leb j k) (digit s k) 0
unfolding digit
cleared_digit zero k s = ap (λ (x : ℕ). digit x k) (mul-one (s / 1) ∙ div-one s) ∙ sym (ap (λ (b : Bool). cond b (digit s k) 0) (leb-zero k))
cleared_digit (suc j) zero s = shifted_even (s / 2 ^ suc j) j ∙ sym (ap (λ (b : Bool). cond b (s % 2) 0) (leb-suc-zero j))
cleared_digit (suc j) (suc k) s =
    ap (λ (x : ℕ). digit x k)
    (shifted_half (s / 2 ^ suc j) j ∙ ap (λ (x : ℕ). x * 2 ^ j) (ap (λ (x : ℕ). s / x) (pow-succ' 2 j) ∙ sym (div-div-eq-div-mul s 2 (2 ^ j))))
    ∙ cleared_digit j k (s / 2) ∙ sym (ap (λ (b : Bool). cond b (digit (s / 2) k) 0) (leb-suc-suc j k))
