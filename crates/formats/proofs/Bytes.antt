-- Little-endian numbers there and back, and bytes at a place of lists that are put together.
use Prim.Native.Nat.{ℕ, zero, suc, ◌+◌, ◌-◌, ◌*◌, ◌/◌, ◌%◌, ◌^◌, ◌≤◌, ◌<◌}
use mathlib.Core.Bool.{Bool, true, false, cond}
use mathlib.Core.Path.{◌≡◌, refl, sym, ap, ap₂, ◌∙◌}
use mathlib.Core.List.{List, [], ◌++◌, append_assoc}
use native.Mathlib.Nat.{add_assoc, div-add-mod', mod-eq_of_lt}
use native.Mathlib.Omega.{arith}
use lib.ListN.{length, length-append}
use lib.Seq.{get_or-append-add}
use lib.Pow.{shr-shr, shr_lt}
use Rattle.sets.specs.Members.{has, tick, count}
use Rattle.formats.specs.declared.Views.{Views}
use Rattle.formats.specs.Records.{byte_at, word_at, word_bytes}
use Rattle.formats.specs.Views.{seen_by, value_by}
use Rattle.text.specs.Parts.{joined}
use Rattle.formats.specs.ViewFile.{value_bytes}
use Rattle.text.proofs.Parts.{joined_at}

-- four digits to the base 256
digits : (x a b c p q r t : ℕ) → a * 256 + p ≡ x → b * 256 + q ≡ a → c * 256 + r ≡ b → t ≡ c → p + 256 * q + 65536 * r + 16777216 * t ≡ x
digits x a b c p q r t e f g h = omega arith

pub word_back : (x : ℕ) (t : List ℕ) → x < 2 ^ 32 → word_at (word_bytes x ++ t) 0 ≡ x
word_back x t h =
    let a : ℕ = x / 256 in
    let b : ℕ = x / 65536 in
    let c : ℕ = x / 16777216 in
    let two : a / 256 ≡ b = shr-shr x 8 8 in
    let three : b / 256 ≡ c = shr-shr x 16 8 in
    let top : c < 256 = shr_lt {n = x} 8 24 h in
    digits x a b c (x % 256) (a % 256) (b % 256) (c % 256) (div-add-mod' x 256)
    (ap (λ (y : ℕ). y * 256 + a % 256) (sym two) ∙ div-add-mod' a 256)
    (ap (λ (y : ℕ). y * 256 + b % 256) (sym three) ∙ div-add-mod' b 256)
    (mod-eq_of_lt top)

-- past a first part
pub byte_past : (a t : List ℕ) (k : ℕ) → byte_at (a ++ t) (length a + k) ≡ byte_at t k
byte_past a t k = get_or-append-add a t k 0

pub word_past : (a t : List ℕ) (k : ℕ) → word_at (a ++ t) (length a + k) ≡ word_at t k
word_past a t k =
    let more : (j : ℕ) → byte_at (a ++ t) (length a + k + j) ≡ byte_at t (k + j)
    = λ j. ap (byte_at (a ++ t)) (add_assoc (length a) k j) ∙ byte_past a t (k + j) in
    λ i. byte_past a t k i + 256 * more 1 i + 65536 * more 2 i + 16777216 * more 3 i

-- The values of a view: four bytes for each member.
four : (b : Bool) (x : ℕ) → length (cond b (word_bytes x) []) ≡ 4 * tick b
four true x = refl
four false x = refl

pub values_bytes : (v : Views) (i k : ℕ) → length (joined 1 k (value_bytes v i)) ≡ 4 * count (has (seen_by v i)) k
unfolding joined count
values_bytes v i zero = refl
values_bytes v i (suc k) =
    let f = value_bytes v i in
    let z : suc k ≡ k + suc 0 = omega arith in
    let y : 1 + k ≡ suc k = omega arith in
    let here : length (f (1 + k)) ≡ 4 * tick (has (seen_by v i) (suc k))
    = ap (λ (x : ℕ). length (f x)) y ∙ four (has (seen_by v i) (suc k)) (value_by v i (suc k)) in
    let all : length (joined 1 (suc k) f) ≡ length (joined 1 k f) + (length (f (1 + k)) + 0)
    = ap length (joined_at k 1 (suc k) 0 f z) ∙ length-append (joined 1 k f) (f (1 + k) ++ [])
    ∙ ap (λ (x : ℕ). length (joined 1 k f) + x) (length-append (f (1 + k)) []) in
    all ∙ omega (arith, here, values_bytes v i k)

-- the value of member j stands past those of the members below it
pub value_stands : (v : Views) (i j : ℕ) (t : List ℕ) → 1 ≤ j → j ≤ 32 → has (seen_by v i) j ≡ true → value_by v i j < 2 ^ 32
    → word_at (joined 1 32 (value_bytes v i) ++ t) (4 * count (has (seen_by v i)) (j - 1)) ≡ value_by v i j
value_stands v i j t a b h l =
    let f = value_bytes v i in
    let z : 32 ≡ (j - 1) + suc (32 - j) = omega arith in
    let y : 1 + (j - 1) ≡ j = omega arith in
    let A = joined 1 (j - 1) f in
    let R = joined (suc (1 + (j - 1))) (32 - j) f in
    let here : f (1 + (j - 1)) ≡ word_bytes (value_by v i j)
    = ap f y ∙ ap (λ (c : Bool). cond c (word_bytes (value_by v i j)) []) h in
    let split : joined 1 32 f ++ t ≡ A ++ (word_bytes (value_by v i j) ++ (R ++ t))
    = ap (λ l. l ++ t) (joined_at (j - 1) 1 32 (32 - j) f z)
    ∙ append_assoc A (f (1 + (j - 1)) ++ R) t
    ∙ ap (λ l. A ++ l) (append_assoc (f (1 + (j - 1))) R t ∙ ap (λ l. l ++ (R ++ t)) here) in
    let place : 4 * count (has (seen_by v i)) (j - 1) ≡ length A + 0 = omega (arith, values_bytes v i (j - 1)) in
    ap₂ word_at split place ∙ word_past A (word_bytes (value_by v i j) ++ (R ++ t)) 0 ∙ word_back (value_by v i j) (R ++ t) l
