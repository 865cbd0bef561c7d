-- Numbers in decimal digits.
use Rattle.std.specs.Prelude.{ℕ, zero, suc, ◌+◌, ◌-◌, ◌*◌, ◌/◌, ◌%◌, ◌≤◌, ◌<◌, cond, ◌≡◌, ◌≢◌, List, [], ◌∷◌, ◌++◌, ltb, length, get_or}
use Rattle.text.specs.Ascii.{ascii}

-- A number in decimal digits with no zero in front; n divisions by ten are more than enough for n. What a `let` names is computed where it is used, so
-- that a number computes in as many divisions as it has digits.
unfoldable pub digits_in : ℕ → ℕ → List ℕ
digits_in zero n = (48 + n) ∷ []
digits_in (suc k) n = let more = digits_in k (n / 10) ++ (48 + n % 10) ∷ [] in cond (ltb n 10) ((48 + n) ∷ []) more

unfoldable pub decimal : ℕ → List ℕ
decimal n = digits_in n n

-- What digits write in base ten, the first the highest: those that are left, after the number that the others wrote.
unfoldable pub read_on : ℕ → List ℕ → ℕ
read_on n [] = n
read_on n (d ∷ ds) = read_on (10 * n + (d - 48)) ds

abbrev pub read_back : List ℕ → ℕ
read_back ds = read_on 0 ds

-- `0` to `9`
pub record Digit (b : ℕ) : Type 0 where
  pub low : 48 ≤ b
  pub high : b ≤ 57

abbrev pub Digits : List ℕ → Type 0
Digits [] = Unit {0}
Digits (b ∷ bs) = Digit b × Digits bs

-- The bytes ds are the number n in decimal digits with no zero in front: one digit at least, and where there are more the first is not `0`.
pub record Numeral (n : ℕ) (ds : List ℕ) : Type 0 where
  pub digits : Digits ds
  pub some : 1 ≤ length ds
  pub front : 1 < length ds → get_or ds 0 0 ≢ 48
  pub reads : read_back ds ≡ n

abbrev pub DecimalIsNumeral : Type 0
DecimalIsNumeral = (n : ℕ) → Numeral n (decimal n)

-- and no other bytes are; so two numbers in equal digits are equal
abbrev pub OneNumeral : Type 0
OneNumeral = (n : ℕ) (ds : List ℕ) → Numeral n ds → ds ≡ decimal n

abbrev pub DecimalTells : Type 0
DecimalTells = (m n : ℕ) → decimal m ≡ decimal n → m ≡ n

-- On both sides of one digit and two, and the largest value that a register holds.
pub record Decimals : Type 0 where
  pub zero_is : decimal 0 ≡ ascii "0"
  pub nine : decimal 9 ≡ ascii "9"
  pub ten : decimal 10 ≡ ascii "10"
  pub several : decimal 1203 ≡ ascii "1203"
  pub largest : decimal 4294967295 ≡ ascii "4294967295"
  pub back : read_back (ascii "4294967295") ≡ 4294967295
