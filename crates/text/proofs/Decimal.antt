-- A number in decimal digits: its last digit after those of a tenth of it, how many there are, and that they write the number.
use Prim.Native.Nat.{ℕ, zero, suc, ◌+◌, ◌-◌, ◌*◌, ◌/◌, ◌%◌, ◌^◌, ◌≤◌, ◌<◌}
use mathlib.Core.Bool.{Bool, true, false, cond}
use mathlib.Core.Path.{◌≡◌, refl, sym, ap, ap₂, subst, ◌∙◌}
use mathlib.Core.Logic.{◌≢◌}
use mathlib.Core.List.{List, [], ◌∷◌, ◌++◌}
use native.Mathlib.Omega.{arith}
use lib.Dec.{ltb}
use lib.ListN.{length, get_or, length-append, get_or-append}
use borrow.Author.Tests.{lt-ltb, le-ltb, ltb-true, ltb-false}
use Rattle.std.specs.Fmt.{decimal as printed}
use Rattle.std.proofs.lemmas.Fmt.{AppendsLastDigit, decimal_from_appends, length-decimal-le, length-decimal-le_succ}
use Rattle.text.specs.Decimal.{digits_in, decimal, read_on, read_back, Digit, Digits, Numeral, DecimalIsNumeral, OneNumeral, DecimalTells}

-- below ten, and from ten on
below : (k n : ℕ) → n < 10 → digits_in (suc k) n ≡ (48 + n) ∷ []
unfolding digits_in
below k n h = ap (λ (t : Bool). cond t ((48 + n) ∷ []) (digits_in k (n / 10) ++ (48 + n % 10) ∷ [])) (lt-ltb n 10 h)

above : (k n : ℕ) → 10 ≤ n → digits_in (suc k) n ≡ digits_in k (n / 10) ++ (48 + n % 10) ∷ []
unfolding digits_in
above k n h = ap (λ (t : Bool). cond t ((48 + n) ∷ []) (digits_in k (n / 10) ++ (48 + n % 10) ∷ [])) (le-ltb n 10 h)

-- a number is below ten or not
by_size : {P : Type 0} (n : ℕ) → (n < 10 → P) → (10 ≤ n → P) → P
by_size {P} n f g = go (ltb n 10) refl
  where
    go : (t : Bool) → ltb n 10 ≡ t → P
    go true e = f (ltb-true n 10 e)
    go false e = g (ltb-false n 10 e)

-- n divisions are enough, and so are more
enough : (k j n : ℕ) → n ≤ k → n ≤ j → digits_in k n ≡ digits_in j n
unfolding digits_in
enough zero zero n h l = refl
enough zero (suc j) n h l = sym (below j n (omega arith))
enough (suc k) zero n h l = below k n (omega arith)
enough (suc k) (suc j) n h l =
    by_size n (λ s. below k n s ∙ sym (below j n s))
    (λ g.
    let tenth : digits_in k (n / 10) ≡ digits_in j (n / 10) = enough k j (n / 10) (omega arith) (omega arith) in
    above k n g ∙ ap (λ (x : List ℕ). x ++ (48 + n % 10) ∷ []) tenth ∙ sym (above j n g))

pub decimal-below : (n : ℕ) → n < 10 → decimal n ≡ (48 + n) ∷ []
unfolding decimal
decimal-below n h = enough n 9 n (omega arith) (omega arith) ∙ below 8 n h

pub decimal_above : (n : ℕ) → 10 ≤ n → decimal n ≡ decimal (n / 10) ++ (48 + n % 10) ∷ []
unfolding decimal
decimal_above n h =
    enough n (suc n) n (omega arith) (omega arith) ∙ above n n h
    ∙ ap (λ (x : List ℕ). x ++ (48 + n % 10) ∷ []) (enough n (n / 10) (n / 10) (omega arith) (omega arith))

-- what `{}` and the crate itoa print
last_digit_appended : AppendsLastDigit digits_in
last_digit_appended = record { one = below; more = above }

pub printed_decimal : (n : ℕ) → n < 2 ^ 64 → printed n ≡ decimal n
unfolding decimal
printed_decimal n h =
    sym (decimal_from_appends digits_in last_digit_appended (n + 1) n h (length-decimal-le_succ n h)) ∙ enough (n + 1) n n (omega arith) (omega arith)

-- how many digits
most_digits : (k n : ℕ) → 0 < k → n < 10 ^ k → n < 2 ^ 64 → length (decimal n) ≤ k
most_digits k n p h l = omega (arith, ap length (printed_decimal n l), length-decimal-le k n p h l)

pub two_digits : (n : ℕ) → n < 100 → length (decimal n) ≤ 2
two_digits n h = most_digits 2 n (omega arith) (omega arith) (omega arith)

pub ten_digits : (n : ℕ) → n < 4294967296 → length (decimal n) ≤ 10
ten_digits n h = most_digits 10 n (omega arith) (omega arith) (omega arith)

pub twenty_digits : (n : ℕ) → n < 18446744073709551616 → length (decimal n) ≤ 20
twenty_digits n h = most_digits 20 n (omega arith) (omega arith) (omega arith)

-- What holds below ten and passes from a tenth to the number holds of every number.
by_tenths : (P : ℕ → Type 0) → ((n : ℕ) → n < 10 → P n) → ((n : ℕ) → 10 ≤ n → P (n / 10) → P n) → (n : ℕ) → P n
by_tenths P few more n = go n n (omega arith)
  where
    go : (k n : ℕ) → n ≤ k → P n
    go zero n h = few n (omega arith)
    go (suc k) n h = by_size n (few n) (λ g. more n g (go k (n / 10) (omega arith)))

-- A digit more at the end.
read_on_last : (n : ℕ) (ds : List ℕ) (d : ℕ) → read_on n (ds ++ d ∷ []) ≡ 10 * read_on n ds + (d - 48)
unfolding read_on
read_on_last n [] d = refl
read_on_last n (b ∷ ds) d = read_on_last (10 * n + (b - 48)) ds d

digits_last : (ds : List ℕ) (d : ℕ) → Digits ds → Digit d → Digits (ds ++ d ∷ [])
digits_last [] d h k = (k, tt)
digits_last (b ∷ ds) d h k = (h.0, digits_last ds d h.1 k)

front_last : (ds : List ℕ) (d : ℕ) → 1 ≤ length ds → get_or (ds ++ d ∷ []) 0 0 ≡ get_or ds 0 0
front_last ds d h = get_or-append ds (d ∷ []) 0 0 h

-- What the digits are: none of them is anything else, one stands at least, and of a number other than 0 the first is not `0`.
record Spelt (n : ℕ) (ds : List ℕ) : Type 0 where
  digits : Digits ds
  some : 1 ≤ length ds
  lead : 1 ≤ n → get_or ds 0 0 ≢ 48
  reads : read_back ds ≡ n

spelt_below : (n : ℕ) → n < 10 → Spelt n (decimal n)
unfolding read_on
spelt_below n h =
    subst (Spelt n) (sym (decimal-below n h))
    (record {
      digits = (record { low = omega arith; high = omega arith }, tt);
      some = omega arith;
      lead = λ l e. omega arith;
      reads = omega arith;
    })

spelt_above : (n : ℕ) → 10 ≤ n → Spelt (n / 10) (decimal (n / 10)) → Spelt n (decimal n)
spelt_above n h t =
    subst (Spelt n) (sym (decimal_above n h))
    (record {
      digits = digits_last (decimal (n / 10)) (48 + n % 10) t.digits (record { low = omega arith; high = omega arith });
      some = omega (arith, length-append (decimal (n / 10)) ((48 + n % 10) ∷ []));
      lead = λ l e. t.lead (omega arith) (sym (front_last (decimal (n / 10)) (48 + n % 10) t.some) ∙ e);
      reads = omega (arith, read_on_last 0 (decimal (n / 10)) (48 + n % 10), t.reads);
    })

spelt : (n : ℕ) → Spelt n (decimal n)
spelt = by_tenths (λ n. Spelt n (decimal n)) spelt_below spelt_above

pub decimal_is_numeral : DecimalIsNumeral
decimal_is_numeral n =
    let t = spelt n in
    record {
      digits = t.digits;
      some = t.some;
      front = λ l. by_size n (λ h. absurd (omega (arith, ap length (decimal-below n h)))) (λ h. t.lead (omega arith));
      reads = t.reads;
    }

pub decimal_tells : DecimalTells
decimal_tells m n e = sym (decimal_is_numeral m).reads ∙ ap read_back e ∙ (decimal_is_numeral n).reads

-- Other bytes that write the number: their last digit, and what stands before it.
record Parted (ds : List ℕ) : Type 0 where
  init : List ℕ
  last : ℕ
  whole : ds ≡ init ++ last ∷ []

parted : (b : ℕ) (bs : List ℕ) → Parted (b ∷ bs)
parted b [] = record { init = []; last = b; whole = refl }
parted b (c ∷ bs) = let r = parted c bs in record { init = b ∷ r.init; last = r.last; whole = ap (λ (x : List ℕ). b ∷ x) r.whole }

digits_parts : (xs : List ℕ) (x : ℕ) → Digits (xs ++ x ∷ []) → Digits xs × Digit x
digits_parts [] x h = (tt, h.0)
digits_parts (b ∷ xs) x h = let r = digits_parts xs x h.1 in ((h.0, r.0), r.1)

reads_on : (n : ℕ) (ds : List ℕ) → n ≤ read_on n ds
unfolding read_on
reads_on n [] = omega arith
reads_on n (d ∷ ds) = omega (arith, reads_on (10 * n + (d - 48)) ds)

more_than_0 : (b : ℕ) (bs : List ℕ) → Digit b → b ≢ 48 → 1 ≤ read_back (b ∷ bs)
unfolding read_on
more_than_0 b bs h ne = omega (arith, reads_on (10 * 0 + (b - 48)) bs, h.low)

after : (n : ℕ) (xs : List ℕ) (x : ℕ) → ((q : ℕ) → Numeral q xs → xs ≡ decimal q) → Numeral n (xs ++ x ∷ []) → xs ++ x ∷ [] ≡ decimal n
unfolding read_on
after n [] x before w =
    let d = w.digits.0 in
    let e : x ≡ 48 + n = omega (arith, w.reads, d.low) in
    ap (λ (y : ℕ). y ∷ []) e ∙ sym (decimal-below n (omega (arith, w.reads, d.low, d.high)))
after n (b ∷ bs) x before w =
    let d = digits_parts (b ∷ bs) x w.digits in
    let ne : b ≢ 48 = w.front (omega (arith, length-append (b ∷ bs) (x ∷ []))) in
    let q = read_back (b ∷ bs) in
    let v : 10 * q + (x - 48) ≡ n = sym (read_on_last 0 (b ∷ bs) x) ∙ w.reads in
    let some : 1 ≤ q = more_than_0 b bs d.0.0 ne in
    let first : b ∷ bs ≡ decimal q = before q (record { digits = d.0; some = omega arith; front = λ l. ne; reads = refl }) in
    let tenth : n / 10 ≡ q = omega (arith, d.1.high) in
    let last : x ≡ 48 + n % 10 = omega (arith, d.1.high, d.1.low) in
    ap₂ (λ (l : List ℕ) (y : ℕ). l ++ y ∷ []) (first ∙ ap decimal (sym tenth)) last ∙ sym (decimal_above n (omega arith))

alone : (k n : ℕ) (ds : List ℕ) → length ds ≤ k → Numeral n ds → ds ≡ decimal n
alone zero n ds h w = absurd (omega (arith, w.some))
alone (suc k) n [] h w = absurd (omega (arith, w.some))
alone (suc k) n (b ∷ bs) h w =
    let r = parted b bs in
    let l : length r.init ≤ k = omega (arith, ap length r.whole, length-append r.init (r.last ∷ [])) in
    r.whole ∙ after n r.init r.last (λ q. alone k q r.init l) (subst (Numeral n) r.whole w)

pub one_numeral : OneNumeral
one_numeral n ds w = alone (length ds) n ds (omega arith) w
