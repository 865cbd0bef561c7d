-- Laws of sets of processes (specs/Sets.antt): tests and counts over 1 to k first, then members, then sizes.
use mathlib.Core.Path.{◌≡◌, refl, sym, ap, ap₂, ◌∙◌, subst}
use mathlib.Core.Logic.{◌≢◌, ◌⊎◌, inl, inr, ⊎_elim}
use mathlib.Core.Bool.{Bool, true, false, ◌&&◌, cond, true≢false, and-eq-true_iff, and-false}
use Prim.Native.Nat.{ℕ, zero, suc, ◌+◌, ◌-◌, ◌*◌, ◌/◌, ◌%◌, ◌^◌, ◌≤◌, ◌<◌, min}
use native.Mathlib.Nat.{le-suc_iff, min-le_right, min-eq_left, min-eq_right, pow-suc, lt_of_le_of_lt, div-mul-le_self}
use native.Mathlib.Decide.{ℕ_discrete}
use native.Mathlib.Omega.{arith}
use lib.Dec.{leb, eqb}
use lib.Pow.{pow_mono, ones_lt}
use lib.Count.{ones, ones_step}
use borrow.Author.Tests.{leb-true, leb-false, le-leb, lt-leb, eqb-true, eqb-false}
use Rattle.sets.specs.Members.{known, has, tick, count, size}
use Rattle.sets.specs.Sets.{plus, first, every, within, set_of, upwards}
use Rattle.sets.proofs.Digits.{digit, digit_is, digit_small, digit_zero, digit_above, digits_equal, add_here, add_other, add_below, ones_digit, cleared_digit}

pub either : (b : Bool) → (b ≡ true) ⊎ (b ≡ false)
either true = inl refl
either false = inr refl

-- tests that are true together are equal
pub same_truth : (a b : Bool) → (a ≡ true → b ≡ true) → (b ≡ true → a ≡ true) → a ≡ b
same_truth true b p q = sym (p refl)
same_truth false true p q = q refl
same_truth false false p q = refl

both : (a b : Bool) → a ≡ true → b ≡ true → (a && b) ≡ true
both a b p q = (and-eq-true_iff a b).1 (p, q)

-- ---- tests of all of 1 to k

pub every_true : (k : ℕ) (f : ℕ → Bool) → every k f ≡ true → (i : ℕ) → 1 ≤ i → i ≤ k → f i ≡ true
unfolding every
every_true zero f e i l h = absurd (omega arith)
every_true (suc k) f e i l h =
    let parts = (and-eq-true_iff (f (suc k)) (every k f)).0 e in
    ⊎_elim (every_true k f parts.1 i l) (λ q. ap f q ∙ parts.0) (le-suc_iff.0 h)

pub true_every : (k : ℕ) (f : ℕ → Bool) → ((i : ℕ) → 1 ≤ i → i ≤ k → f i ≡ true) → every k f ≡ true
unfolding every
true_every zero f h = refl
true_every (suc k) f h = both (f (suc k)) (every k f) (h (suc k) (omega arith) (omega arith)) (true_every k f (λ i l u. h i l (omega arith)))

pub every_ext : (k : ℕ) (f g : ℕ → Bool) → ((i : ℕ) → 1 ≤ i → i ≤ k → f i ≡ g i) → every k f ≡ every k g
unfolding every
every_ext zero f g h = refl
every_ext (suc k) f g h =
    ap₂ (λ (a b : Bool). a && b) (h (suc k) (omega arith) (omega arith)) (every_ext k f g (λ i l u. h i l (omega arith)))

-- ---- counts over 1 to k

tick_le : (b : Bool) → tick b ≤ 1
tick_le true = omega arith
tick_le false = omega arith

tick_mono : (a b : Bool) → (a ≡ true → b ≡ true) → tick a ≤ tick b
tick_mono true b h = omega (arith, ap tick (h refl))
tick_mono false b h = omega arith

pub count_ext : (f g : ℕ → Bool) (k : ℕ) → ((i : ℕ) → 1 ≤ i → i ≤ k → f i ≡ g i) → count f k ≡ count g k
unfolding count
count_ext f g zero h = refl
count_ext f g (suc k) h =
    ap₂ (λ (a : Bool) (n : ℕ). tick a + n) (h (suc k) (omega arith) (omega arith)) (count_ext f g k (λ i l u. h i l (omega arith)))

pub count_le : (f : ℕ → Bool) (k : ℕ) → count f k ≤ k
unfolding count
count_le f zero = omega arith
count_le f (suc k) = omega (arith, tick_le (f (suc k)), count_le f k)

pub count_mono : (f g : ℕ → Bool) (k : ℕ) → ((i : ℕ) → 1 ≤ i → i ≤ k → f i ≡ true → g i ≡ true) → count f k ≤ count g k
unfolding count
count_mono f g zero h = omega arith
count_mono f g (suc k) h =
    omega (arith, tick_mono (f (suc k)) (g (suc k)) (h (suc k) (omega arith) (omega arith)), count_mono f g k (λ i l u. h i l (omega arith)))

pub count_one_less : (f g : ℕ → Bool) (k : ℕ) → ((i : ℕ) → 1 ≤ i → i ≤ k → f i ≡ true → g i ≡ true)
    → (q : ℕ) → 1 ≤ q → q ≤ k → g q ≡ true → f q ≡ false → count f k + 1 ≤ count g k
unfolding count
count_one_less f g zero h q l u y n = omega arith
count_one_less f g (suc k) h q l u y n =
    ⊎_elim
    (λ below. omega (
      arith,
      count_one_less f g k (λ i a b. h i a (omega arith)) q l below y n,
      tick_mono (f (suc k)) (g (suc k)) (h (suc k) (omega arith) (omega arith)),
    ))
    (λ here. omega (
      arith,
      ap (λ i. tick (g i)) (sym here) ∙ ap tick y,
      ap (λ i. tick (f i)) (sym here) ∙ ap tick n,
      count_mono f g k (λ i a b. h i a (omega arith)),
    ))
    (le-suc_iff.0 u)

pub count_same : (f g : ℕ → Bool) (k : ℕ) → ((i : ℕ) → 1 ≤ i → i ≤ k → f i ≡ true → g i ≡ true)
    → count f k ≡ count g k → (i : ℕ) → 1 ≤ i → i ≤ k → g i ≡ true → f i ≡ true
count_same f g k h e i l u t =
    ⊎_elim (λ p. p) (λ n. absurd (omega (arith, count_one_less f g k h i l u t n))) (either (f i))

pub count_beyond : (f : ℕ → Bool) (k l : ℕ) → ((i : ℕ) → k < i → i ≤ l → f i ≡ false) → k ≤ l → count f l ≡ count f k
unfolding count
count_beyond f k zero h u = let none : zero ≡ k = omega arith in ap (count f) none
count_beyond f k (suc l) h u =
    ⊎_elim
    (λ below. omega (arith, ap tick (h (suc l) (omega arith) (omega arith)), count_beyond f k l (λ i a b. h i a (omega arith)) below))
    (λ here. ap (count f) (sym here))
    (le-suc_iff.0 u)

-- the count from below
count_low : (f : ℕ → Bool) (k : ℕ) → count f (suc k) ≡ tick (f 1) + count (λ i. f (suc i)) k
unfolding count
count_low f zero = refl
count_low f (suc k) = omega (arith, count_low f k)

-- ---- members

pub known_true : (i : ℕ) → known i ≡ true → (1 ≤ i) × (i ≤ 32)
known_true i e = let parts = (and-eq-true_iff (leb 1 i) (leb i 32)).0 e in (leb-true 1 i parts.0, leb-true i 32 parts.1)

pub true_known : (i : ℕ) → 1 ≤ i → i ≤ 32 → known i ≡ true
true_known i l u = both (leb 1 i) (leb i 32) (le-leb 1 i l) (le-leb i 32 u)

pub unknown_below : (i : ℕ) → i < 1 → known i ≡ false
unknown_below i h = ap (λ (b : Bool). b && leb i 32) (lt-leb 1 i h)

pub unknown_above : (i : ℕ) → 32 < i → known i ≡ false
unknown_above i h = ap (λ (b : Bool). leb 1 i && b) (lt-leb i 32 h) ∙ and-false (leb 1 i)

-- a member by its digit
has-digit : (s i : ℕ) → has s i ≡ (known i && eqb (digit s (i - 1)) 1)
unfolding has
has-digit s i = ap (λ (d : ℕ). known i && eqb d 1) (digit_is s (i - 1))

pub known-digit : (s i : ℕ) → known i ≡ true → has s i ≡ eqb (digit s (i - 1)) 1
known-digit s i e = has-digit s i ∙ ap (λ (b : Bool). b && eqb (digit s (i - 1)) 1) e

pub digit_out : (s i : ℕ) → known i ≡ true → has s i ≡ false → digit s (i - 1) ≡ 0
digit_out s i k e =
    let other : digit s (i - 1) ≢ 1 = eqb-false (digit s (i - 1)) 1 (sym (known-digit s i k) ∙ e) in
    omega (arith, digit_small s (i - 1))

pub unknown_has : (s i : ℕ) → known i ≡ false → has s i ≡ false
unfolding has
unknown_has s i e = ap (λ (b : Bool). b && eqb (s / 2 ^ (i - 1) % 2) 1) e

member_known : (s i : ℕ) → has s i ≡ true → known i ≡ true
unfolding has
member_known s i e = ((and-eq-true_iff (known i) (eqb (s / 2 ^ (i - 1) % 2) 1)).0 e).0

pub digit_in : (s i : ℕ) → has s i ≡ true → digit s (i - 1) ≡ 1
digit_in s i e = eqb-true (digit s (i - 1)) 1 (sym (known-digit s i (member_known s i e)) ∙ e)

pub has-known : (s i : ℕ) → has s i ≡ true → (1 ≤ i) × (i ≤ 32)
has-known s i e = known_true i (member_known s i e)

pub has_zero : (i : ℕ) → has 0 i ≡ false
has_zero i = has-digit 0 i ∙ ap (λ (d : ℕ). known i && eqb d 1) (digit_zero (i - 1)) ∙ and-false (known i)

one_digit : (d e : ℕ) → d ≤ 1 → e ≤ 1 → eqb d 1 ≡ eqb e 1 → d ≡ e
one_digit d e hd he q =
    ⊎_elim
    (λ y. eqb-true d 1 y ∙ sym (eqb-true e 1 (sym q ∙ y)))
    (λ n.
    let no-d : d ≢ 1 = eqb-false d 1 n in
    let no-e : e ≢ 1 = eqb-false e 1 (sym q ∙ n) in
    omega arith)
    (either (eqb d 1))

-- numbers below 2 ^ 32 with the same members are equal
pub members_equal : (s t : ℕ) → s < 2 ^ 32 → t < 2 ^ 32 → ((i : ℕ) → has s i ≡ has t i) → s ≡ t
members_equal s t hs ht e = digits_equal 32 s t hs ht (λ k l. same k (true_known (suc k) (omega arith) (omega arith)))
  where
    at : (r k : ℕ) → known (suc k) ≡ true → has r (suc k) ≡ eqb (digit r k) 1
    at r k h = let back : suc k - 1 ≡ k = omega arith in known-digit r (suc k) h ∙ ap (λ (j : ℕ). eqb (digit r j) 1) back

    same : (k : ℕ) → known (suc k) ≡ true → digit s k ≡ digit t k
    same k h = one_digit (digit s k) (digit t k) (digit_small s k) (digit_small t k) (sym (at s k h) ∙ e (suc k) ∙ at t k h)

-- ---- a process added

pub plus_idle : (s i : ℕ) → has s i ≡ true → plus s i ≡ s
unfolding plus
plus_idle s i e = rw (e, and-false)

pub plus_unknown : (s i : ℕ) → known i ≡ false → plus s i ≡ s
unfolding plus
plus_unknown s i e = rw e

pub plus-new : (s i : ℕ) → known i ≡ true → has s i ≡ false → plus s i ≡ s + 2 ^ (i - 1)
unfolding plus
plus-new s i k e = rw (k, e)

-- adding i changes nothing, or sets a digit that was 0
abbrev New : ℕ → ℕ → Type 0
New s i = (known i ≡ true) × (has s i ≡ false) × (plus s i ≡ s + 2 ^ (i - 1))

plus_cases : (s i : ℕ) → (plus s i ≡ s) ⊎ New s i
plus_cases s i =
    ⊎_elim
    (λ y. inl (plus_idle s i y))
    (λ n. ⊎_elim (λ k. inr (k, n, plus-new s i k n)) (λ k. inl (plus_unknown s i k)) (either (known i)))
    (either (has s i))

pub has-plus-same : (s i : ℕ) → 1 ≤ i → i ≤ 32 → has (plus s i) i ≡ true
has-plus-same s i l u =
    let k = true_known i l u in
    ⊎_elim
    (λ y. ap (λ (r : ℕ). has r i) (plus_idle s i y) ∙ y)
    (λ n.
    ap (λ (r : ℕ). has r i) (plus-new s i k n) ∙ known-digit (s + 2 ^ (i - 1)) i k
    ∙ ap (λ (d : ℕ). eqb d 1) (add_here (i - 1) s (digit_out s i k n)))
    (either (has s i))

pub has-plus_other : (s i j : ℕ) → i ≢ j → has (plus s i) j ≡ has s j
has-plus_other s i j d =
    ⊎_elim
    (ap (λ (r : ℕ). has r j))
    (λ new.
    ap (λ (r : ℕ). has r j) new.2
    ∙ ⊎_elim (apart new) (λ n. unknown_has (s + 2 ^ (i - 1)) j n ∙ sym (unknown_has s j n)) (either (known j)))
    (plus_cases s i)
  where
    apart : New s i → known j ≡ true → has (s + 2 ^ (i - 1)) j ≡ has s j
    apart new k =
        let places : i - 1 ≢ j - 1 = omega (arith, known_true i new.0, known_true j k) in
        known-digit (s + 2 ^ (i - 1)) j k
        ∙ ap (λ (x : ℕ). eqb x 1) (add_other (i - 1) (j - 1) s (digit_out s i new.0 new.1) places)
        ∙ sym (known-digit s j k)

pub has-plus_keeps : (s i j : ℕ) → has s j ≡ true → has (plus s i) j ≡ true
has-plus_keeps s i j e =
    ⊎_elim
    (λ y. ap (λ (r : ℕ). has r j) (plus_idle s i y) ∙ e)
    (λ n. has-plus_other s i j (λ q. true≢false (sym e ∙ ap (has s) (sym q) ∙ n)) ∙ e)
    (either (has s i))

pub has-plus_cases : (s i j : ℕ) → has (plus s i) j ≡ true → (i ≡ j) ⊎ (has s j ≡ true)
has-plus_cases s i j e = elim (ℕ_discrete i j) [ yes q ↦ inl q | no d ↦ inr (sym (has-plus_other s i j d) ∙ e) ]

pub plus-below : (s i : ℕ) → s < 2 ^ 32 → plus s i < 2 ^ 32
plus-below s i h =
    ⊎_elim
    (λ q. subst (λ (r : ℕ). r < 2 ^ 32) (sym q) h)
    (λ new. subst (λ (r : ℕ). r < 2 ^ 32) (sym new.2)
    (add_below 32 (i - 1) s h (omega (arith, known_true i new.0)) (digit_out s i new.0 new.1)))
    (plus_cases s i)

-- ---- the first k

pub first_some : (k : ℕ) → k ≤ 32 → first k ≡ 2 ^ k - 1
unfolding first
first_some k h = ap (λ (m : ℕ). 2 ^ m - 1) (min-eq_left h)

pub first_all : (k : ℕ) → 32 ≤ k → first k ≡ 2 ^ 32 - 1
unfolding first
first_all k h = ap (λ (m : ℕ). 2 ^ m - 1) (min-eq_right h)

pub first_below : (k : ℕ) → first k < 2 ^ 32
unfolding first
first_below k = omega (arith, ones_lt (min k 32), pow_mono (min-le_right k 32))

pub has_first : (k i : ℕ) → has (first k) i ≡ (known i && leb i k)
unfolding first
has_first k i =
    ⊎_elim
    (λ h. known-digit (first k) i h ∙ digit_at (known_true i h) ∙ ap (λ (b : Bool). b && leb i k) (sym h))
    (λ n. unknown_has (first k) i n ∙ ap (λ (b : Bool). b && leb i k) (sym n))
    (either (known i))
  where
    digit_at : (1 ≤ i) × (i ≤ 32) → eqb (digit (2 ^ min k 32 - 1) (i - 1)) 1 ≡ leb i k
    digit_at h =
        ⊎_elim
        (λ l. let in_reach = leb-true i k l in ap (λ (d : ℕ). eqb d 1) (ones_digit (min k 32) (i - 1) (omega arith)) ∙ sym l)
        (λ l.
        let past = leb-false i k l in
        ap (λ (d : ℕ). eqb d 1) (digit_above (min k 32) (i - 1) (2 ^ min k 32 - 1) (ones_lt (min k 32)) (omega arith)) ∙ sym l)
        (either (leb i k))

-- ---- the set of those that pass a test

pub set_of-below : (f : ℕ → Bool) (k : ℕ) → set_of f k < 2 ^ 32
unfolding set_of
set_of-below f zero = omega arith
set_of-below f (suc k) =
    ⊎_elim (λ t. rw t (plus-below _ _ (set_of-below f k))) (λ n. rw n (set_of-below f k)) (either (f (suc k)))

set_of-passes : (f : ℕ → Bool) (k i : ℕ) → has (set_of f k) i ≡ true → (i ≤ k) × (f i ≡ true)
unfolding set_of
set_of-passes f zero i m = absurd (true≢false (sym m ∙ has_zero i))
set_of-passes f (suc k) i m =
    ⊎_elim
    (λ new. (omega arith, ap f (sym new.0) ∙ new.1))
    (λ old. let before = set_of-passes f k i old in (omega arith, before.1))
    (last (f (suc k)) m)
  where
    last : (b : Bool) → has (cond b (plus (set_of f k) (suc k)) (set_of f k)) i ≡ true → ((suc k ≡ i) × (b ≡ true)) ⊎ (has (set_of f k) i ≡ true)
    last true h = ⊎_elim (λ q. inl (q, refl)) inr (has-plus_cases (set_of f k) (suc k) i h)
    last false h = inr h

passes-set_of : (f : ℕ → Bool) (k i : ℕ) → 1 ≤ i → i ≤ 32 → i ≤ k → f i ≡ true → has (set_of f k) i ≡ true
unfolding set_of
passes-set_of f zero i l u h t = absurd (omega arith)
passes-set_of f (suc k) i l u h t =
    ⊎_elim
    (λ below. kept (f (suc k)) (passes-set_of f k i l u below t))
    (λ here. subst (λ (j : ℕ). has (cond (f (suc k)) (plus (set_of f k) (suc k)) (set_of f k)) j ≡ true) (sym here)
    (put (f (suc k)) (ap f (sym here) ∙ t) (omega arith)))
    (le-suc_iff.0 h)
  where
    kept : (b : Bool) → has (set_of f k) i ≡ true → has (cond b (plus (set_of f k) (suc k)) (set_of f k)) i ≡ true
    kept true m = has-plus_keeps (set_of f k) (suc k) i m
    kept false m = m

    put : (b : Bool) → b ≡ true → suc k ≤ 32 → has (cond b (plus (set_of f k) (suc k)) (set_of f k)) (suc k) ≡ true
    put true q v = has-plus-same (set_of f k) (suc k) (omega arith) v
    put false q v = absurd (true≢false (sym q))

pub has-set_of : (f : ℕ → Bool) (k i : ℕ) → has (set_of f k) i ≡ (known i && leb i k && f i)
has-set_of f k i =
    same_truth (has (set_of f k) i) (known i && leb i k && f i)
    (λ m.
    let made = set_of-passes f k i m in
    both (known i && leb i k) (f i) (both (known i) (leb i k) (member_known (set_of f k) i m) (le-leb i k made.0)) made.1)
    (λ t.
    let outer = (and-eq-true_iff (known i && leb i k) (f i)).0 t in
    let inner = (and-eq-true_iff (known i) (leb i k)).0 outer.0 in
    let range = known_true i inner.0 in
    passes-set_of f k i range.0 range.1 (leb-true i k inner.1) outer.1)

-- ---- one set inside another

pub within_true : (s t : ℕ) → within s t ≡ true → (i : ℕ) → has s i ≡ true → has t i ≡ true
unfolding within
within_true s t e i m =
    let range = has-known s i m in
    ap (λ (b : Bool). cond b (has t i) true) (sym m) ∙ every_true 32 (λ j. cond (has s j) (has t j) true) e i range.0 range.1

pub true_within : (s t : ℕ) → ((i : ℕ) → has s i ≡ true → has t i ≡ true) → within s t ≡ true
unfolding within
true_within s t h = true_every 32 (λ j. cond (has s j) (has t j) true) (λ i l u. implied (has s i) (has t i) (h i))
  where
    implied : (a b : Bool) → (a ≡ true → b ≡ true) → cond a b true ≡ true
    implied true b p = p refl
    implied false b p = refl

-- ---- sizes

tick-digit : (d : ℕ) → d ≤ 1 → tick (eqb d 1) ≡ d
tick-digit zero h = refl
tick-digit (suc zero) h = refl
tick-digit (suc (suc d)) h = absurd (omega arith)

-- the digits that are 1, counted from above and from below
digits_count : (k s : ℕ) → s < 2 ^ k → count (λ i. eqb (digit s (i - 1)) 1) k ≡ ones s
unfolding digit count ones
digits_count zero s h = let none : zero ≡ s = omega arith in ap ones none
digits_count (suc k) s h =
    let lowest : tick (eqb (s % 2) 1) ≡ s % 2 = tick-digit (s % 2) (omega arith) in
    let rest : count (λ i. eqb (digit s (suc i - 1)) 1) k ≡ count (λ i. eqb (digit (s / 2) (i - 1)) 1) k =
    count_ext _ _ k (λ i l u. let step : suc i - 1 ≡ suc (i - 1) = omega arith in ap (λ (j : ℕ). eqb (digit s j) 1) step) in
    count_low (λ i. eqb (digit s (i - 1)) 1) k ∙ ap₂ (λ (a b : ℕ). a + b) lowest (rest ∙ digits_count k (s / 2) (omega (arith, pow-suc 2 k)))
    ∙ sym (ones_step s)

pub size_ones : (s : ℕ) → s < 2 ^ 32 → size s ≡ ones s
unfolding size
size_ones s h = count_ext (has s) (λ i. eqb (digit s (i - 1)) 1) 32 (λ i l u. known-digit s i (true_known i l u)) ∙ digits_count 32 s h

-- ---- the processes from k on

pub upwards-below : (s k : ℕ) → upwards s k < 2 ^ 32
unfolding upwards
upwards-below s k = set_of-below _ 32

pub has-upwards : (s k i : ℕ) → has (upwards s k) i ≡ (leb k i && has s i)
unfolding upwards
has-upwards s k i =
    has-set_of (λ i. leb k i && has s i) 32 i
    ∙ ⊎_elim
    (λ h. let q = known_true i h in ap₂ (λ (a b : Bool). a && b && (leb k i && has s i)) h (le-leb i 32 q.1))
    (λ n.
    ap (λ (b : Bool). b && leb i 32 && (leb k i && has s i)) n
    ∙ sym (ap (λ (b : Bool). leb k i && b) (unknown_has s i n) ∙ and-false (leb k i)))
    (either (known i))

-- the digits below k - 1 put to 0
pub cleared_upwards : (s k : ℕ) → s < 2 ^ 32 → 1 ≤ k → s / 2 ^ (k - 1) * 2 ^ (k - 1) ≡ upwards s k
cleared_upwards s k h l =
    members_equal (s / 2 ^ (k - 1) * 2 ^ (k - 1)) (upwards s k) (lt_of_le_of_lt (div-mul-le_self s (2 ^ (k - 1))) h) (upwards-below s k)
    (λ i. ⊎_elim (inside i) (λ n. unknown_has (s / 2 ^ (k - 1) * 2 ^ (k - 1)) i n ∙ sym (unknown_has (upwards s k) i n)) (either (known i)))
  where
    picked : (b : Bool) (d : ℕ) → eqb (cond b d 0) 1 ≡ (b && eqb d 1)
    picked true d = refl
    picked false d = refl

    shifted : (i : ℕ) → 1 ≤ i → leb (k - 1) (i - 1) ≡ leb k i
    shifted i u =
        same_truth (leb (k - 1) (i - 1)) (leb k i)
        (λ t. let q = leb-true (k - 1) (i - 1) t in le-leb k i (omega arith))
        (λ t. let q = leb-true k i t in le-leb (k - 1) (i - 1) (omega arith))

    inside : (i : ℕ) → known i ≡ true → has (s / 2 ^ (k - 1) * 2 ^ (k - 1)) i ≡ has (upwards s k) i
    inside i n =
        known-digit (s / 2 ^ (k - 1) * 2 ^ (k - 1)) i n ∙ ap (λ (d : ℕ). eqb d 1) (cleared_digit (k - 1) (i - 1) s)
        ∙ picked (leb (k - 1) (i - 1)) (digit s (i - 1)) ∙ ap₂ ◌&&◌ (shifted i (known_true i n).0) (sym (known-digit s i n)) ∙ sym (has-upwards s k i)

pub upwards_all : (s k : ℕ) → s < 2 ^ 32 → k < 1 → s ≡ upwards s k
upwards_all s k h l =
    members_equal s (upwards s k) h (upwards-below s k)
    (λ i. sym (has-upwards s k i ∙ ap (λ (b : Bool). b && has s i) (le-leb k i (omega arith))))

pub upwards-none : (s k : ℕ) → 32 < k → ◌≡◌ {A = ℕ} 0 (upwards s k)
upwards-none s k l = members_equal 0 (upwards s k) (omega arith) (upwards-below s k) (λ i. has_zero i ∙ sym (has-upwards s k i ∙ ⊎_elim (above i) (λ n. ap (λ (b : Bool). leb k i && b) n ∙ and-false (leb k i)) (either (has s i))))
  where
    above : (i : ℕ) → has s i ≡ true → (leb k i && has s i) ≡ false
    above i h = let q = has-known s i h in ap (λ (b : Bool). b && has s i) (lt-leb k i (omega arith))
