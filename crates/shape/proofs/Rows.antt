-- The rows as the shape test sees them: processes sorted by the lowest row that each has written, and the sets that the rows must have.
use mathlib.Core.Path.{◌≡◌, refl, sym, ap, ap₂, subst, subst⁻¹, ◌∙◌}
use mathlib.Core.Bool.{Bool, true, false, not, cond, ◌&&◌, ◌||◌, false≢true, and-false, and-true, or-false}
use mathlib.Core.List.{List}
use mathlib.Core.Logic.{⊎_elim}
use Prim.Native.Nat.{ℕ, zero, suc, ◌+◌, ◌-◌, ◌*◌, ◌^◌, ◌≤◌, ◌<◌}
use native.Mathlib.Numerals.{add-one}
use native.Mathlib.Decide.{ℕ_discrete}
use native.Mathlib.Omega.{arith}
use lib.Dec.{leb, ltb, eqb, lit<}
use lib.Bits.{bit_or, or_lt}
use lib.ListN.{length, get_or, set}
use lib.Seq.{get_or-set_same, get_or-set_other}
use borrow.Author.Tests.{leb-true, leb-false, ltb-true, ltb-false, eqb-true, eqb-false, le-leb, lt-leb, lt-ltb, le-ltb, eq-eqb, ne_eqb}
use Rattle.sets.specs.Members.{has, known}
use Rattle.sets.specs.Sets.{plus, set_of, every, same, within}
use Rattle.sets.proofs.Laws.{every_true, true_every, every_ext, set_of-below, has-set_of, members_equal, same_truth, either, true_known, has-known, has_zero, within_true, true_within}
use Rattle.sets.proofs.Bits.{has_or}
use Rattle.rules.specs.declared.Stage.{Stage}
use Rattle.rules.specs.declared.Stage.TheVariants.{Absent, Running, Finished, Crashed}
use Rattle.rules.specs.declared.Process.{Process}
use Rattle.rules.specs.declared.Machine.{Machine}
use Rattle.rules.specs.Stands.{nobody, process_of, stage_of, value_of, row_of, cell_of, entered}
use Rattle.rules.specs.State.{wrote}
use Rattle.rules.specs.Shape.{goes, ends, shaped_stage, shaped_process, shaped_register, shaped_registers, shaped}
use Rattle.shape.specs.Coded.Columns.{LowestRows, cell_good, cells_good, row_good, rows_good, ByRow, ReadOff, writers_of, lowest_at, lowest_row}

-- the index of process i + 1
pub back_one : (i : ℕ) → i + 1 - 1 ≡ i
back_one i = omega arith

-- ---- sorting by lowest row

-- the set of those that pass a test, one more looked at
set_of_more : (f : ℕ → Bool) (i : ℕ) (b : Bool) → f (i + 1) ≡ b → set_of f (i + 1) ≡ cond b (plus (set_of f i) (i + 1)) (set_of f i)
unfolding set_of
set_of_more f i b e =
    subst (λ (j : ℕ). f j ≡ b → set_of f j ≡ cond b (plus (set_of f i) j) (set_of f i)) (sym (add-one i))
    (λ q. ap (λ (t : Bool). cond t (plus (set_of f i) (suc i)) (set_of f i)) q) e

-- process p has lowest row x
abbrev lowest_is : (ℕ → ℕ) → ℕ → ℕ → Bool
lowest_is low x p = eqb (low (p - 1)) x

pub by_row_none : (low : ℕ → ℕ) (buckets : List ℕ) → ((x : ℕ) → x ≤ 33 → get_or buckets x 0 ≡ 0) → ByRow low 0 buckets
unfolding set_of
by_row_none low buckets z = record { at = z }

pub by_row_more : (low : ℕ → ℕ) (buckets : List ℕ) (i l : ℕ) → l ≡ low i → l ≤ 33 → length buckets ≡ 34 → ByRow low i buckets
    → ByRow low (i + 1) (set buckets l (plus (get_or buckets l 0) (i + 1)))
by_row_more low buckets i l lowest h n b = record { at = λ x le. elim (ℕ_discrete l x) [ yes e ↦ here x le e | no ne ↦ there x le ne ] }
  where
    inside : l < length buckets
    inside = subst (λ (k : ℕ). l < k) (sym n) (omega arith)

    at_next : (x : ℕ) → lowest_is low x (i + 1) ≡ eqb l x
    at_next x = ap (λ (k : ℕ). eqb k x) (ap low (back_one i) ∙ sym lowest)

    here : (x : ℕ) → x ≤ 33 → l ≡ x → get_or (set buckets l (plus (get_or buckets l 0) (i + 1))) x 0 ≡ set_of (lowest_is low x) (i + 1)
    here x le e =
        ap (λ (k : ℕ). get_or (set buckets l (plus (get_or buckets l 0) (i + 1))) k 0) (sym e)
        ∙ get_or-set_same buckets l (plus (get_or buckets l 0) (i + 1)) 0 inside
        ∙ ap (λ (s : ℕ). plus s (i + 1)) (ap (λ (k : ℕ). get_or buckets k 0) e ∙ b.at x le)
        ∙ sym (set_of_more (lowest_is low x) i true (at_next x ∙ eq-eqb l x e))

    there : (x : ℕ) → x ≤ 33 → (l ≡ x → ⊥) → get_or (set buckets l (plus (get_or buckets l 0) (i + 1))) x 0 ≡ set_of (lowest_is low x) (i + 1)
    there x le ne =
        get_or-set_other buckets l x (plus (get_or buckets l 0) (i + 1)) 0 (λ e. ne (sym e)) ∙ b.at x le
        ∙ sym (set_of_more (lowest_is low x) i false (at_next x ∙ ne_eqb l x ne))

-- ---- sets made of tests

set_of_ext : (f g : ℕ → Bool) (k : ℕ) → ((i : ℕ) → 1 ≤ i → i ≤ k → f i ≡ g i) → set_of f k ≡ set_of g k
unfolding set_of
set_of_ext f g zero h = refl
set_of_ext f g (suc k) h =
    ap₂ (λ (b : Bool) (s : ℕ). cond b (plus s (suc k)) s) (h (suc k) (omega arith) (omega arith)) (set_of_ext f g k (λ i l u. h i l (omega arith)))

set_of-none : (k : ℕ) → set_of (λ i. false) k ≡ 0
unfolding set_of
set_of-none zero = refl
set_of-none (suc k) = set_of-none k

either_test : (a b c : Bool) → ((a && b) || (a && c)) ≡ (a && (b || c))
either_test true b c = refl
either_test false b c = refl

or_set_of : (f g : ℕ → Bool) (k : ℕ) → bit_or (set_of f k) (set_of g k) ≡ set_of (λ i. f i || g i) k
or_set_of f g k =
    members_equal (bit_or (set_of f k) (set_of g k)) (set_of (λ i. f i || g i) k) (or_lt 32 (set_of f k) (set_of g k) (set_of-below f k) (set_of-below g k))
    (set_of-below (λ i. f i || g i) k)
    (λ i.
    has_or (set_of f k) (set_of g k) i ∙ ap₂ ◌||◌ (has-set_of f k i) (has-set_of g k i) ∙ either_test (known i && leb i k) (f i) (g i)
    ∙ sym (has-set_of (λ i. f i || g i) k i))

-- the same buckets, of lowest rows that agree
pub by_row_same : (f g : ℕ → ℕ) (buckets : List ℕ) → ((k : ℕ) → k < 32 → f k ≡ g k) → ByRow f 32 buckets → ByRow g 32 buckets
by_row_same f g buckets e b = record {
  at = λ x h. b.at x h ∙ set_of_ext (lowest_is f x) (lowest_is g x) 32 (λ i l u. ap (λ (k : ℕ). eqb k x) (e (i - 1) (omega arith)));
}

-- ---- who has written a row: those who have written the row below, and those whose lowest row it is

-- nobody has written row 0
pub writers_none : (low : List ℕ) → ((k : ℕ) → k < 32 → 1 ≤ get_or low k 0) → writers_of low 0 ≡ 0
writers_none low p =
    set_of_ext (λ i. leb (get_or low (i - 1) 0) 0) (λ i. false) 32 (λ i l u. lt-leb (get_or low (i - 1) 0) 0 (p (i - 1) (omega arith))) ∙ set_of-none 32

up_to_next : (l x : ℕ) → (leb l x || eqb l (x + 1)) ≡ leb l (x + 1)
up_to_next l x =
    ⊎_elim
    (λ t. ap (λ (b : Bool). b || eqb l (x + 1)) t ∙ sym (let h = leb-true l x t in le-leb l (x + 1) (omega arith)))
    (λ f. ap (λ (b : Bool). b || eqb l (x + 1)) f ∙ same_truth (eqb l (x + 1)) (leb l (x + 1))
    (λ e. let q = eqb-true l (x + 1) e in le-leb l (x + 1) (omega arith))
    (λ e. let q = leb-true l (x + 1) e in let r = leb-false l x f in eq-eqb l (x + 1) (omega arith)))
    (either (leb l x))

pub writers_more : (low : List ℕ) (x : ℕ) → bit_or (writers_of low x) (set_of (λ i. eqb (get_or low (i - 1) 0) (x + 1)) 32) ≡ writers_of low (x + 1)
writers_more low x =
    or_set_of (λ i. leb (get_or low (i - 1) 0) x) (λ i. eqb (get_or low (i - 1) 0) (x + 1)) 32
    ∙ set_of_ext (λ i. leb (get_or low (i - 1) 0) x || eqb (get_or low (i - 1) 0) (x + 1)) (λ i. leb (get_or low (i - 1) 0) (x + 1)) 32
    (λ i l u. up_to_next (get_or low (i - 1) 0) x)

-- ---- tests gathered over the processes

both : {a b : Bool} → (a && b) ≡ true → (a ≡ true) × (b ≡ true)
both {a} {b} = go a b
  where
    go : (a b : Bool) → (a && b) ≡ true → (a ≡ true) × (b ≡ true)
    go true b h = (refl, h)
    go false b h = (h, absurd (false≢true h))

and : {a b : Bool} → a ≡ true → b ≡ true → (a && b) ≡ true
and p q = ap₂ ◌&&◌ p q

same_equal : (a b : Bool) → same a b ≡ true → a ≡ b
same_equal true true h = refl
same_equal true false h = sym h
same_equal false true h = h
same_equal false false h = refl

equal_same : (a b : Bool) → a ≡ b → same a b ≡ true
equal_same true b h = sym h
equal_same false b h = ap not (sym h)

-- a set has the members that pass a test
within-set_of : (s : ℕ) (f : ℕ → Bool) → (within s (set_of f 32) && within (set_of f 32) s) ≡ every 32 (λ i. same (has s i) (f i))
within-set_of s f =
    same_truth (within s (set_of f 32) && within (set_of f 32) s) (every 32 (λ i. same (has s i) (f i)))
    (λ e.
    let q = both e in
    true_every 32 (λ i. same (has s i) (f i))
    (λ i l u.
    equal_same (has s i) (f i)
    (same_truth (has s i) (has (set_of f 32) i) (within_true s (set_of f 32) q.0 i) (within_true (set_of f 32) s q.1 i) ∙ of_test i l u)))
    (λ e.
    let q : (i : ℕ) → 1 ≤ i → i ≤ 32 → has s i ≡ has (set_of f 32) i
    = λ i l u. same_equal (has s i) (f i) (every_true 32 (λ i. same (has s i) (f i)) e i l u) ∙ sym (of_test i l u) in
    and (true_within s (set_of f 32) (λ i h. let k = has-known s i h in sym (q i k.0 k.1) ∙ h))
    (true_within (set_of f 32) s (λ i h. let k = has-known (set_of f 32) i h in q i k.0 k.1 ∙ h)))
  where
    of_test : (i : ℕ) → 1 ≤ i → i ≤ 32 → has (set_of f 32) i ≡ f i
    of_test i l u = has-set_of f 32 i ∙ ap₂ (λ (a b : Bool). a && b && f i) (true_known i l u) (le-leb i 32 u)

-- a set with no member
within_none : (s : ℕ) → within s 0 ≡ every 32 (λ i. same (has s i) false)
within_none s =
    same_truth (within s 0) (every 32 (λ i. same (has s i) false))
    (λ e.
    true_every 32 (λ i. same (has s i) false)
    (λ i l u. equal_same (has s i) false (same_truth (has s i) false (λ h. sym (has_zero i) ∙ within_true s 0 e i h) (λ h. absurd (false≢true h)))))
    (λ e.
    true_within s 0
    (λ i h.
    let k = has-known s i h in
    absurd (false≢true (sym (same_equal (has s i) false (every_true 32 (λ i. same (has s i) false) e i k.0 k.1)) ∙ h))))

-- sets as their numbers
pub within_same : (s t : ℕ) → s ≡ t → within s t ≡ true
within_same s t e = true_within s t (λ i m. ap (λ (r : ℕ). has r i) (sym e) ∙ m)

pub same_sets : (s t : ℕ) → s < 2 ^ 32 → t < 2 ^ 32 → eqb s t ≡ (within s t && within t s)
same_sets s t h k =
    same_truth (eqb s t) (within s t && within t s)
    (λ e. let q = eqb-true s t e in and (within_same s t q) (within_same t s (sym q)))
    (λ e.
    let q = both e in
    eq-eqb s t (members_equal s t h k (λ i. same_truth (has s i) (has t i) (within_true s t q.0 i) (within_true t s q.1 i))))

pub no_members : (s : ℕ) → s < 2 ^ 32 → eqb s 0 ≡ within s 0
no_members s h =
    same_sets s 0 h (lit< tt) ∙ ap (λ (b : Bool). within s 0 && b) (true_within 0 s (λ i m. absurd (false≢true (sym (has_zero i) ∙ m)))) ∙ and-true (within s 0)

pub ruleset set_numbers = (within_same, same_sets, no_members)

-- a test of sets and a test of registers beside it, taken apart
every_split : (a b : ℕ → Bool) (c v : ℕ → ℕ)
    → (every 32 (λ i. same (a i) (b i)) && every 32 (λ i. eqb (c i) (cond (b i) (v i) 0))) ≡ every 32 (λ i. same (a i) (b i) && eqb (c i) (cond (a i) (v i) 0))
every_split a b c v =
    same_truth (every 32 (λ i. same (a i) (b i)) && every 32 (λ i. eqb (c i) (cond (b i) (v i) 0))) (every 32 (λ i. same (a i) (b i) && eqb (c i) (cond (a i) (v i) 0)))
    (λ h.
    let p = both h in
    true_every 32 (λ i. same (a i) (b i) && eqb (c i) (cond (a i) (v i) 0))
    (λ i l u.
    let s = every_true 32 (λ i. same (a i) (b i)) p.0 i l u in
    and s
    (ap (λ (t : Bool). eqb (c i) (cond t (v i) 0)) (same_equal (a i) (b i) s) ∙ every_true 32 (λ i. eqb (c i) (cond (b i) (v i) 0)) p.1 i l u)))
    (λ h.
    let q : (i : ℕ) → 1 ≤ i → i ≤ 32 → (same (a i) (b i) ≡ true) × (eqb (c i) (cond (a i) (v i) 0) ≡ true)
    = λ i l u. both (every_true 32 (λ i. same (a i) (b i) && eqb (c i) (cond (a i) (v i) 0)) h i l u) in
    and (true_every 32 (λ i. same (a i) (b i)) (λ i l u. (q i l u).0))
    (true_every 32 (λ i. eqb (c i) (cond (b i) (v i) 0))
    (λ i l u. ap (λ (t : Bool). eqb (c i) (cond t (v i) 0)) (sym (same_equal (a i) (b i) (q i l u).0)) ∙ (q i l u).1)))

-- ---- a record that stands as it may: its lowest row says which rows it has written

lowest-wrote : (l k x : ℕ) → l ≤ 32 → leb (lowest_at l k) x ≡ (ltb l x || (eqb l x && ltb 0 k))
lowest-wrote l k x h = ap (λ (b : Bool). leb (cond b (cond (eqb k 0) (l + 1) l) 33) x) (le-leb l 32 h) ∙ ⊎_elim none some (either (eqb k 0))
  where
    none : eqb k 0 ≡ true → leb (cond (eqb k 0) (l + 1) l) x ≡ (ltb l x || (eqb l x && ltb 0 k))
    none e =
        let z = eqb-true k 0 e in
        ap (λ (b : Bool). leb (cond b (l + 1) l) x) e ∙ ap (λ (j : ℕ). leb j x) (add-one l)
        ∙ sym (ap (λ (b : Bool). ltb l x || (eqb l x && b)) (le-ltb 0 k (omega arith)) ∙ ap (λ (b : Bool). ltb l x || b) (and-false (eqb l x)) ∙ or-false (ltb l x))

    some : eqb k 0 ≡ false → leb (cond (eqb k 0) (l + 1) l) x ≡ (ltb l x || (eqb l x && ltb 0 k))
    some e =
        let z = eqb-false k 0 e in
        ap (λ (b : Bool). leb (cond b (l + 1) l) x) e
        ∙ same_truth (leb l x) (ltb l x || eqb l x)
        (λ t. let q = leb-true l x t in ⊎_elim (λ s. ap (λ (b : Bool). b || eqb l x) s)
        (λ s. let r = ltb-false l x s in ap₂ ◌||◌ s (eq-eqb l x (omega arith))) (either (ltb l x)))
        (λ t. ⊎_elim (λ s. let r = ltb-true l x s in le-leb l x (omega arith))
        (λ s. let r = eqb-true l x (sym (ap (λ (b : Bool). b || eqb l x) s) ∙ t) in le-leb l x (omega arith)) (either (ltb l x)))
        ∙ sym (ap (λ (b : Bool). ltb l x || b) (ap (λ (b : Bool). eqb l x && b) (lt-ltb 0 k (omega (arith, z))) ∙ and-true (eqb l x)))

-- a level that the tests have passed
level_low : (n : ℕ) (row : ℕ → ℕ) (l k f : ℕ) → goes n row l k f ≡ true → (1 ≤ l) × (l ≤ n)
level_low n row l k f h = let q = both (both (both (both h).0).0).0 in (leb-true 1 l q.0, leb-true l n q.1)

end_low : (n : ℕ) (row : ℕ → ℕ) (l w : ℕ) → ends n row l w ≡ true → (1 ≤ l) × (l ≤ n)
end_low n row l w h = let q = both (both (both h).0).0 in (leb-true 1 l q.0, leb-true l n q.1)

lowest_at_high : (l k : ℕ) → lowest_at l k ≤ 33
lowest_at_high l k = go (leb l 32) refl (eqb k 0)
  where
    go : (b : Bool) → leb l 32 ≡ b → (c : Bool) → cond b (cond c (l + 1) l) 33 ≤ 33
    go true e true = let q = leb-true l 32 e in omega arith
    go true e false = let q = leb-true l 32 e in omega arith
    go false e c = omega arith

lowest_at_low : (l k : ℕ) → 1 ≤ l → 1 ≤ lowest_at l k
lowest_at_low l k h = go (leb l 32) (eqb k 0)
  where
    go : (b c : Bool) → 1 ≤ cond b (cond c (l + 1) l) 33
    go true true = omega arith
    go true false = h
    go false c = omega arith

pub lowest_high : (s : Stage) → lowest_row s ≤ 33
lowest_high Absent = omega arith
lowest_high (Running l k f) = lowest_at_high l k
lowest_high (Finished l w) = lowest_at_high l 1
lowest_high (Crashed l k f) = lowest_at_high l k

lowest_low : (n : ℕ) (row : ℕ → ℕ) (s : Stage) → shaped_stage n row s ≡ true → 1 ≤ lowest_row s
lowest_low n row Absent h = omega arith
lowest_low n row (Running l k f) h = lowest_at_low l k (level_low n row l k f h).0
lowest_low n row (Finished l w) h = lowest_at_low l 1 (end_low n row l w h).0
lowest_low n row (Crashed l k f) h = lowest_at_low l k (level_low n row l k f h).0

lowest_is_wrote : (n : ℕ) (row : ℕ → ℕ) (s : Stage) (x : ℕ) → n ≤ 32 → x ≤ 32 → shaped_stage n row s ≡ true → leb (lowest_row s) x ≡ wrote n s x
unfolding wrote
lowest_is_wrote n row Absent x m u h = lt-leb 33 x (omega arith)
lowest_is_wrote n row (Running l k f) x m u h = let q = level_low n row l k f h in lowest-wrote l k x (omega arith)
lowest_is_wrote n row (Finished l w) x m u h =
    let q = end_low n row l w h in
    lowest-wrote l 1 x (omega arith) ∙ ap (λ (b : Bool). ltb l x || (eqb l x && b)) (sym (lt-ltb 0 (n + 1) (omega arith)))
lowest_is_wrote n row (Crashed l k f) x m u h = let q = level_low n row l k f h in lowest-wrote l k x (omega arith)

-- ---- the test of the code is the test of the definitions

-- a record that has passed the tests has a stage that has
stage_passed : (n : ℕ) (row : ℕ → ℕ) (i : ℕ) (P : Process) → shaped_process n row i P ≡ true → shaped_stage n row P.stage ≡ true
unfolding shaped_process
stage_passed n row i P h = (both {a = cond (entered P.stage) (leb i n) (eqb P.value 0)} {b = shaped_stage n row P.stage} h).1

-- what was read off the records of m
module _ (m : Machine) (low own : List ℕ) (R : ReadOff m low own) where
  passed : (i : ℕ) → 1 ≤ i → i ≤ 32 → shaped_stage m.n (row_of m) (stage_of m i) ≡ true
  passed i l u = stage_passed m.n (row_of m) i (process_of m i) (every_true 32 (λ p. shaped_process m.n (row_of m) p (process_of m p)) R.records i l u)

  pub lowest_rows : LowestRows low
  lowest_rows k h =
      subst⁻¹ (λ (x : ℕ). (1 ≤ x) × (x ≤ 33)) (R.low k h)
      (subst (λ (j : ℕ). (1 ≤ lowest_row (get_or m.processes j nobody).stage) × (lowest_row (get_or m.processes j nobody).stage ≤ 33)) (back_one k)
      (lowest_low m.n (row_of m) (stage_of m (k + 1)) (passed (k + 1) (omega arith) (omega arith)), lowest_high (stage_of m (k + 1))))

  module _ (most : m.n ≤ 32) where
    -- process i's lowest row says whether it has written row x
    wrote_low : (x i : ℕ) → x ≤ 32 → 1 ≤ i → i ≤ 32 → leb (get_or low (i - 1) 0) x ≡ wrote m.n (stage_of m i) x
    wrote_low x i u l h =
        ap (λ (k : ℕ). leb k x) (R.low (i - 1) (omega arith)) ∙ lowest_is_wrote m.n (row_of m) (stage_of m i) x most u (passed i l h)

    -- process i's register in row x is to be filled, where `up` says whether x is at most n
    abbrev to_fill : Bool → ℕ → ℕ → Bool
    to_fill up x i = up && wrote m.n (stage_of m i) x

    cells_agree : (up : Bool) (x reach : ℕ) → ((i : ℕ) → 1 ≤ i → i ≤ 32 → leb (get_or low (i - 1) 0) reach ≡ to_fill up x i)
        → cells_good m.values (32 * (x - 1)) low own reach ≡ every 32 (λ i. eqb (cell_of m x i) (cond (to_fill up x i) (value_of m i) 0))
    unfolding cells_good
    cells_agree up x reach q =
        every_ext 32 (cell_good m.values (32 * (x - 1)) low own reach) (λ i. eqb (cell_of m x i) (cond (to_fill up x i) (value_of m i) 0))
        (λ i l u. ap₂ (λ (b : Bool) (v : ℕ). eqb (cell_of m x i) (cond b v 0)) (q i l u) (R.own (i - 1) (omega arith)))

    -- one row, at most n or above
    row_agrees : (up : Bool) (x : ℕ) → x ≤ 32
        → cond up
        (within (row_of m x) (writers_of low x) && within (writers_of low x) (row_of m x) && cells_good m.values (32 * (x - 1)) low own x)
        (within (row_of m x) 0 && cells_good m.values (32 * (x - 1)) low own 0)
        ≡ every 32 (λ i. same (has (row_of m x) i) (to_fill up x i) && eqb (cell_of m x i) (cond (has (row_of m x) i) (value_of m i) 0))
    row_agrees true x u =
        ap₂ ◌&&◌
        (within-set_of (row_of m x) (λ i. leb (get_or low (i - 1) 0) x)
        ∙ every_ext 32 (λ i. same (has (row_of m x) i) (leb (get_or low (i - 1) 0) x)) (λ i. same (has (row_of m x) i) (to_fill true x i))
        (λ i l v. ap (same (has (row_of m x) i)) (wrote_low x i u l v)))
        (cells_agree true x x (λ i l v. wrote_low x i u l v))
        ∙ every_split (has (row_of m x)) (to_fill true x) (cell_of m x) (value_of m)
    row_agrees false x u =
        ap₂ ◌&&◌ (within_none (row_of m x)) (cells_agree false x 0 (λ i l v. lt-leb (get_or low (i - 1) 0) 0 ((lowest_rows (i - 1) (omega arith)).0)))
        ∙ every_split (has (row_of m x)) (to_fill false x) (cell_of m x) (value_of m)

    row_shaped : (x : ℕ) → x ≤ 32 → row_good m.n m.values low own (row_of m x) x ≡ every 32 (shaped_register m x)
    unfolding shaped_register
    row_shaped x u = row_agrees (leb x m.n) x u

    pub rows_shaped : rows_good m.n m.filled m.values low own ≡ shaped_registers m
    unfolding rows_good
    rows_shaped =
        every_ext 32 (λ x. row_good m.n m.values low own (row_of m x) x) (λ x. every 32 (shaped_register m x)) (λ x l u. row_shaped x u)

-- n and the records have passed; the rows decide
pub shaped_rows : (m : Machine) (low own : List ℕ) → ReadOff m low own → 1 ≤ m.n → m.n ≤ 32 → shaped m ≡ rows_good m.n m.filled m.values low own
unfolding shaped
shaped_rows m low own R some most =
    ap (λ (b : Bool). b && shaped_registers m) (and (and (le-leb 1 m.n some) (le-leb m.n 32 most)) R.records) ∙ sym (rows_shaped m low own R most)
