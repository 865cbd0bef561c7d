-- The values of a view's members, read one after another: what one turn of the reading adds.
use Prim.Native.Nat.{ℕ, zero, suc, ◌+◌, ◌-◌, ◌*◌, ◌/◌, ◌%◌, ◌≤◌, ◌<◌}
use mathlib.Core.Bool.{Bool, true, false, true≢false, cond}
use mathlib.Core.Path.{◌≡◌, refl, sym, ap, ◌∙◌, subst}
use mathlib.Core.List.{List}
use mathlib.Core.Logic.{◌≢◌, ⊎_elim}
use native.Mathlib.Decide.{ℕ_discrete}
use native.Mathlib.Nat.{eq-or-lt_of_le}
use native.Mathlib.Numerals.{add-one}
use native.Mathlib.Omega.{arith}
use lib.ListN.{length, get_or, set, replicate, length-set}
use lib.Seq.{get_or-set_same, get_or-set_other, ext_get_or}
use Rattle.sets.specs.Members.{has, tick, count}
use Rattle.formats.specs.Records.{word_at}
use Rattle.formats.specs.declared.Views.{Views}
use Rattle.formats.specs.Views.{cell, seen_by, value_by}
use Rattle.formats.specs.ViewFile.{values_read, with_view}

-- the place of member j + 1 in the row of process p
pub cell_next : (p j : ℕ) → cell p (suc j) ≡ 32 * (p - 1) + j
cell_next p j = omega arith

pub count_in : (f : ℕ → Bool) (j : ℕ) → f (j + 1) ≡ true → count f (j + 1) ≡ count f j + 1
unfolding count
count_in f j e = rw (add-one j) (ap (λ (b : Bool). tick b + count f j) (rw (add-one j) at e) ∙ omega arith)

pub count_out : (f : ℕ → Bool) (j : ℕ) → f (j + 1) ≡ false → count f (j + 1) ≡ count f j
unfolding count
count_out f j e = rw (add-one j) (ap (λ (b : Bool). tick b + count f j) (rw (add-one j) at e) ∙ omega arith)

module _ (s : List ℕ) (from p w j : ℕ) (values : List ℕ) where
  pub values_in : has w (j + 1) ≡ true
      → values_read s from p w (j + 1) values ≡ set (values_read s from p w j values) (32 * (p - 1) + j) (word_at s (from + 4 * count (has w) j))
  unfolding values_read
  values_in e =
      let step : (b : Bool) → b ≡ true
      → cond b (set (values_read s from p w j values) (cell p (suc j)) (word_at s (from + 4 * count (has w) j))) (values_read s from p w j values)
      ≡ set (values_read s from p w j values) (32 * (p - 1) + j) (word_at s (from + 4 * count (has w) j))
      = λ b e. rw (e, cell_next p j) in
      rw (add-one j) (step (has w (suc j)) (rw (add-one j) at e))

  pub values_out : has w (j + 1) ≡ false → values_read s from p w (j + 1) values ≡ values_read s from p w j values
  unfolding values_read
  values_out e =
      let step : (b : Bool) → b ≡ false
      → cond b (set (values_read s from p w j values) (cell p (suc j)) (word_at s (from + 4 * count (has w) j))) (values_read s from p w j values)
      ≡ values_read s from p w j values
      = λ b e. rw e in
      rw (add-one j) (step (has w (suc j)) (rw (add-one j) at e))

-- What stands in the values after the members up to k of process p's view are read.
cell_same : (i p j l : ℕ) → 1 ≤ i → 1 ≤ p → 1 ≤ j → j ≤ 32 → 1 ≤ l → l ≤ 32 → cell i j ≡ cell p l → i ≡ p
cell_same i p j l a b c d e f h = omega arith

module _ (s : List ℕ) (from p w : ℕ) (values : List ℕ) where
  pub values_length : (k : ℕ) → length (values_read s from p w k values) ≡ length values
  unfolding values_read
  values_length zero = refl
  values_length (suc k) =
      let go : (b : Bool) (l : List ℕ) (c x : ℕ) → length (cond b (set l c x) l) ≡ length l
      = λ b l c x. elim b as (λ b. length (cond b (set l c x) l) ≡ length l) [ true ↦ length-set l c x | false ↦ refl ] in
      go (has w (suc k)) (values_read s from p w k values) (cell p (suc k)) (word_at s (from + 4 * count (has w) k)) ∙ values_length k

  -- a place that no member up to k has
  pub values_kept : (k c : ℕ) → ((l : ℕ) → 1 ≤ l → l ≤ k → has w l ≡ true → c ≢ cell p l) → get_or (values_read s from p w k values) c 0 ≡ get_or values c 0
  unfolding values_read
  values_kept zero c h = refl
  values_kept (suc k) c h =
      let go : (b : Bool) → has w (suc k) ≡ b → (l : List ℕ) (x : ℕ) → get_or (cond b (set l (cell p (suc k)) x) l) c 0 ≡ get_or l c 0
      = λ b. elim b as (λ t. has w (suc k) ≡ t → (l : List ℕ) (x : ℕ) → get_or (cond t (set l (cell p (suc k)) x) l) c 0 ≡ get_or l c 0)
      [ true ↦ λ e l x. get_or-set_other l (cell p (suc k)) c x 0 (h (suc k) (omega arith) (omega arith) e) | false ↦ λ e l x. refl ] in
      go (has w (suc k)) refl (values_read s from p w k values) (word_at s (from + 4 * count (has w) k))
      ∙ values_kept k c (λ l a b. h l a (omega arith))

  -- a member's value is the word that stands at its place
  pub values_here : (k j : ℕ) → 1 ≤ p → p ≤ 32 → length values ≡ 1024 → 1 ≤ j → j ≤ k → k ≤ 32 → has w j ≡ true
      → get_or (values_read s from p w k values) (cell p j) 0 ≡ word_at s (from + 4 * count (has w) (j - 1))
  unfolding values_read
  values_here zero j a b n c d e h = absurd (omega arith)
  values_here (suc k) j a b n c d e h =
      let old : List ℕ = values_read s from p w k values in
      let x : ℕ = word_at s (from + 4 * count (has w) k) in
      let K : ℕ = cell p (suc k) in
      let here : j ≡ suc k → get_or (cond (has w (suc k)) (set old K x) old) (cell p j) 0 ≡ word_at s (from + 4 * count (has w) (j - 1))
      = λ q.
      let z : k ≡ j - 1 = omega arith in
      let long : K < length old = omega (arith, values_length k) in
      ap (λ (y : ℕ). get_or (cond (has w (suc k)) (set old K x) old) (cell p y) 0) q
      ∙ ap (λ (t : Bool). get_or (cond t (set old K x) old) K 0) (subst (λ (y : ℕ). has w y ≡ true) q h)
      ∙ get_or-set_same old K x 0 long
      ∙ ap (λ (y : ℕ). word_at s (from + 4 * count (has w) y)) z in
      let there : j < suc k → get_or (cond (has w (suc k)) (set old K x) old) (cell p j) 0 ≡ get_or old (cell p j) 0
      = λ q.
      let other : cell p j ≢ K = λ z. omega arith in
      let go : (b : Bool) → get_or (cond b (set old K x) old) (cell p j) 0 ≡ get_or old (cell p j) 0
      = elim [ true ↦ get_or-set_other old K (cell p j) x 0 other | false ↦ refl ] in
      go (has w (suc k)) in
      ⊎_elim here (λ q. there q ∙ values_here k j a b n c (omega arith) (omega arith) h) (eq-or-lt_of_le d)

  -- another process's values, and a process that the view does not name
  pub values_others : (i j : ℕ) → 1 ≤ i → 1 ≤ p → 1 ≤ j → j ≤ 32 → i ≢ p
      → get_or (values_read s from p w 32 values) (cell i j) 0 ≡ get_or values (cell i j) 0
  values_others i j a b c d n = values_kept 32 (cell i j) (λ l e f h z. n (cell_same i p j l a b c d e f z))

  pub values_not : (j : ℕ) → 1 ≤ j → has w j ≡ false → get_or (values_read s from p w 32 values) (cell p j) 0 ≡ get_or values (cell p j) 0
  values_not j c n =
      values_kept 32 (cell p j)
      (λ l e f h z. let same : l ≡ j = omega arith in true≢false (sym h ∙ ap (has w) same ∙ n))

-- The views with process p's view beside them: its own place holds the new view, and every other what it held.
pub record Room (v : Views) (p : ℕ) : Type 0 where
  pub seats : length v.seen ≡ 32
  pub cells : length v.values ≡ 1024
  pub low : 1 ≤ p
  pub high : p ≤ 32

module _ (s : List ℕ) (at : ℕ) (v : Views) (p w : ℕ) (r : Room v p) where
  pub seen_here : seen_by (with_view s at v p w) p ≡ w
  seen_here = get_or-set_same v.seen (p - 1) w 0 (omega (arith, r.seats, r.low, r.high))

  pub seen_other : (i : ℕ) → 1 ≤ i → i ≢ p → seen_by (with_view s at v p w) i ≡ seen_by v i
  seen_other i l n = get_or-set_other v.seen (p - 1) (i - 1) w 0 (λ e. n (omega (arith, r.low)))

  pub value_in_lem : (j : ℕ) → 1 ≤ j → j ≤ 32 → has w j ≡ true → value_by (with_view s at v p w) p j ≡ word_at s (at + 7 + 4 * count (has w) (j - 1))
  value_in_lem j a b h = values_here s (at + 7) p w v.values 32 j r.low r.high r.cells a b (omega arith) h

  pub value_out : (j : ℕ) → 1 ≤ j → has w j ≡ false → value_by (with_view s at v p w) p j ≡ value_by v p j
  value_out j a h = values_not s (at + 7) p w v.values j a h

  pub value_other : (i j : ℕ) → 1 ≤ i → 1 ≤ j → j ≤ 32 → i ≢ p → value_by (with_view s at v p w) i j ≡ value_by v i j
  value_other i j l a b n = values_others s (at + 7) p w v.values i j l r.low a b n

-- Two lists of one length are one if they hold the same: by their places counted from 1,
pub by_place : (l m : List ℕ) (k : ℕ) → length l ≡ k → length m ≡ k → ((i : ℕ) → 1 ≤ i → i ≤ k → get_or l (i - 1) 0 ≡ get_or m (i - 1) 0) → l ≡ m
by_place l m k a b h =
    ext_get_or 0 l m (a ∙ sym b)
    (λ i e. let z : suc i - 1 ≡ i = omega arith in
    subst (λ (y : ℕ). get_or l y 0 ≡ get_or m y 0) z (h (suc i) (omega arith) (omega arith)))

-- and the values by row and column
pub by_cell : (l m : List ℕ) → length l ≡ 1024 → length m ≡ 1024
    → ((j k : ℕ) → 1 ≤ j → j ≤ 32 → 1 ≤ k → k ≤ 32 → get_or l (cell j k) 0 ≡ get_or m (cell j k) 0) → l ≡ m
by_cell l m a b h =
    ext_get_or 0 l m (a ∙ sym b)
    (λ c e. let z : cell (c / 32 + 1) (c % 32 + 1) ≡ c = omega arith in
    subst (λ (y : ℕ). get_or l y 0 ≡ get_or m y 0) z (h (c / 32 + 1) (c % 32 + 1) (omega arith) (omega arith) (omega arith) (omega arith)))

-- An array of zeros.
pub zeros : (k i : ℕ) → ◌≡◌ {A = ℕ} (get_or (replicate k 0) i 0) 0
zeros zero i = refl
zeros (suc k) zero = refl
zeros (suc k) (suc i) = zeros k i

-- process p or another
pub by_one : (P : ℕ → Type 0) (p j : ℕ) → P p → (j ≢ p → P j) → P j
by_one P p j a b = elim (ℕ_discrete j p) [ yes e ↦ subst P (sym e) a | no n ↦ b n ]
