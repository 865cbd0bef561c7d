-- One pass over the records, and one over the rows: what is known after i of them.
use mathlib.Core.Path.{◌≡◌, refl, sym, ap, ap₂, subst, ◌∙◌}
use mathlib.Core.List.{List}
use mathlib.Core.Bool.{Bool, true, false, ◌&&◌, cond, true≢false}
use mathlib.Core.Logic.{⊎_elim}
use Prim.Native.Nat.{ℕ, ◌+◌, ◌-◌, ◌≤◌, ◌<◌}
use native.Mathlib.Numerals.{add-one}
use native.Mathlib.Omega.{arith}
use borrow.Author.Count.{below_more}
use lib.Dec.{leb, eqb}
use lib.Bits.{bit_or}
use lib.ListN.{length, get_or, set, replicate, length-set}
use Rattle.std.proofs.lemmas.List.{get_or-replicate}
use Rattle.std.proofs.lemmas.List.Edits.{fill_by_more}
use Rattle.sets.specs.Sets.{plus, every}
use Rattle.sets.proofs.Laws.{either, every_true, true_every}
use Rattle.rules.specs.declared.Machine.{Machine}
use Rattle.rules.specs.Stands.{nobody, process_of, row_of}
use Rattle.rules.specs.Shape.{shaped_process, shaped_records}
use Rattle.shape.specs.Coded.Columns.{lowest_row, LowestRows, ByRow, ReadOff, writers_of, cell_good, cells_good, row_good, rows_good}
use Rattle.shape.proofs.Rows.{back_one, by_row_none, by_row_more, by_row_same, lowest_high, lowest_rows, writers_none, writers_more}

-- a test that a loop gathers over 1, 2, ..: one more
every_more : (f : ℕ → Bool) (i : ℕ) {b ok : Bool} → b ≡ f (i + 1) → ok ≡ every i f → (b && ok) ≡ every (i + 1) f
unfolding every
every_more f i e e' = ap₂ ◌&&◌ e e' ∙ rw (add-one i)

-- it fails where one does
every_fails : (f : ℕ → Bool) (k i : ℕ) → i < k → f (i + 1) ≡ false → every k f ≡ false
every_fails f k i h e =
    ⊎_elim (λ t. absurd (true≢false (sym (every_true k f t (i + 1) (omega arith) (omega arith)) ∙ e))) (λ q. q) (either (every k f))

-- the first i records stand as they may, and this is what was read off them
pub record Passed (m : Machine) (i : ℕ) (lows owns buckets : List ℕ) : Type 0 where
  pub lows_long : length lows ≡ 32
  pub owns_long : length owns ≡ 32
  pub buckets_long : length buckets ≡ 34
  pub good : (k : ℕ) → k < i → shaped_process m.n (row_of m) (k + 1) (get_or m.processes k nobody) ≡ true
  pub low : (k : ℕ) → k < i → get_or lows k 0 ≡ lowest_row (get_or m.processes k nobody).stage
  pub own : (k : ℕ) → k < i → get_or owns k 0 ≡ (get_or m.processes k nobody).value
  pub by_row : ByRow (λ k. lowest_row (get_or m.processes k nobody).stage) i buckets

pub passed_none : (m : Machine) → Passed m 0 (replicate 32 0) (replicate 32 0) (replicate 34 0)
passed_none m = record {
  lows_long = refl;
  owns_long = refl;
  buckets_long = refl;
  good = λ k h. absurd (omega arith);
  low = λ k h. absurd (omega arith);
  own = λ k h. absurd (omega arith);
  by_row = by_row_none _ _ (λ x h. get_or-replicate 34 x 0 0 (omega arith));
}

pub passed_more : (m : Machine) (i x b : ℕ) (lows owns buckets : List ℕ) → Passed m i lows owns buckets → i < 32
    → shaped_process m.n (row_of m) (i + 1) (get_or m.processes i nobody) ≡ true → x ≡ lowest_row (get_or m.processes i nobody).stage
    → b ≡ plus (get_or buckets x 0) (i + 1)
    → Passed m (i + 1) (set lows i x) (set owns i (get_or m.processes i nobody).value) (set buckets x b)
passed_more m i x b lows owns buckets P h good low put =
    let high : x ≤ 33 = omega (arith, low, lowest_high (get_or m.processes i nobody).stage) in
    record {
      lows_long = length-set lows i x ∙ P.lows_long;
      owns_long = length-set owns i (get_or m.processes i nobody).value ∙ P.owns_long;
      buckets_long = length-set buckets x b ∙ P.buckets_long;
      good = below_more (λ k. shaped_process m.n (row_of m) (k + 1) (get_or m.processes k nobody) ≡ true) i P.good good;
      low = rw low (fill_by_more (λ k. lowest_row (get_or m.processes k nobody).stage) lows i 0 (omega (arith, P.lows_long)) P.low);
      own = fill_by_more (λ k. (get_or m.processes k nobody).value) owns i 0 (omega (arith, P.owns_long)) P.own;
      by_row = rw put (by_row_more (λ k. lowest_row (get_or m.processes k nobody).stage) buckets i x low high P.buckets_long P.by_row);
    }

pub passed_not : (m : Machine) (i : ℕ) → i < 32 → shaped_process m.n (row_of m) (i + 1) (get_or m.processes i nobody) ≡ false
    → shaped_records m.n m.filled m.processes ≡ false
passed_not m i h e =
    every_fails (λ p. shaped_process m.n (row_of m) p (process_of m p)) 32 i h
    (ap (λ (k : ℕ). shaped_process m.n (row_of m) (i + 1) (get_or m.processes k nobody)) (back_one i) ∙ e)

module _ (m : Machine) (lows owns buckets : List ℕ) (P : Passed m 32 lows owns buckets) where
  pub passed_all : ReadOff m lows owns
  passed_all = record {
    records = true_every 32 (λ p. shaped_process m.n (row_of m) p (process_of m p))
        (λ p l u. let e : p - 1 + 1 ≡ p = omega arith in
        subst (λ (j : ℕ). shaped_process m.n (row_of m) j (process_of m p) ≡ true) e (P.good (p - 1) (omega arith)));
    low = P.low;
    own = P.own;
  }

  pub passed_low : LowestRows lows
  passed_low = lowest_rows m lows owns passed_all

  pub passed_by_row : ByRow (λ k. get_or lows k 0) 32 buckets
  passed_by_row = by_row_same (λ k. lowest_row (get_or m.processes k nobody).stage) (λ k. get_or lows k 0) buckets (λ k h. sym (P.low k h)) P.by_row

-- One row: the first i registers hold what they must.
module _ (values : List ℕ) (base : ℕ) (low own : List ℕ) (x : ℕ) where
  pub cells_none : every 0 (cell_good values base low own x) ≡ true
  unfolding every
  cells_none = refl

  pub cells_more : (i : ℕ) → every (i + 1) (cell_good values base low own x)
      ≡ (eqb (get_or values (base + i) 0) (cond (leb (get_or low i 0) x) (get_or own i 0) 0) && every i (cell_good values base low own x))
  cells_more i =
      let at = λ (k : ℕ). eqb (get_or values (base + k) 0) (cond (leb (get_or low k 0) x) (get_or own k 0) 0) in
      sym (every_more (cell_good values base low own x) i (ap at (sym (back_one i))) refl)

  pub cells_all : cells_good values base low own x ≡ every 32 (cell_good values base low own x)
  unfolding cells_good
  cells_all = refl

pub ruleset cells = (cells_none, cells_more, cells_all)

-- The rows: the first i are good.
unfoldable pub rows_upto : Machine → List ℕ → List ℕ → ℕ → Bool
rows_upto m low own i = every i (λ x. row_good m.n m.values low own (row_of m x) x)

module _ (m : Machine) (low own : List ℕ) where
  pub rows_none : rows_upto m low own 0 ≡ true
  unfolding rows_upto every
  rows_none = refl

  pub rows_more : (i : ℕ) → rows_upto m low own (i + 1) ≡ (row_good m.n m.values low own (row_of m (i + 1)) (i + 1) && rows_upto m low own i)
  unfolding rows_upto
  rows_more i = sym (every_more (λ x. row_good m.n m.values low own (row_of m x) x) i refl refl)

  pub rows_all : rows_good m.n m.filled m.values low own ≡ rows_upto m low own 32
  unfolding rows_good rows_upto
  rows_all = refl

pub ruleset rows = (rows_none, rows_more, rows_all, writers_none)

-- and who has written the next
pub written_more : (low buckets : List ℕ) (i w : ℕ) → ByRow (λ k. get_or low k 0) 32 buckets → i < 32 → w ≡ writers_of low i
    → bit_or w (get_or buckets (i + 1) 0) ≡ writers_of low (i + 1)
written_more low buckets i w B h e = ap₂ bit_or e (B.at (i + 1) (omega arith)) ∙ writers_more low i
