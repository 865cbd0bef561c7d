-- What a process has found after reading one register more, and the size of a set that stands in a row.
use mathlib.Core.Path.{◌≡◌, refl, sym}
use mathlib.Core.Logic.{◌⊎◌, inl, inr, ◌≢◌}
use mathlib.Core.Bool.{Bool, true, false, cond, false≢true}
use Prim.Native.Nat.{ℕ, ◌≤◌, ◌<◌}
use native.Mathlib.Omega.{arith}
use Rattle.sets.specs.Members.{has, count, size}
use Rattle.sets.specs.Sets.{plus}
use Rattle.sets.proofs.Laws.{has-plus-same, has-plus_other, has-plus_keeps, has-known, count_beyond}
use Rattle.rules.specs.declared.Machine.{Machine}
use Rattle.rules.specs.Stands.{row_of}
use Rattle.rules.specs.Shape.{Going, Shaped}
use Rattle.rules.specs.Calls.{reading}
use Rattle.rules.proofs.Laws.Keeps.{reading-has}
use Rattle.rules.proofs.Laws.Small.{not_both, is_false, at_most_or_above}

pub reading-here : (row k f : ℕ) → 1 ≤ k → k ≤ 32 → has f k ≡ false → has (reading row k f) k ≡ has row k
unfolding reading
reading-here row k f lo hi none = go (has row k)
  where
    go : (b : Bool) → has (cond b (plus f k) f) k ≡ b
    go true = has-plus-same f k lo hi
    go false = none

pub reading_other : (row k f i : ℕ) → k ≢ i → has (reading row k f) i ≡ has f i
unfolding reading
reading_other row k f i ne = go (has row k)
  where
    go : (b : Bool) → has (cond b (plus f k) f) i ≡ has f i
    go true = has-plus_other f k i ne
    go false = refl

pub reading_keeps : (row k f i : ℕ) → has f i ≡ true → has (reading row k f) i ≡ true
unfolding reading
reading_keeps row k f i t = go (has row k)
  where
    go : (b : Bool) → has (cond b (plus f k) f) i ≡ true
    go true = has-plus_keeps f k i t
    go false = t

pub reading_adds : (row k f : ℕ) → 1 ≤ k → k ≤ 32 → has row k ≡ true → has (reading row k f) k ≡ true
unfolding reading
reading_adds row k f lo hi t = go (has row k) t
  where
    go : (b : Bool) → b ≡ true → has (cond b (plus f k) f) k ≡ true
    go true e = has-plus-same f k lo hi
    go false e = absurd (false≢true e)

-- with a read, all that was found still stands in the row
pub read_stands : (n : ℕ) (row : ℕ → ℕ) (x made k f i : ℕ) → Going n row x made f → has (reading (row x) k f) i ≡ true → has (row x) i ≡ true
read_stands n row x made k f i g t = go (reading-has (row x) k f i t)
  where
    go : (has f i ≡ true) ⊎ ((i ≡ k) × (has (row x) i ≡ true)) → has (row x) i ≡ true
    go (inl old) = g.stands i old
    go (inr new) = new.1

-- registers above n are empty
pub row_upto : (m : Machine) → Shaped m → (x : ℕ) → 1 ≤ x → x ≤ m.n → (i : ℕ) → has (row_of m x) i ≡ true → i ≤ m.n
row_upto m sh x lx hx i t = go (at_most_or_above i m.n)
  where
    x32 : x ≤ 32
    x32 = omega (arith, sh.most)

    go : (i ≤ m.n) ⊎ (m.n < i) → i ≤ m.n
    go (inl le) = le
    go (inr gt) =
        not_both (has (row_of m x) i) t ((sh.register x i lx x32 (has-known (row_of m x) i t).0 (has-known (row_of m x) i t).1).slot_above gt)

-- so that the size of a set that stands in a row is its count over 1 to n
pub size_stands : (m : Machine) → Shaped m → (x : ℕ) → 1 ≤ x → x ≤ m.n → (f : ℕ) → ((i : ℕ) → has f i ≡ true → has (row_of m x) i ≡ true)
    → count (has f) m.n ≡ size f
unfolding size
size_stands m sh x lx hx f stands =
    sym (count_beyond (has f) m.n 32 (λ i lt _. is_false (has f i) (λ t. past i lt (row_upto m sh x lx hx i (stands i t)))) sh.most)
  where
    past : (i : ℕ) → m.n < i → i ≤ m.n → ⊥
    past i lt le = omega arith
