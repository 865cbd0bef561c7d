-- What stands where in a machine after a store to it.
use mathlib.Core.Path.{◌≡◌}
use mathlib.Core.Logic.{◌⊎◌, inl, inr, ◌≢◌}
use Prim.Native.Nat.{ℕ, ◌+◌, ◌-◌, ◌*◌, ◌≤◌, ◌<◌}
use native.Mathlib.Omega.{arith}
use lib.ListN.{length}
use lib.Seq.{get_or-set_same, get_or-set_other}
use Rattle.sets.specs.Sets.{plus}
use Rattle.rules.specs.declared.Process.{Process}
use Rattle.rules.specs.declared.Machine.{Machine}
use Rattle.rules.specs.Stands.{nobody, process_of, row_of, cell_of}
use Rattle.rules.specs.State.{with_process, with_register}
use Rattle.rules.specs.Shape.{Held}

before : (l : ℕ) (p : ℕ) → l ≡ 32 → 1 ≤ p → p ≤ 32 → p - 1 < l
before l p e lo hi = omega arith

apart : (p q : ℕ) → 1 ≤ p → 1 ≤ q → q ≢ p → q - 1 ≢ p - 1
apart p q lo low ne e = ne (omega arith)

pub process-same : (m : Machine) → Held m → (p : ℕ) → 1 ≤ p → p ≤ 32 → (P : Process) → process_of (with_process m p P) p ≡ P
process-same m h p lo hi P = get_or-set_same m.processes (p - 1) P nobody (before _ p h.slots lo hi)

pub process_other : (m : Machine) (p q : ℕ) → 1 ≤ p → 1 ≤ q → q ≢ p → (P : Process) → process_of (with_process m p P) q ≡ process_of m q
process_other m p q lo low ne P = get_or-set_other m.processes (p - 1) (q - 1) P nobody (apart p q lo low ne)

pub row_same : (m : Machine) → Held m → (x : ℕ) → 1 ≤ x → x ≤ 32 → (p v : ℕ) → row_of (with_register m x p v) x ≡ plus (row_of m x) p
row_same m h x lo hi p v = get_or-set_same m.filled (x - 1) (plus (row_of m x) p) 0 (before _ x h.rows lo hi)

pub row_other : (m : Machine) (x y : ℕ) → 1 ≤ x → 1 ≤ y → y ≢ x → (p v : ℕ) → row_of (with_register m x p v) y ≡ row_of m y
row_other m x y lo low ne p v = get_or-set_other m.filled (x - 1) (y - 1) (plus (row_of m x) p) 0 (apart x y lo low ne)

pub cell_same : (m : Machine) → Held m → (x : ℕ) → 1 ≤ x → x ≤ 32 → (p : ℕ) → 1 ≤ p → p ≤ 32 → (v : ℕ) → cell_of (with_register m x p v) x p ≡ v
cell_same m h x lo hi p low high v = get_or-set_same m.values (32 * (x - 1) + (p - 1)) v 0 (inside (length m.values) h.cells)
  where
    inside : (l : ℕ) → l ≡ 1024 → 32 * (x - 1) + (p - 1) < l
    inside l e = omega arith

-- another row or another register
pub cell_other : (m : Machine) (x y : ℕ) → 1 ≤ x → 1 ≤ y → (p q : ℕ) → 1 ≤ p → p ≤ 32 → 1 ≤ q → q ≤ 32 → (y ≢ x) ⊎ (q ≢ p) → (v : ℕ)
    → cell_of (with_register m x p v) y q ≡ cell_of m y q
cell_other m x y lo low p q lp hp lq hq ne v = get_or-set_other m.values (32 * (x - 1) + (p - 1)) (32 * (y - 1) + (q - 1)) v 0 (differ ne)
  where
    differ : (y ≢ x) ⊎ (q ≢ p) → 32 * (y - 1) + (q - 1) ≢ 32 * (x - 1) + (p - 1)
    differ (inl d) e = d (omega arith)
    differ (inr d) e = d (omega arith)
