-- What the shape test reads off the records before it looks at a register: for each process the lowest row that it has written, and its value.
use Rattle.std.specs.Prelude.{ℕ, ◌+◌, ◌-◌, ◌*◌, ◌≤◌, ◌<◌, ◌≡◌, Bool, cond, ◌&&◌, List, true, leb, eqb, get_or}
use Rattle.sets.specs.Sets.{every, set_of, within}
use Rattle.rules.specs.declared.Stage.{Stage}
use Rattle.rules.specs.declared.Stage.TheVariants.{Absent, Running, Finished, Crashed}
use Rattle.rules.specs.declared.Machine.{Machine}
use Rattle.rules.specs.Stands.{nobody, row_in}
use Rattle.rules.specs.Shape.{shaped_records}

-- the lowest row written by a process that has entered, at level x after k accesses there: 33 if there is none
abbrev pub lowest_at : ℕ → ℕ → ℕ
lowest_at x k = cond (leb x 32) (cond (eqb k 0) (x + 1) x) 33

abbrev pub lowest_row : Stage → ℕ
lowest_row Absent = 33
lowest_row (Running x k f) = lowest_at x k
lowest_row (Finished x w) = lowest_at x 1
lowest_row (Crashed x k f) = lowest_at x k

-- a list of 32 lowest rows: none of them is 0 or above 33
abbrev pub LowestRows : List ℕ → Type 0
LowestRows low = (k : ℕ) → k < 32 → (1 ≤ get_or low k 0) × (get_or low k 0 ≤ 33)

-- what register i of a row must hold: i's value if the lowest row that i has written is x or below, else 0; a row above n is asked with x = 0
abbrev pub wanted_at : List ℕ → List ℕ → ℕ → ℕ → ℕ
wanted_at low own x i = cond (leb (get_or low (i - 1) 0) x) (get_or own (i - 1) 0) 0

-- register i of the row that starts at `base` holds what it must
abbrev pub cell_good : List ℕ → ℕ → List ℕ → List ℕ → ℕ → ℕ → Bool
cell_good values base low own x i = eqb (get_or values (base + (i - 1)) 0) (wanted_at low own x i)

unfoldable pub cells_good : List ℕ → ℕ → List ℕ → List ℕ → ℕ → Bool
cells_good values base low own x = every 32 (cell_good values base low own x)

-- bucket x of `buckets` holds those of the processes 1 to k whose lowest row is x; that of process i is `low` at i - 1
pub record ByRow (low : ℕ → ℕ) (k : ℕ) (buckets : List ℕ) : Type 0 where
  pub at : (x : ℕ) → x ≤ 33 → get_or buckets x 0 ≡ set_of (λ i. eqb (low (i - 1)) x) k

-- every record of m stands as it may, and `lows` and `owns` are what one pass over them gives
pub record ReadOff (m : Machine) (lows owns : List ℕ) : Type 0 where
  pub records : shaped_records m.n m.filled m.processes ≡ true
  pub low : (k : ℕ) → k < 32 → get_or lows k 0 ≡ lowest_row (get_or m.processes k nobody).stage
  pub own : (k : ℕ) → k < 32 → get_or owns k 0 ≡ (get_or m.processes k nobody).value

-- the processes that have written row x
abbrev pub writers_of : List ℕ → ℕ → ℕ
writers_of low x = set_of (λ i. leb (get_or low (i - 1) 0) x) 32

-- row x, whose set is `row`, is filled by those who have written it, and by nobody above n; its registers hold what they must
abbrev pub row_good : ℕ → List ℕ → List ℕ → List ℕ → ℕ → ℕ → Bool
row_good n values low own row x =
    cond (leb x n)
    (within row (writers_of low x) && within (writers_of low x) row && cells_good values (32 * (x - 1)) low own x)
    (within row 0 && cells_good values (32 * (x - 1)) low own 0)

unfoldable pub rows_good : ℕ → List ℕ → List ℕ → List ℕ → List ℕ → Bool
rows_good n filled values low own = every 32 (λ x. row_good n values low own (row_in filled x) x)
