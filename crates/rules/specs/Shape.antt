-- Document 01's paragraph "A state is well shaped if ..": a record with a field for each of its clauses, and the same as a test, which the code
-- computes. `shape_is_tested` of proofs/Laws/Shape says that the two agree.
use Rattle.std.specs.Prelude.{◌≡◌, ℕ, ◌-◌, ◌^◌, ◌≤◌, ◌<◌, Bool, true, false, ◌&&◌, cond, List, leb, eqb, length, get_or}
use Rattle.sets.specs.Members.{has, size}
use Rattle.sets.specs.Sets.{first, every, within, same}
use Rattle.rules.specs.declared.Stage.{Stage}
use Rattle.rules.specs.declared.Stage.TheVariants.{Absent, Running, Finished, Crashed}
use Rattle.rules.specs.declared.Process.{Process}
use Rattle.rules.specs.declared.Machine.{Machine}
use Rattle.rules.specs.Stands.{nobody, process_of, row_in, stage_of, value_of, row_of, cell_of, entered}
use Rattle.rules.specs.State.{found_of, wrote}

-- What the declared types say by themselves: [u32; 32], [u32; 1024], [Process; 32]. Nothing tests it.
pub record Held (m : Machine) : Type 0 where
  pub rows : length m.filled ≡ 32
  pub cells : length m.values ≡ 1024
  pub slots : length m.processes ≡ 32
  pub row : (x : ℕ) → row_of m x < 2 ^ 32
  pub found : (i : ℕ) → found_of (stage_of m i) < 2 ^ 32

-- And that a value is a 32-bit number. It is apart, because a list of calls may hold any number.
abbrev pub Words : Machine → Type 0
Words m = (i : ℕ) → 1 ≤ i → i ≤ 32 → value_of m i < 2 ^ 32

-- a running or crashed process at level x, with `made` accesses there and the registers `found` filled there
pub record Going (n : ℕ) (row : ℕ → ℕ) (x made found : ℕ) : Type 0 where
  -- "every entered process has level 1 to n"
  pub low : 1 ≤ x
  pub high : x ≤ n
  -- "a running or crashed one has 0 to n accesses at its level"
  pub accesses : made ≤ n
  -- "the registers it found filled are among those it has read there": of `made` accesses the first is the write
  pub read : (i : ℕ) → has found i ≡ true → i < made
  -- "and are filled now"
  pub stands : (i : ℕ) → has found i ≡ true → has (row x) i ≡ true

-- a finished process (its n + 1 accesses are not stored)
pub record Ended (n : ℕ) (row : ℕ → ℕ) (x view : ℕ) : Type 0 where
  pub low : 1 ≤ x
  pub high : x ≤ n
  -- "a view whose size is its level"
  pub count : size view ≡ x
  -- "all filled in its row"
  pub stands : (i : ℕ) → has view i ≡ true → has (row x) i ≡ true

abbrev pub ShapedStage : ℕ → (ℕ → ℕ) → Stage → Type 0
ShapedStage n row Absent = Unit {0}
ShapedStage n row (Running x k f) = Going n row x k f
ShapedStage n row (Finished x w) = Ended n row x w
ShapedStage n row (Crashed x k f) = Going n row x k f

pub record ShapedProcess (n : ℕ) (row : ℕ → ℕ) (i : ℕ) (P : Process) : Type 0 where
  -- "slots above n .. are all zero"
  pub above : n < i → entered P.stage ≡ false
  -- "absent processes .. are all zero"
  pub absent : entered P.stage ≡ false → P.value ≡ 0
  pub stage : ShapedStage n row P.stage

pub record ShapedRegister (m : Machine) (x i : ℕ) : Type 0 where
  -- "rows and slots above n .. are all zero"
  pub row_above : m.n < x → has (row_of m x) i ≡ false
  pub slot_above : m.n < i → has (row_of m x) i ≡ false
  -- "whatever is stored beside an empty register [is] zero"
  pub beside : has (row_of m x) i ≡ false → cell_of m x i ≡ 0
  -- "row x, register i is filled .. exactly if i has entered and has level below x, or level x with at least one access there"
  pub exactly : x ≤ m.n → i ≤ m.n → has (row_of m x) i ≡ wrote m.n (stage_of m i) x
  -- ".., with i's value, .."
  pub value : has (row_of m x) i ≡ true → cell_of m x i ≡ value_of m i

pub record Shaped (m : Machine) : Type 0 where
  -- "n is 1 to 32"
  pub some : 1 ≤ m.n
  pub most : m.n ≤ 32
  pub process : (i : ℕ) → 1 ≤ i → i ≤ 32 → ShapedProcess m.n (row_of m) i (process_of m i)
  pub register : (x i : ℕ) → 1 ≤ x → x ≤ 32 → 1 ≤ i → i ≤ 32 → ShapedRegister m x i

-- The same as a test.
abbrev pub goes : ℕ → (ℕ → ℕ) → ℕ → ℕ → ℕ → Bool
goes n row x k f = leb 1 x && leb x n && leb k n && within f (first (k - 1)) && within f (row x)

abbrev pub ends : ℕ → (ℕ → ℕ) → ℕ → ℕ → Bool
ends n row x w = leb 1 x && leb x n && eqb (size w) x && within w (row x)

abbrev pub shaped_stage : ℕ → (ℕ → ℕ) → Stage → Bool
shaped_stage n row Absent = true
shaped_stage n row (Running x k f) = goes n row x k f
shaped_stage n row (Finished x w) = ends n row x w
shaped_stage n row (Crashed x k f) = goes n row x k f

unfoldable pub shaped_process : ℕ → (ℕ → ℕ) → ℕ → Process → Bool
shaped_process n row i P = cond (entered P.stage) (leb i n) (eqb P.value 0) && shaped_stage n row P.stage

unfoldable pub shaped_register : Machine → ℕ → ℕ → Bool
shaped_register m x i =
    same (has (row_of m x) i) (leb x m.n && wrote m.n (stage_of m i) x) && eqb (cell_of m x i) (cond (has (row_of m x) i) (value_of m i) 0)

abbrev pub shaped_records : ℕ → List ℕ → List Process → Bool
shaped_records n filled processes = every 32 (λ i. shaped_process n (row_in filled) i (get_or processes (i - 1) nobody))

abbrev pub shaped_registers : Machine → Bool
shaped_registers m = every 32 (λ x. every 32 (shaped_register m x))

unfoldable pub shaped : Machine → Bool
shaped m = leb 1 m.n && leb m.n 32 && shaped_records m.n m.filled m.processes && shaped_registers m
