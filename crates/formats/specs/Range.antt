-- The views that a file can carry, and that they read back.
use Rattle.std.specs.Prelude.{ℕ, ◌^◌, ◌≤◌, ◌<◌, true, false, ◌≡◌, length}
use Rattle.sets.specs.Members.{has}
use Rattle.formats.specs.declared.Views.{Views}
use Rattle.formats.specs.Views.{owns, seen_by, value_by}
use Rattle.formats.specs.ViewFile.{file_of, read_whole, read_of}

-- The views that a file can carry: processes and members 1 to n, values below 2^32, zero elsewhere.
pub record InRange (v : Views) : Type 0 where
  pub some : 1 ≤ v.n
  pub most : v.n ≤ 32
  -- what the declared types say by themselves
  pub seats : length v.seen ≡ 32
  pub cells : length v.values ≡ 1024
  pub own_fits : v.own < 2 ^ 32
  pub seen_fits : (i : ℕ) → 1 ≤ i → i ≤ 32 → seen_by v i < 2 ^ 32
  pub value_fits : (i j : ℕ) → 1 ≤ i → i ≤ 32 → 1 ≤ j → j ≤ 32 → value_by v i j < 2 ^ 32
  -- only processes 1 to n have a view, and only they are named
  pub owner : (i : ℕ) → owns v i ≡ true → i ≤ v.n
  pub member : (i j : ℕ) → 1 ≤ i → i ≤ 32 → has (seen_by v i) j ≡ true → j ≤ v.n
  -- "zero elsewhere"
  pub no_view : (i : ℕ) → 1 ≤ i → i ≤ 32 → owns v i ≡ false → seen_by v i ≡ 0
  pub no_member : (i j : ℕ) → 1 ≤ i → i ≤ 32 → 1 ≤ j → j ≤ 32 → has (seen_by v i) j ≡ false → value_by v i j ≡ 0

-- "A written view file reads back as the same views": for all views that a file can carry
abbrev pub ReadsBack : Type 0
ReadsBack = (v : Views) → InRange v → read_of (file_of v) ≡ read_whole (file_of v) v
