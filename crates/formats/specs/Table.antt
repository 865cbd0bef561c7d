-- The numbers 8 to 12, 14 to 16 and 24 of a view file, and what is read of it, over its bytes and places alone: no definition of reading is
-- cited. When each number applies at a record, in the order in which they are looked for.
use Rattle.std.specs.Prelude.{ℕ, ◌+◌, ◌-◌, ◌*◌, ◌^◌, ◌≤◌, ◌<◌, Bool, true, false, not, ◌&&◌, ◌||◌, cond, ◌≡◌, ◌⊎◌, ◌↔◌, ◌≢◌, leb, ltb, eqb, length}
use mathlib.Core.List.{List, [], ◌∷◌, Memᴰ}
use Rattle.sets.specs.Members.{has, count, size}
use Rattle.sets.specs.Sets.{first, within}
use Rattle.sets.specs.Lines.{Line, when, first_that}
use Rattle.formats.specs.declared.Views.{Views}
use Rattle.formats.specs.Numbers.{file_number}
use Rattle.formats.specs.Records.{byte_at, word_at, spells}
use Rattle.formats.specs.Views.{owns, seen_by, value_by}
use Rattle.formats.specs.ViewFile.{read_whole, read_of}

-- the first record
abbrev pub header_lines : List ℕ → List Line
header_lines s =
    when 9 (eqb (length s) 0)
    ∷ when 11 (eqb (length s) 1)
    ∷ when 9 (not (spells "MN" (byte_at s 0) (byte_at s 1)))
    ∷ when 24 (ltb (length s) 3)
    ∷ when 8 (not (leb 1 (byte_at s 2) && leb (byte_at s 2) 32))
    ∷ []

-- The parts of a `VW` whose mark stands at a place: "process (1), set (4; bit i-1 for process i), then one 4-byte value for each process in the set,
-- ascending"; and the place after it.
abbrev pub process_at : List ℕ → ℕ → ℕ
process_at s at = byte_at s (at + 2)

abbrev pub set_at : List ℕ → ℕ → ℕ
set_at s at = word_at s (at + 3)

abbrev pub value_at : List ℕ → ℕ → ℕ → ℕ
value_at s at j = word_at s (at + 7 + 4 * count (has (set_at s at)) (j - 1))

abbrev pub end_at : List ℕ → ℕ → ℕ
end_at s at = at + 7 + 4 * size (set_at s at)

-- one of the records at these places is of process p
abbrev pub viewed : List ℕ → ℕ → List ℕ → Bool
viewed s p [] = false
viewed s p (at ∷ places) = eqb (process_at s at) p || viewed s p places

-- a later record, at a place where bytes are left; `before` are the places of the records before it, and byte 2 of the file is n
abbrev pub record_lines : List ℕ → ℕ → List ℕ → List Line
record_lines s at before =
    when 11 (eqb (length s) (at + 1))
    ∷ when 12 (spells "MN" (byte_at s at) (byte_at s (at + 1)))
    ∷ when 10 (not (spells "VW" (byte_at s at) (byte_at s (at + 1))))
    ∷ when 24 (ltb (length s) (at + 7))
    ∷ when 14 (not (leb 1 (process_at s at) && leb (process_at s at) (byte_at s 2)))
    ∷ when 15 (viewed s (process_at s at) before)
    ∷ when 16 (not (within (set_at s at) (first (byte_at s 2))))
    ∷ when 24 (ltb (length s) (end_at s at))
    ∷ []

-- the places that reading comes to, each with those of the records before it, the last of these first
pub data Reached (s : List ℕ) : ℕ → List ℕ → Type 0 where
  start : first_that (header_lines s) ≡ 0 → Reached s 3 []
  more : {at : ℕ} {before : List ℕ} → Reached s at before → at < length s → first_that (record_lines s at before) ≡ 0
      → Reached s (end_at s at) (at ∷ before)

-- number k applies at the record that stands at a place, and is the first that does
abbrev pub Refusal : List ℕ → ℕ → ℕ → Type 0
Refusal s k at =
    ((at ≡ 0) × (first_that (header_lines s) ≡ k))
    ⊎ ((before : List ℕ) × Reached s at before × (at < length s) × (first_that (record_lines s at before) ≡ k))

-- "The place is the offset of the record's mark"; of 24 it is "the offset of the first missing byte, which is the file's length".
abbrev pub place_given : List ℕ → ℕ → ℕ → ℕ
place_given s k at = cond (eqb k 24) (length s) at

-- each number is given, with its place, exactly when it applies at a record
abbrev pub RefusedExactly : Type 0
RefusedExactly = (s : List ℕ) (k place : ℕ) → k ≢ 0
    → ((file_number (read_of s).answer ≡ k) × ((read_of s).place ≡ place)) ↔ ((at : ℕ) × Refusal s k at × (place ≡ place_given s k at))

-- The views that the records at these places carry.
pub record Carried (s places : List ℕ) (v : Views) : Type 0 where
  pub n : v.n ≡ byte_at s 2
  pub own : (p : ℕ) → owns v p ≡ viewed s p places
  pub seen : (at : ℕ) → Memᴰ at places → seen_by v (process_at s at) ≡ set_at s at
  pub value : (at j : ℕ) → Memᴰ at places → has (set_at s at) j ≡ true → value_by v (process_at s at) j ≡ value_at s at j
  -- zero elsewhere
  pub no_view : (i : ℕ) → 1 ≤ i → i ≤ 32 → owns v i ≡ false → seen_by v i ≡ 0
  pub no_member : (i j : ℕ) → 1 ≤ i → i ≤ 32 → 1 ≤ j → j ≤ 32 → has (seen_by v i) j ≡ false → value_by v i j ≡ 0
  -- what the declared types say by themselves
  pub own_fits : v.own < 2 ^ 32
  pub seats : length v.seen ≡ 32
  pub cells : length v.values ≡ 1024

-- and a file is read exactly when reading comes to its end; its views are then those that its records carry, and no others
abbrev pub ReadExactly : Type 0
ReadExactly = (s : List ℕ) (v : Views) → (read_of s ≡ read_whole s v) ↔ ((places : List ℕ) × Reached s (length s) places × Carried s places v)
