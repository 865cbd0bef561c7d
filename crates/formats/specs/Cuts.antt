-- A record cut off by the end of the file, after one byte of its mark (11) or later (24, item 2 of document 02), over bytes and places: when each number is
-- given of a view file, in both directions, and with which place.
use Rattle.std.specs.Prelude.{ℕ, ◌+◌, ◌≤◌, ◌<◌, true, false, ◌≡◌, ◌⊎◌, ◌↔◌, List, length, take}
use Rattle.sets.specs.Lines.{first_that}
use Rattle.sets.specs.Sets.{first, within}
use Rattle.formats.specs.Numbers.{file_number}
use Rattle.formats.specs.Records.{byte_at, spells}
use Rattle.formats.specs.Table.{header_lines, process_at, set_at, end_at, viewed, record_lines, Reached}
use Rattle.formats.specs.ViewFile.{read_of}

-- of both kinds: the mark of the header is there, and n is not
pub record EndsInHeader (s : List ℕ) : Type 0 where
  pub mark : spells "MN" (byte_at s 0) (byte_at s 1) ≡ true
  pub ends : length s ≡ 2

-- the file ends after one byte of a mark, of the header's or of a later record that reading comes to
pub record EndsInMark (s : List ℕ) (at : ℕ) : Type 0 where
  pub comes : (at ≡ 0) ⊎ ((before : List ℕ) × Reached s at before)
  pub ends : length s ≡ at + 1

-- reading comes to a record whose mark is `VW`
pub record ViewMark (s : List ℕ) (at : ℕ) (before : List ℕ) : Type 0 where
  pub comes : Reached s at before
  pub mark : spells "VW" (byte_at s at) (byte_at s (at + 1)) ≡ true

-- its process and set are read, and none of 14, 15 and 16 applies
pub record NoneBefore (s : List ℕ) (at : ℕ) (before : List ℕ) : Type 0 where
  pub low : 1 ≤ process_at s at
  pub high : process_at s at ≤ byte_at s 2
  pub new : viewed s (process_at s at) before ≡ false
  pub inside : within (set_at s at) (first (byte_at s 2)) ≡ true

-- the file ends later in a record: in the header, in the five fixed bytes of a `VW`, or in its values
pub data EndsInBody (s : List ℕ) : Type 0 where
  in_header : EndsInHeader s → EndsInBody s
  in_fixed : {at : ℕ} {before : List ℕ} → ViewMark s at before → at + 2 ≤ length s → length s < at + 7 → EndsInBody s
  in_values : {at : ℕ} {before : List ℕ} → ViewMark s at before → at + 7 ≤ length s → NoneBefore s at before → length s < end_at s at → EndsInBody s

-- the two numbers, each with its place
pub record CutsExactly (s : List ℕ) : Type 0 where
  pub eleven : (place : ℕ) → ((file_number (read_of s).answer ≡ 11) × ((read_of s).place ≡ place)) ↔ EndsInMark s place
  pub twenty_four : (place : ℕ) → ((file_number (read_of s).answer ≡ 24) × ((read_of s).place ≡ place)) ↔ (EndsInBody s × (place ≡ length s))

abbrev pub EveryCutExactly : Type 0
EveryCutExactly = (s : List ℕ) → CutsExactly s

-- So of a file that is cut short. A record of which no line applies spans from a place to the next, the first record or a later one.
pub data Spans (s : List ℕ) : ℕ → ℕ → Type 0 where
  opening : first_that (header_lines s) ≡ 0 → Spans s 0 3
  later : {at : ℕ} {before : List ℕ} → Reached s at before → at < length s → first_that (record_lines s at before) ≡ 0 → Spans s at (end_at s at)

-- The file's first k bytes, which end inside that record: with one byte of it left 11, at the record; with more 24, where they end.
pub record CutInside (s : List ℕ) (at k : ℕ) : Type 0 where
  pub one : k ≡ at + 1 → (file_number (read_of (take k s)).answer ≡ 11) × ((read_of (take k s)).place ≡ at)
  pub more : at + 2 ≤ k → (file_number (read_of (take k s)).answer ≡ 24) × ((read_of (take k s)).place ≡ k)

abbrev pub EveryCutInside : Type 0
EveryCutInside = (s : List ℕ) (at end k : ℕ) → Spans s at end → at < k → k < end → CutInside s at k

-- Cut before a later record a file is read whole: it cannot be told that more stood there.
abbrev pub EveryCutBetween : Type 0
EveryCutBetween = (s : List ℕ) (at : ℕ) (before : List ℕ) → Reached s at before → file_number (read_of (take at s)).answer ≡ 0
