-- What the two definitions of a view file promise of each other. `proofs/` proves each, under the same name in small letters, with underscores.
use Rattle.std.specs.Prelude.{ℕ, ◌<◌, true, false, ◌≡◌, List, length}
use Rattle.formats.specs.declared.Views.{Views}
use Rattle.formats.specs.Numbers.{is_whole}
use Rattle.formats.specs.Records.{byte_at}
use Rattle.formats.specs.Range.{InRange}
use Rattle.formats.specs.Views.{none_of}
use Rattle.formats.specs.ViewFile.{file_of, read_of}

-- A file holds bytes. What a function is handed as a slice is a file (`slice_file` of proofs/Typed).
abbrev pub Bytes : List ℕ → Type 0
Bytes s = (i : ℕ) → byte_at s i < 256

pub record File : Type 0 where
  pub content : List ℕ
  pub bytes : Bytes content

-- What is written is bytes.
abbrev pub WritesBytes : Type 0
WritesBytes = (v : Views) → InRange v → Bytes (file_of v)

-- A file that is read gives views that a file can carry,
abbrev pub ReadInRange : Type 0
ReadInRange = (f : File) → is_whole (read_of f.content).answer ≡ true → InRange (read_of f.content).views

-- and its place is its length.
abbrev pub ReadPlace : Type 0
ReadPlace = (s : List ℕ) → is_whole (read_of s).answer ≡ true → (read_of s).place ≡ length s

-- "a refused file gives n = 0 and no views"
abbrev pub RefusedGivesNone : Type 0
RefusedGivesNone = (s : List ℕ) → is_whole (read_of s).answer ≡ false → (read_of s).views ≡ none_of 0
