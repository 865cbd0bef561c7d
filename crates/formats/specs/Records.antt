-- Marks, little-endian numbers and records, as both kinds of file have them. A file is the list of its bytes, and a place is an offset into it.
use Rattle.std.specs.Prelude.{ℕ, ◌+◌, ◌*◌, ◌/◌, ◌%◌, Bool, ◌&&◌, cond, List, [], ◌∷◌, leb, eqb, length, get_or, Option, Some, None, Result, Ok, Err}
use Prim.Native.String.{String, char_at}
use Prim.Native.Char.{code}
use Rattle.formats.specs.declared.FileAnswer.{FileAnswer}
use Rattle.formats.specs.declared.FileAnswer.TheVariants.{OutOfRange, NotHeader, OtherMark, MarkCut, BodyCut, HeaderAgain}
use Rattle.formats.specs.declared.Mark.{Mark}
use Rattle.formats.specs.declared.Order.{Order}
use Rattle.formats.specs.declared.ViewRecord.{ViewRecord}

-- "numbers are little-endian": the byte at a place, the 4-byte number there, and the bytes of a 4-byte number
abbrev pub byte_at : List ℕ → ℕ → ℕ
byte_at s at = get_or s at 0

abbrev pub word_at : List ℕ → ℕ → ℕ
word_at s at = byte_at s at + 256 * byte_at s (at + 1) + 65536 * byte_at s (at + 2) + 16777216 * byte_at s (at + 3)

abbrev pub word_bytes : ℕ → List ℕ
word_bytes x = x % 256 ∷ x / 256 % 256 ∷ x / 65536 % 256 ∷ x / 16777216 % 256 ∷ []

-- the two bytes are a and b
abbrev pub is_mark : ℕ → ℕ → ℕ → ℕ → Bool
is_mark a b x y = eqb x a && eqb y b

-- "Marks are ASCII": the two bytes x and y read as a mark
abbrev pub spells : String → ℕ → ℕ → Bool
spells mark x y = is_mark (code (char_at mark 0)) (code (char_at mark 1)) x y

unfoldable pub mark_of : ℕ → ℕ → Mark
mark_of x y =
    cond (spells "MN" x y) Mark.Header
    (cond (spells "EN" x y) Mark.Enter
    (cond (spells "ST" x y) Mark.Step
    (cond (spells "CR" x y) Mark.Crash (cond (spells "VW" x y) Mark.View Mark.Other))))

-- what stands at a record's place: nothing left, one byte left, or a mark
unfoldable pub mark_at : List ℕ → ℕ → Mark
mark_at s at = cond (leb (length s) at) Mark.End (cond (eqb (length s) (at + 1)) Mark.Cut (mark_of (byte_at s at) (byte_at s (at + 1))))

-- the record at a place has its mark and `body` bytes after it
abbrev pub fits : List ℕ → ℕ → ℕ → Bool
fits s at body = leb (at + 2 + body) (length s)

-- "`MN`, n (1 byte): first record of both kinds." One byte left is 11; then the mark (9 in first place); then the body's length (24, item 2 of document
-- 02); then 8 for the header.
abbrev pub header_by : List ℕ → Mark → Result ℕ FileAnswer
header_by s Mark.End = Err NotHeader
header_by s Mark.Cut = Err MarkCut
header_by s Mark.Header =
    cond (fits s 0 1) (cond (leb 1 (byte_at s 2) && leb (byte_at s 2) 32) (Ok (byte_at s 2)) (Err OutOfRange)) (Err BodyCut)
header_by s Mark.Enter = Err NotHeader
header_by s Mark.Step = Err NotHeader
header_by s Mark.Crash = Err NotHeader
header_by s Mark.View = Err NotHeader
header_by s Mark.Other = Err NotHeader

unfoldable pub header_of : List ℕ → Result ℕ FileAnswer
header_of s = header_by s (mark_at s 0)

-- What stands at a later record's place: the record, none where the file ends there, or its fault.
abbrev pub AtPlace : Type 0 → Type 0
AtPlace r = Result (Option r) FileAnswer

-- A later record: one byte left is 11; then the mark (12, 10); then the body's length (24).
-- Order file: `EN`, process (1), value (4). `ST`, process (1). `CR`, process (1).
abbrev pub order_by : List ℕ → ℕ → Mark → AtPlace Order
order_by s at Mark.End = Ok None
order_by s at Mark.Cut = Err MarkCut
order_by s at Mark.Header = Err HeaderAgain
order_by s at Mark.Enter = cond (fits s at 5) (Ok (Some (Order.Enter (byte_at s (at + 2)) (word_at s (at + 3))))) (Err BodyCut)
order_by s at Mark.Step = cond (fits s at 1) (Ok (Some (Order.Step (byte_at s (at + 2))))) (Err BodyCut)
order_by s at Mark.Crash = cond (fits s at 1) (Ok (Some (Order.Crash (byte_at s (at + 2))))) (Err BodyCut)
order_by s at Mark.View = Err OtherMark
order_by s at Mark.Other = Err OtherMark

unfoldable pub order_at : List ℕ → ℕ → AtPlace Order
order_at s at = order_by s at (mark_at s at)

-- View file: `VW`, process (1), set (4), then its values, which are no part of the record's fixed bytes.
abbrev pub view_by : List ℕ → ℕ → Mark → AtPlace ViewRecord
view_by s at Mark.End = Ok None
view_by s at Mark.Cut = Err MarkCut
view_by s at Mark.Header = Err HeaderAgain
view_by s at Mark.Enter = Err OtherMark
view_by s at Mark.Step = Err OtherMark
view_by s at Mark.Crash = Err OtherMark
view_by s at Mark.View = cond (fits s at 5) (Ok (Some (record { process = byte_at s (at + 2); set = word_at s (at + 3) }))) (Err BodyCut)
view_by s at Mark.Other = Err OtherMark

unfoldable pub view_at : List ℕ → ℕ → AtPlace ViewRecord
view_at s at = view_by s at (mark_at s at)
