-- The number and the place that a file call answers with.
use Rattle.std.specs.Prelude.{ℕ, Bool, cond, eqb}
use Rattle.formats.specs.declared.FileAnswer.{FileAnswer}
use Rattle.formats.specs.declared.FileAnswer.TheVariants.{Whole, OutOfRange, NotHeader, OtherMark, MarkCut, BodyCut, HeaderAgain}
use Rattle.formats.specs.declared.FileAnswer.TheVariants.{BudgetSpent, NoProcess, SecondView, NamesAbove}

-- Document 01's numbers; 24 is item 2 of document 02: the file ends in the body of a record.
abbrev pub file_number : FileAnswer → ℕ
file_number Whole = 0
file_number OutOfRange = 8
file_number NotHeader = 9
file_number OtherMark = 10
file_number MarkCut = 11
file_number BodyCut = 24
file_number HeaderAgain = 12
file_number BudgetSpent = 13
file_number NoProcess = 14
file_number SecondView = 15
file_number NamesAbove = 16

-- the file was read whole
abbrev pub is_whole : FileAnswer → Bool
is_whole a = eqb (file_number a) 0

-- The place, of a file that ends at `end`: "the offset of the record's mark, or the file's length when all was read", which is `at`; of a body cut off "the
-- offset of the first missing byte, which is the file's length" (item 2).
abbrev pub place_of : FileAnswer → ℕ → ℕ → ℕ
place_of a at end = cond (eqb (file_number a) 24) end at
