-- What the view writer writes (document 01, "Files"): the views of a machine, the file that carries them, and the buffer after it.
use Rattle.std.specs.Prelude.{ℕ, cond, List, [], ◌∷◌, ◌++◌, leb, length, drop}
use Rattle.sets.specs.Members.{has}
use Rattle.sets.specs.Sets.{set_of}
use Rattle.rules.specs.declared.Machine.{Machine}
use Rattle.rules.specs.Stands.{stage_of, cell_of}
use Rattle.rules.specs.State.{finished, level_of}
use Rattle.rules.specs.Shape.{shaped}
use Rattle.rules.specs.Calls.{view_of}
use Rattle.formats.specs.declared.Views.{Views}
use Rattle.text.specs.Parts.{joined}
use Rattle.formats.specs.ViewFile.{file_of}
use Rattle.replays.specs.declared.WriteAnswer.{WriteAnswer}
use Rattle.replays.specs.declared.WriteAnswer.TheVariants.{Done, NotShaped, TooShort}
use Rattle.replays.specs.declared.Written.{Written}

-- document 01's number for an answer
abbrev pub write_number : WriteAnswer → ℕ
write_number Done = 0
write_number NotShaped = 1
write_number TooShort = 17

-- The views of the finished processes of a machine, and zero for the others: process i's view names the processes that i found filled in the row of
-- its level, each with the value that stands there.
abbrev pub value_in : Machine → ℕ → ℕ → ℕ
value_in m i j = cond (has (view_of (stage_of m i)) j) (cell_of m (level_of (stage_of m i)) j) 0

unfoldable pub views_of : Machine → Views
views_of m =
    record {
      n = m.n;
      own = set_of (λ i. finished (stage_of m i)) 32;
      seen = joined 1 32 (λ i. view_of (stage_of m i) ∷ []);
      values = joined 1 32 (λ i. joined 1 32 (λ j. value_in m i j ∷ []));
    }

-- "The view writer writes `MN`, then finished processes in ascending order."
unfoldable pub bytes_of : Machine → List ℕ
bytes_of m = file_of (views_of m)

-- "It answers the bytes written. It refuses 1, then 17, exactly if the buffer is shorter than the file, and then answers 0 bytes"
abbrev pub written : WriteAnswer → ℕ → Written
written a k = record { answer = a; bytes = k }

unfoldable pub write_of : Machine → ℕ → Written
write_of m room =
    cond (shaped m) (cond (leb (length (bytes_of m)) room) (written Done (length (bytes_of m))) (written TooShort 0)) (written NotShaped 0)

-- "and writes nothing; bytes after its output stay."
unfoldable pub buffer_of : Machine → List ℕ → List ℕ
buffer_of m buffer =
    cond (shaped m) (cond (leb (length (bytes_of m)) (length buffer)) (bytes_of m ++ drop (length (bytes_of m)) buffer) buffer) buffer
