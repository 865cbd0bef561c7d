-- A view file read off the machine, as the view writer stores it.
use Rattle.std.specs.Prelude.{ℕ, cond, List, [], ◌∷◌, ◌++◌}
use Rattle.sets.specs.Members.{has}
use Rattle.rules.specs.declared.Stage.{Stage}
use Rattle.rules.specs.declared.Stage.TheVariants.{Absent, Running, Finished, Crashed}
use Rattle.rules.specs.declared.Machine.{Machine}
use Rattle.rules.specs.Stands.{stage_of, cell_in}
use Rattle.formats.specs.Records.{word_bytes}
use Rattle.text.specs.Ascii.{ascii}
use Rattle.text.specs.Parts.{joined}

-- the value that the view w at level x has for process j, if it names j
abbrev pub member_bytes : List ℕ → ℕ → ℕ → ℕ → List ℕ
member_bytes values x w j = cond (has w j) (word_bytes (cell_in values x j)) []

-- the record of process i, which finished at level x with the view w
unfoldable pub record_bytes : List ℕ → ℕ → ℕ → ℕ → List ℕ
record_bytes values i x w = ascii "VW" ++ i ∷ word_bytes w ++ joined 1 32 (member_bytes values x w)

abbrev pub stage_bytes : List ℕ → ℕ → Stage → List ℕ
stage_bytes values i Absent = []
stage_bytes values i (Running x k f) = []
stage_bytes values i (Finished x w) = record_bytes values i x w
stage_bytes values i (Crashed x k f) = []

-- the file, read off the machine
abbrev pub part_of : Machine → ℕ → List ℕ
part_of m i = stage_bytes m.values i (stage_of m i)

unfoldable pub machine_bytes : Machine → List ℕ
machine_bytes m = ascii "MN" ++ m.n ∷ joined 1 32 (part_of m)
