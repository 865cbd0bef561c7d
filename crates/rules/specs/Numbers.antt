-- Document 01's table of the numbers 1 to 8, apart from the calls' definitions: for each call, when each number applies. "The lowest number
-- that applies is given for machine calls."
use Rattle.std.specs.Prelude.{ℕ, Bool, false, not, ◌&&◌, List, [], ◌∷◌, ◌++◌, leb, eqb}
use Rattle.sets.specs.Members.{size}
use Rattle.sets.specs.Lines.{Line, when}
use Rattle.rules.specs.declared.Stage.{Stage}
use Rattle.rules.specs.declared.Stage.TheVariants.{Absent, Running, Finished, Crashed}
use Rattle.rules.specs.declared.Machine.{Machine}
use Rattle.rules.specs.Stands.{stage_of, row_of, entered}
use Rattle.rules.specs.State.{finished, crashed}
use Rattle.rules.specs.Shape.{shaped}
use Rattle.rules.specs.Calls.{reading}

-- "step at level 1 whose last read gives a count other than 1"
abbrev pub last_of_many : Machine → Stage → Bool
last_of_many m Absent = false
last_of_many m (Running x k f) = eqb x 1 && eqb k m.n && not (eqb (size (reading (row_of m x) k f)) 1)
last_of_many m (Finished x w) = false
last_of_many m (Crashed x k f) = false

abbrev pub always : Machine → ℕ → List Line
always m p = when 1 (not (shaped m)) ∷ when 2 (not (leb 1 p && leb p m.n)) ∷ []

abbrev pub enter_lines : Machine → ℕ → List Line
enter_lines m p = always m p ++ when 3 (entered (stage_of m p)) ∷ []

abbrev pub crash_lines : Machine → ℕ → List Line
crash_lines m p = always m p ++ when 4 (not (entered (stage_of m p))) ∷ when 5 (crashed (stage_of m p)) ∷ when 6 (finished (stage_of m p)) ∷ []

abbrev pub step_lines : Machine → ℕ → List Line
step_lines m p = crash_lines m p ++ when 7 (last_of_many m (stage_of m p)) ∷ []

abbrev pub new_lines : ℕ → List Line
new_lines n = when 8 (not (leb 1 n && leb n 32)) ∷ []
