-- What the first tests of a call leave, as the code hands it over.
use Rattle.std.specs.Prelude.{◌&&◌, cond, ℕ, leb, Result, Ok, Err}
use Rattle.rules.specs.declared.Stage.{Stage}
use Rattle.rules.specs.declared.Stage.TheVariants.{Absent, Running, Finished, Crashed}
use Rattle.rules.specs.declared.Process.{Process}
use Rattle.rules.specs.declared.Machine.{Machine}
use Rattle.rules.specs.declared.Answer.{Answer}
use Rattle.rules.specs.declared.Answer.TheVariants.{NotShaped, NoProcess, NeverEntered, HasCrashed, HasFinished}
use Rattle.rules.specs.Stands.{process_of}
use Rattle.rules.specs.Shape.{shaped}
use Rattle.moves.specs.declared.Runner.{Runner}

-- 1 and 2
abbrev pub asked_of : Machine → ℕ → Result Process Answer
asked_of m p = cond (shaped m) (cond (leb 1 p && leb p m.n) (Ok (process_of m p)) (Err NoProcess)) (Err NotShaped)

-- 4, 5 and 6
abbrev pub runner_at : Stage → ℕ → Result Runner Answer
runner_at Absent v = Err NeverEntered
runner_at (Running x k f) v = Ok (record { level = x; made = k; found = f; value = v })
runner_at (Finished x w) v = Err HasFinished
runner_at (Crashed x k f) v = Err HasCrashed

abbrev pub runner_in : Result Process Answer → Result Runner Answer
runner_in (Ok P) = runner_at P.stage P.value
runner_in (Err a) = Err a

abbrev pub runner_of : Machine → ℕ → Result Runner Answer
runner_of m p = runner_in (asked_of m p)
