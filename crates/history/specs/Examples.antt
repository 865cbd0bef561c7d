-- Document 01's printed run (P3) as a list of calls: what is counted of it, who reached which level, what was given, and what the figure returns.
use Rattle.std.specs.Prelude.{◌≡◌, true, false, List, [], ◌∷◌, ℕ}
use Rattle.world.specs.Programs.{returns}
use Rattle.history.specs.Runs.{Call, enters, steps, runs, accepted_steps, all_steps, accepted_calls, refused_calls, reached, given, has_entered}
use Rattle.history.specs.Figure.{Pair}
use Rattle.history.specs.AsWorld.{program_of}

-- "`EN` 1 value 7; `EN` 2 value 9; `ST` 1 three times; `ST` 2 three times; `ST` 1 three times; `ST` 2"
abbrev pub printed : List Call
printed =
    enters 1 7 ∷ enters 2 9 ∷ steps 1 ∷ steps 1 ∷ steps 1 ∷ steps 2 ∷ steps 2 ∷ steps 2 ∷ steps 1 ∷ steps 1 ∷ steps 1 ∷ steps 2 ∷ []

abbrev pub pair : ℕ → ℕ → Pair
pair j v = record { process = j; value = v }

-- "run 0 47 12 9 1": 12 orders taken, 9 accesses, 1 order refused
pub record PrintedCounts : Type 0 where
  pub accepted : accepted_calls 2 printed ≡ 11
  pub refused : refused_calls 2 printed ≡ 1
  pub accesses : all_steps 2 printed ≡ 9
  pub one : accepted_steps 2 printed 1 ≡ 6
  pub two : accepted_steps 2 printed 2 ≡ 3
  pub three : accepted_steps 2 printed 3 ≡ 0

-- both start at level 2; 1 alone falls to level 1
pub record PrintedLevels : Type 0 where
  pub one_at_2 : reached 2 printed 2 1 ≡ true
  pub two_at_2 : reached 2 printed 2 2 ≡ true
  pub one_at_1 : reached 2 printed 1 1 ≡ true
  pub two_at_1 : reached 2 printed 1 2 ≡ false

-- "participants 2"; an enter that is refused, of process 3 of 2, makes no participant
pub record PrintedEntered : Type 0 where
  pub one : has_entered 2 printed 1 ≡ true
  pub two : has_entered 2 printed 2 ≡ true
  pub three : has_entered 2 printed 3 ≡ false
  pub refused : has_entered 2 (enters 3 7 ∷ []) 3 ≡ false

-- "p 1 finished 1 6 1:7", "p 2 finished 2 3 1:7,2:9"
pub record PrintedViews : Type 0 where
  pub one_given : given 2 printed 1 ≡ 7
  pub two_given : given 2 printed 2 ≡ 9
  pub nobody_given : given 2 printed 3 ≡ 0
  pub one : program_of (runs 2 printed) 1 ≡ returns (pair 1 7 ∷ [])
  pub two : program_of (runs 2 printed) 2 ≡ returns (pair 1 7 ∷ pair 2 9 ∷ [])
