-- The views of a machine as sets of (process, value) pairs (document 01, rule 5).
use Rattle.std.specs.Prelude.{◌≡◌, true, ℕ, ◌≤◌}
use Rattle.sets.specs.Members.{has}
use Rattle.rules.specs.declared.Machine.{Machine}
use Rattle.rules.specs.Stands.{stage_of, cell_of}
use Rattle.rules.specs.State.{finished, level_of, found_of}

-- process i of 1 to n has a view: it has finished
pub record Has (m : Machine) (i : ℕ) : Type 0 where
  pub low : 1 ≤ i
  pub high : i ≤ m.n
  pub ended : finished (stage_of m i) ≡ true

-- the pair (j, v) is in it: j is in its set, and v is what register j of the row of its level holds
pub record View (m : Machine) (i j v : ℕ) : Type 0 where
  pub low : 1 ≤ j
  pub high : j ≤ m.n
  pub seen : has (found_of (stage_of m i)) j ≡ true
  pub held : cell_of m (level_of (stage_of m i)) j ≡ v
