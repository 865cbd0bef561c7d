-- The three properties of a one-shot immediate snapshot, section 2.3 of source document 002, over any views: `done i` says that i has a view,
-- `view i j v` that the pair (j, v) is in it, and `given i` is the value that i deposited.
use Rattle.std.specs.Prelude.{ℕ, ◌⊎◌}

-- one set of pairs inside another
abbrev pub Inside : (ℕ → ℕ → Type 0) → (ℕ → ℕ → Type 0) → Type 0
Inside A B = (j v : ℕ) → A j v → B j v

pub record Immediate (done : ℕ → Type 0) (view : ℕ → ℕ → ℕ → Type 0) (given : ℕ → ℕ) : Type 0 where
  pub self_inclusion : (i : ℕ) → done i → view i i (given i)
  pub containment : (i j : ℕ) → done i → done j → Inside (view i) (view j) ⊎ Inside (view j) (view i)
  pub simultaneity : (i j : ℕ) → done i → done j → view i j (given j) → view j i (given i) → Inside (view i) (view j) × Inside (view j) (view i)
