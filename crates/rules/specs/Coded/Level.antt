-- What a process finds at a level, nobody else moving, as one set.
use Rattle.std.specs.Prelude.{◌&&◌, ◌||◌, cond, ℕ, leb, eqb}
use Rattle.sets.specs.Members.{has}
use Rattle.sets.specs.Sets.{set_of}

-- What is found in a row, the own register in it, by the last read there: after k accesses the registers f have been found, and those from k on are
-- left to read; before the write, which comes first, the whole row is.
unfoldable pub gathered : ℕ → ℕ → ℕ → ℕ
gathered row k f = cond (eqb k 0) row (set_of (λ i. has f i || (leb k i && has row i)) 32)
