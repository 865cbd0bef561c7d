-- A set of processes as one 32-bit number (document 01, rule 5: "it holds them as one 32-bit set"): process i of 1 to 32 is in it exactly if
-- binary digit i - 1 is set.
use Rattle.std.specs.Prelude.{ℕ, zero, suc, ◌+◌, ◌-◌, ◌^◌, min, Bool, true, false, not, ◌&&◌, cond, leb}
use Rattle.sets.specs.Members.{known, has}

-- s with process i in it; s itself where no set can hold i
unfoldable pub plus : ℕ → ℕ → ℕ
plus s i = cond (known i && not (has s i)) (s + 2 ^ (i - 1)) s

-- the processes 1 to k, of those that a set can hold
unfoldable pub first : ℕ → ℕ
first k = 2 ^ min k 32 - 1

-- a test that every number from 1 to k passes
unfoldable pub every : ℕ → (ℕ → Bool) → Bool
every zero f = true
every (suc k) f = f (suc k) && every k f

-- every process of s is in t
unfoldable pub within : ℕ → ℕ → Bool
within s t = every 32 (λ i. cond (has s i) (has t i) true)

-- the set of those of 1 to k that pass a test, of those that a set can hold
unfoldable pub set_of : (ℕ → Bool) → ℕ → ℕ
set_of f zero = 0
set_of f (suc k) = cond (f (suc k)) (plus (set_of f k) (suc k)) (set_of f k)

-- the processes k, k + 1, .. of s
unfoldable pub upwards : ℕ → ℕ → ℕ
upwards s k = set_of (λ i. leb k i && has s i) 32

-- two tests agree
abbrev pub same : Bool → Bool → Bool
same true b = b
same false b = not b
