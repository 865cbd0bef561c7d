-- What is in a set of processes, and how many are. A set is one 32-bit number (document 01, rule 5: "it holds them as one 32-bit set"): process i of 1 to 32
-- is in it exactly if binary digit i - 1 is set.
use Rattle.std.specs.Prelude.{ℕ, zero, suc, ◌+◌, ◌-◌, ◌/◌, ◌%◌, ◌^◌, Bool, true, false, ◌&&◌, leb, eqb}

-- the processes that a set can hold
abbrev pub known : ℕ → Bool
known i = leb 1 i && leb i 32

-- process i is in the set s
unfoldable pub has : ℕ → ℕ → Bool
has s i = known i && eqb (s / 2 ^ (i - 1) % 2) 1

-- 1 for a test that is passed
abbrev pub tick : Bool → ℕ
tick true = 1
tick false = 0

-- how many numbers from 1 to k pass a test
unfoldable pub count : (ℕ → Bool) → ℕ → ℕ
count f zero = 0
count f (suc k) = tick (f (suc k)) + count f k

-- how many processes are in s
unfoldable pub size : ℕ → ℕ
size s = count (has s) 32
