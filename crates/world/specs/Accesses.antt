-- The accesses that calls make, in their order: what was written where, and what a read found where.
use Rattle.std.specs.Prelude.{◌≡◌, List, [], ◌∷◌, ◌++◌, length, ℕ}
use Rattle.world.specs.Programs.{Register, Program, writes, reads, returns, halted}
use Rattle.world.specs.Calls.{Call, enters, steps, crashes, counts}
use Rattle.world.specs.Counts.{accepted_step}
use Rattle.world.specs.World.{Algorithm, World, world_taker}

pub data Access (A : Type 0) : Type 0 where
  wrote_to : A → ℕ → Access A
  read_from : A → Register → Access A

-- the first access of a program, on the registers as they stand: none, where the program does not begin with one
abbrev pub first_access : {A R : Type 0} → (A → Register) → Program A R → List (Access A)
first_access REG (writes a v next) = wrote_to a v ∷ []
first_access REG (reads a next) = read_from a (REG a) ∷ []
first_access REG (returns r) = []
first_access REG halted = []

-- Only a step makes an access. Those of k steps of p alone are the accesses of a list of k calls `steps p`.
abbrev pub access_made : {A R : Type 0} → World A R → Call → List (Access A)
access_made w (enters p v) = []
access_made w (steps p) = first_access w.registers (w.remains p)
access_made w (crashes p) = []

unfoldable pub accesses_made : {A R : Type 0} → Algorithm A R → World A R → List Call → List (Access A)
accesses_made a w [] = []
accesses_made a w (c ∷ cs) = access_made w c ++ accesses_made a ((world_taker a).after w c) cs

-- Every accepted step makes one access, and no other call makes any.
abbrev pub OneAccessAStep : {A R : Type 0} → Algorithm A R → Type 0
OneAccessAStep {A} {R} a = (w : World A R) (cs : List Call) → length (accesses_made a w cs) ≡ counts (world_taker a) accepted_step w cs
