-- Every accepted step makes one access.
use mathlib.Core.Path.{◌≡◌, refl, ap, ◌∙◌}
use mathlib.Core.List.{List, [], ◌∷◌, ◌++◌}
use Prim.Native.Nat.{ℕ, ◌+◌}
use native.Mathlib.Omega.{arith}
use lib.ListN.{length}
use Rattle.sets.specs.Members.{tick}
use Rattle.world.specs.Programs.{Register, Program, writes, reads, returns, halted, accesses}
use Rattle.world.specs.Calls.{Call, enters, steps, crashes, counts}
use Rattle.world.specs.Counts.{accepted_step}
use Rattle.world.specs.World.{Algorithm, World, takes, world_taker}
use Rattle.world.specs.Accesses.{Access, first_access, access_made, accesses_made, OneAccessAStep}

-- before others
first-length : {A R : Type 0} (REG : A → Register) (e : Program A R) (l : List (Access A))
    → length (first_access REG e ++ l) ≡ tick (accesses e) + length l
first-length REG (writes a v next) l = omega arith
first-length REG (reads a next) l = omega arith
first-length REG (returns r) l = omega arith
first-length REG halted l = omega arith

one_length : {A R : Type 0} (a : Algorithm A R) (w : World A R) (c : Call) (l : List (Access A))
    → length (access_made w c ++ l) ≡ tick (accepted_step c (takes a w c)) + length l
one_length a w (enters p v) l = omega arith
one_length a w (steps p) l = first-length w.registers (w.remains p) l
one_length a w (crashes p) l = omega arith

pub one_access_a_step : {A R : Type 0} (a : Algorithm A R) → OneAccessAStep a
unfolding accesses_made counts
one_access_a_step a w [] = refl
one_access_a_step a w (c ∷ cs) =
    let next = (world_taker a).after w c in
    one_length a w c (accesses_made a next cs) ∙ ap (λ (k : ℕ). tick (accepted_step c (takes a w c)) + k) (one_access_a_step a next cs)
