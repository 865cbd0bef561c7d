-- A world of two processes, computed: each writes its value to its own register, reads the other's, and returns what stood there.
use Rattle.std.specs.Prelude.{◌≡◌, true, false, List, [], ◌∷◌, ℕ, ◌-◌, eqb}
use Rattle.world.specs.Programs.{Register, empty, holds, Program, writes, reads, returns, halted, accesses, ◌>>◌, ◌>>=◌}
use Rattle.world.specs.Calls.{Call, enters, steps, crashes, leaves, counts, accepted_step_of, ever, deposits}
use Rattle.world.specs.Counts.{accepted_step, is_accepted, is_refused, admits}
use Rattle.world.specs.World.{Algorithm, World, start, world_taker}
use Rattle.world.specs.Accesses.{wrote_to, read_from, accesses_made}

abbrev pub exchange : ℕ → ℕ → Program ℕ Register
exchange p v = do
  writes p v
  other ← reads (3 - p)
  returns other

abbrev pub two : Algorithm ℕ Register
two = record { processes = 2; same = eqb; initially = λ a. empty; program = exchange }

-- 1 writes; 2 enters, writes and reads; it crashes too late; 1 crashes before its read
abbrev pub calls : List Call
calls =
    enters 1 7 ∷ steps 2 ∷ steps 1 ∷ enters 1 8 ∷ enters 3 5 ∷ enters 2 9 ∷ steps 2 ∷ steps 2 ∷ steps 2 ∷ crashes 2 ∷ crashes 1 ∷ steps 1
    ∷ crashes 1 ∷ []

abbrev after : List Call → World ℕ Register
after = leaves (world_taker two) (start two)

pub record Computed : Type 0 where
  pub one_holds : (after calls).registers 1 ≡ holds 7
  pub two_holds : (after calls).registers 2 ≡ holds 9
  pub none_holds : (after calls).registers 3 ≡ empty
  -- 2 found 1's value; 1 has crashed
  pub two_returns : (after calls).remains 2 ≡ returns (holds 7)
  pub one_halts : (after calls).remains 1 ≡ halted
  -- one access a step: 1 has made its write alone, and 2 both
  pub one_stepped : counts (world_taker two) (accepted_step_of 1) (start two) calls ≡ 1
  pub two_stepped : counts (world_taker two) (accepted_step_of 2) (start two) calls ≡ 2
  pub stepped : counts (world_taker two) accepted_step (start two) calls ≡ 3
  pub accepted : counts (world_taker two) is_accepted (start two) calls ≡ 6
  -- which they are: 1 writes, 2 writes and finds what 1 wrote
  pub made : accesses_made two (start two) calls ≡ wrote_to 1 7 ∷ wrote_to 2 9 ∷ read_from 1 (holds 7) ∷ []
  -- 2 has had an access to make after some of the calls, though not after all; 3 never has
  pub two_goes : ever (world_taker two) (λ w. accesses (w.remains 2)) (start two) calls ≡ true
  pub two_rests : accesses ((after calls).remains 2) ≡ false
  pub three_rests : ever (world_taker two) (λ w. accesses (w.remains 3)) (start two) calls ≡ false
  -- a step before the enter, a second enter, a process above n, a step and a crash after the return, a step and a crash after a crash
  pub refused : counts (world_taker two) is_refused (start two) calls ≡ 7
  -- what was deposited: by the first enter, and by nobody above n
  pub two_deposits : deposits (world_taker two) (start two) calls 2 ≡ 9
  pub one_deposits : deposits (world_taker two) (start two) calls 1 ≡ 7
  pub nobody_deposits : deposits (world_taker two) (start two) calls 3 ≡ 0
  -- an accepted enter of 2 is among the calls, and none of 3
  pub two_admitted : admits (world_taker two) (start two) calls 2 ≡ true
  pub three_admitted : admits (world_taker two) (start two) calls 3 ≡ false
  pub has_entered : (after calls).entered 2 ≡ true
  pub has_not_entered : (after calls).entered 3 ≡ false
