-- What a step does, as the code hands it over: its move, decided before the machine is changed.
use Rattle.std.specs.Prelude.{◌≡◌, ℕ, ◌+◌, ◌-◌, cond, ltb, eqb, Result, Ok, Err}
use Rattle.sets.specs.Members.{size}
use Rattle.rules.specs.declared.Stage.{Stage}
use Rattle.rules.specs.declared.Stage.TheVariants.{Running, Finished}
use Rattle.rules.specs.declared.Machine.{Machine}
use Rattle.rules.specs.declared.Answer.{Answer}
use Rattle.rules.specs.declared.Answer.TheVariants.{NoLevelBelow}
use Rattle.rules.specs.declared.Called.{Called}
use Rattle.rules.specs.Stands.{row_of}
use Rattle.rules.specs.State.{with_process, with_register}
use Rattle.rules.specs.Calls.{done, refused, reading, step_of}
use Rattle.moves.specs.declared.Runner.{Runner}
use Rattle.moves.specs.declared.Move.{Move}
use Rattle.moves.specs.declared.Move.TheVariants.{Write, Turn}
use Rattle.moves.specs.Coded.Asked.{runner_of}

-- rules 4 and 5: the stage after a read in a row, over the set found
abbrev pub after_last : ℕ → ℕ → Result Stage Answer
after_last x f = cond (eqb (size f) x) (Ok (Finished x f)) (cond (eqb x 1) (Err NoLevelBelow) (Ok (Running (x - 1) 0 0)))

abbrev pub after_read : ℕ → ℕ → Runner → Result Stage Answer
after_read n row r =
    cond (ltb r.made n) (Ok (Running r.level (r.made + 1) (reading row r.made r.found))) (after_last r.level (reading row r.made r.found))

abbrev pub turn : ℕ → Result Stage Answer → Result Move Answer
turn v (Ok s) = Ok (Turn (record { stage = s; value = v }))
turn v (Err a) = Err a

-- rule 4: the first access at a level writes
abbrev pub move_in : Machine → Result Runner Answer → Result Move Answer
move_in m (Ok r) = cond (eqb r.made 0) (Ok (Write r)) (turn r.value (after_read m.n (row_of m r.level) r))
move_in m (Err a) = Err a

abbrev pub move_of : Machine → ℕ → Result Move Answer
move_of m p = move_in m (runner_of m p)

-- the machine with the move made: what is written, or the record of p
abbrev pub moved : Machine → ℕ → Result Move Answer → Called
moved m p (Ok (Write r)) =
    done (with_process (with_register m r.level p r.value) p (record { stage = Running r.level 1 r.found; value = r.value }))
moved m p (Ok (Turn P)) = done (with_process m p P)
moved m p (Err a) = refused a m

-- A step is its move made.
abbrev pub StepIsMove : Type 0
StepIsMove = (m : Machine) (p : ℕ) → step_of m p ≡ moved m p (move_of m p)
