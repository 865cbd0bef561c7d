-- Lists of calls made on the machine, and what they leave, refused calls among them (demand 3). A refused call leaves the state as it was: that is in
-- the calls' own definitions. What is counted of a list is counted by the definitions of crates/world.
use Rattle.std.specs.Prelude.{Bool, List, ℕ, eqb}
use Rattle.rules.specs.declared.Machine.{Machine}
use Rattle.rules.specs.Stands.{stage_of}
use Rattle.rules.specs.State.{level_of}
use Rattle.rules.specs.Calls.{fresh}
use Rattle.world.specs.Calls.{counts, ever, deposits}
use Rattle.world.specs.Counts.{AfterSome, admits}
pub use Rattle.world.specs.Calls.{Call, enters, steps, crashes, accepted_step_of}
pub use Rattle.world.specs.Counts.{is_step, is_enter_of, accepted_step, is_accepted, is_refused}
pub use Rattle.history.specs.IsFigure.{answer, after, machine_taker, from, runs}

-- how many of the calls pass a test of the call and of whether it was accepted
abbrev pub tally : (Call → Bool → Bool) → Machine → List Call → ℕ
tally test m cs = counts machine_taker test m cs

-- the same of a run of a fresh machine of n processes
abbrev pub accepted_steps : ℕ → List Call → ℕ → ℕ
accepted_steps n cs p = tally (accepted_step_of p) (fresh n) cs

abbrev pub all_steps : ℕ → List Call → ℕ
all_steps n cs = tally accepted_step (fresh n) cs

abbrev pub accepted_calls : ℕ → List Call → ℕ
accepted_calls n cs = tally is_accepted (fresh n) cs

abbrev pub refused_calls : ℕ → List Call → ℕ
refused_calls n cs = tally is_refused (fresh n) cs

-- process p is at level x
abbrev pub at_level : ℕ → ℕ → Machine → Bool
at_level x p m = eqb (level_of (stage_of m p)) x

-- and it is there after some of the calls
abbrev pub reached : ℕ → List Call → ℕ → ℕ → Bool
reached n cs x p = ever machine_taker (at_level x p) (fresh n) cs

abbrev pub Reaches : ℕ → List Call → ℕ → ℕ → Type 0
Reaches n cs x p = AfterSome machine_taker (at_level x p) (fresh n) cs

-- the value that process p was given at its accepted enter, read off the list of calls (0 where it never entered)
abbrev pub given : ℕ → List Call → ℕ → ℕ
given n cs p = deposits machine_taker (fresh n) cs p

-- an enter of process p is among the calls, and is accepted
abbrev pub entered_from : Machine → List Call → ℕ → Bool
entered_from m cs p = admits machine_taker m cs p

abbrev pub has_entered : ℕ → List Call → ℕ → Bool
has_entered n cs p = entered_from (fresh n) cs p
