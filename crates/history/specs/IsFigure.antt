-- A run of the machine is a run of Fig. 8.16.
use Rattle.std.specs.Prelude.{◌≡◌, List, ℕ, ◌≤◌}
use Rattle.rules.specs.declared.Machine.{Machine}
use Rattle.rules.specs.declared.Called.{Called}
use Rattle.rules.specs.Calls.{accepted, fresh, enter_of, step_of, crash_of}
use Rattle.world.specs.Calls.{Call, enters, steps, crashes, Taker, leaves}
use Rattle.world.specs.World.{takes}
use Rattle.history.specs.Figure.{figure}
use Rattle.history.specs.Demand.{figure_runs}
use Rattle.history.specs.AsWorld.{world_of}

abbrev pub answer : Machine → Call → Called
answer m (enters p v) = enter_of m p v
answer m (steps p) = step_of m p
answer m (crashes p) = crash_of m p

abbrev pub after : Machine → Call → Machine
after m c = (answer m c).machine

-- the machine takes calls
abbrev pub machine_taker : Taker Machine
machine_taker = record { accepts = λ m c. accepted (answer m c); after = after }

-- the state that the calls leave, and that of a fresh machine of n processes
abbrev pub from : Machine → List Call → Machine
from m cs = leaves machine_taker m cs

abbrev pub runs : ℕ → List Call → Machine
runs n cs = from (fresh n) cs

-- Demand 2, of whole runs: after every list of calls from a fresh machine of n processes the machine is the figure's world after the same calls, and
-- both accept the same calls. So the answers of a machine are those of the published algorithm, refused calls among them.
pub record IsFigure (n : ℕ) (cs : List Call) : Type 0 where
  pub world : world_of (runs n cs) ≡ figure_runs n cs
  pub accepts : (c : Call) → accepted (answer (runs n cs) c) ≡ takes (figure n) (figure_runs n cs) c

abbrev pub EveryRunIsFigure : Type 0
EveryRunIsFigure = (n : ℕ) → 1 ≤ n → n ≤ 32 → (cs : List Call) → IsFigure n cs
