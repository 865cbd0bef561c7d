-- What is left to replay ends as the whole does.
use Rattle.std.proofs.Common.{◌-◌, length}
use Rattle.replays.proofs.Turns.{Going}
use Rattle.orders.proofs.replay_orders.Given as goal

abbrev pub invariant-loop-order : goal.invariant-loop-order
invariant-loop-order l = Going l.s l.n l.budget l.counts l.m l.at

abbrev pub decreases-loop-order : goal.decreases-loop-order
decreases-loop-order l = length l.s - l.at
