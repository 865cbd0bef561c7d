-- `orders::replay_orders` meets its contract: each way out is the definition at what is next, and an order goes on to the next.
use Rattle.std.proofs.Common.{◌∙◌, arith}
use Rattle.replays.proofs.Turns.{over_whole, over_fault, going_fits, going_order}
use Rattle.orders.proofs.replay_orders.Goals as goal

pub loop-order-smaller : goal.loop-order-smaller
loop-order-smaller c =
    let t = going_fits c.loop-order.invariant c.in-Ok-Some.order (cc) in
    omega (arith, t.1, t.2, c.width-at.ensures)

pub loop-order-preserved : goal.loop-order-preserved
loop-order-preserved c =
    rw (c.counted-counts.ensures, c.obey-a.ensures.answer, c.obey-a.ensures.machine, c.width-at.ensures) (going_order c.loop-order.invariant c.in-Ok-Some.order (cc))

pub returns-in-Ok-None : goal.returns-in-Ok-None
returns-in-Ok-None c = c.ends.ensures ∙ over_whole c.loop-order.invariant (cc)

pub returns-in-Err : goal.returns-in-Err
returns-in-Err c = c.ends-in-Err.ensures ∙ over_fault c.loop-order.invariant c.in-Err.a (cc)
