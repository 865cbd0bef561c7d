-- `reader::values_read` meets its contract: a member's value is stored at its place, and another process has none.
use Rattle.std.proofs.Common.{arith}
use Rattle.sets.specs.Members.{has}
use Rattle.sets.proofs.Laws.{count_le}
use Rattle.reader.proofs.Steps.{stored_none, stored_member, stored_other}
use Rattle.reader.proofs.values_read.Goals as goal
use Rattle.reader.proofs.values_read.Goals.{then-has, else-has}

pub loop-j-init : goal.loop-j-init
loop-j-init c = stored_none _ _ _ _

pub overflow_add-place : goal.overflow_add-place
overflow_add-place c = omega (arith, c.loop-j.invariant.past, count_le (has c.args.r.set) c.loop-j.j)

pub loop-j-preserved : goal.loop-j-preserved
loop-j-preserved c =
    elim c.if-has.branch [
      | then-has w ↦ stored_member c.loop-j.invariant (cc) w.place-is (cc)
      | else-has w ↦ stored_other c.loop-j.invariant (cc) w.place-is w.values-is
    ]
