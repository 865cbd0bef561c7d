-- `step` meets its contract: who writes has a row.
use Rattle.std.proofs.Common.{arith}
use Rattle.moves.proofs.Laws.{write_in_place}
use Rattle.machine.proofs.step.Goals as goal

pub overflow_sub-row : goal.overflow_sub-row
overflow_sub-row c = grind (arith, write_in_place)
