-- `rows_good` meets its contract: `ok` is the test over the rows passed, and `written` the processes that have written the last of them.
use Rattle.std.proofs.Common.{◌≡◌}
use Rattle.shape.specs.Coded.Columns.{writers_of}
use Rattle.shape.proofs.Passes.{rows_upto}
use Rattle.shape.proofs.Columns.rows_good.Given as goal

abbrev pub invariant-loop-i : goal.invariant-loop-i
invariant-loop-i l = (l.ok ≡ rows_upto l.m l.self.low l.self.own l.i) × (l.written ≡ writers_of l.self.low l.i)
