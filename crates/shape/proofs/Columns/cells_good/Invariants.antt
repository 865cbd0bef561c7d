-- `cells_good` meets its contract: `ok` is the test over the registers passed.
use Rattle.std.proofs.Common.{◌≡◌, ◌-◌, ◌*◌}
use Rattle.sets.specs.Sets.{every}
use Rattle.shape.specs.Coded.Columns.{cell_good}
use Rattle.shape.proofs.Columns.cells_good.Given as goal

abbrev pub invariant-loop-i : goal.invariant-loop-i
invariant-loop-i l = l.ok ≡ every l.i (cell_good l.m.values (32 * (l.x - 1)) l.self.low l.self.own l.reach)
