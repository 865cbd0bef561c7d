-- `report::put_last` meets its contract.
use Rattle.output.specs.Lines.{last_line}
use Rattle.report.proofs.put_last.Goals as goal

pub returns : goal.returns
unfolding last_line
returns g c = cc
