-- What is left to read ends as the whole does.
use Rattle.std.proofs.Common.{◌-◌, length}
use Rattle.reader.proofs.Steps.{Under}
use Rattle.reader.proofs.read_records.Given as goal

abbrev pub invariant-loop-r : goal.invariant-loop-r
invariant-loop-r l = Under l.s l.n l.at l.views

abbrev pub decreases-loop-r : goal.decreases-loop-r
decreases-loop-r l = length l.s - l.at
