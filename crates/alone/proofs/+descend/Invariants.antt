-- `descend` calls itself one level below.
use Rattle.alone.proofs.+descend.Given as goal

abbrev pub decreases-descend : goal.decreases-descend
decreases-descend l = l.runner.level
