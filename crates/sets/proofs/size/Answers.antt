-- `sets::size` meets its contract: the members are the bits that are set.
use mathlib.Core.Path.{sym}
use Rattle.sets.proofs.Laws.{size_ones}
use Rattle.sets.proofs.size.Goals as goal

pub returns : goal.returns
returns c = sym (size_ones c.args.s c.ranges.s.fits)
