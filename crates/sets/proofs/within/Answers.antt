-- `sets::within` meets its contract: s is inside t exactly if an `and` with t leaves s.
use mathlib.Core.Path.{sym}
use Rattle.sets.proofs.Bits.{within_and}
use Rattle.sets.proofs.within.Goals as goal

pub returns : goal.returns
returns c = sym (within_and c.args.s c.args.t c.ranges.s.fits)
