-- `report::put_pairs` meets its contract.
use Rattle.std.proofs.Common.{arith, ap, length}
use Rattle.std.proofs.lemmas.Grind.{common_steps}
use Rattle.report.proofs.Pairs.{pair_next, no_pair_here, no_pair_left}
use Rattle.report.proofs.put_pairs.Goals as goal
use Rattle.report.proofs.put_pairs.Goals.{then-has, else-has}

pub put_pair-requires : goal.put_pair-requires
put_pair-requires g c = let e = ap length c.loop-i.invariant in grind (arith, common_steps, pair_next)

pub loop-i-preserved : goal.loop-i-preserved
loop-i-preserved g c =
    elim c.if-has.branch [
      | then-has w ↦ grind (arith, common_steps, pair_next)
      | else-has w ↦ grind (arith, common_steps, no_pair_here)
    ]

pub returns : goal.returns
returns g c = grind (arith, common_steps, no_pair_left)
