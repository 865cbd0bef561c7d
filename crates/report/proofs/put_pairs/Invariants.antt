-- `report::put_pairs` meets its contract. The loop's invariant: the pairs of the processes from i on are left to write.
use Rattle.std.proofs.Common.{◌≡◌, ◌++◌, ◌-◌, false}
use Rattle.output.specs.Lines.{pairs_from}
use Rattle.report.proofs.put_pairs.Given as goal

abbrev pub invariant-loop-i : goal.invariant-loop-i
invariant-loop-i g l =
    l.page.bytes ++ pairs_from l.later l.view l.values l.i (33 - l.i) ≡ l.initial.page.bytes ++ pairs_from false l.view l.values 1 32
