-- `report::put_line` meets its contract. The loop's invariant: the numbers from the index on are left to write.
use Rattle.std.proofs.Common.{◌≡◌, ◌++◌, drop}
use Rattle.output.specs.Lines.{fields}
use Rattle.report.proofs.put_line.Given as goal

abbrev pub invariant-loop-n : goal.invariant-loop-n
invariant-loop-n g l = l.page.bytes ++ fields (drop l.n-index l.numbers) ≡ l.initial.page.bytes ++ fields l.numbers
