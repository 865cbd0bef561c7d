-- `read_off` meets its contract: what is known after the records passed.
use Rattle.shape.proofs.Passes.{Passed}
use Rattle.shape.proofs.Columns.read_off.Given as goal

abbrev pub invariant-loop-i : goal.invariant-loop-i
invariant-loop-i l = Passed l.m l.i l.low l.own l.buckets
