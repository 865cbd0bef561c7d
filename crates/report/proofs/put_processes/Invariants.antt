-- `report::put_processes` meets its contract. The loop's invariant: the lines of the processes before i are handed over, and the page is clear.
use Rattle.std.proofs.Common.{◌≡◌, []}
use Rattle.report.proofs.Processes.{Written}
use Rattle.report.proofs.put_processes.Given as goal

abbrev pub invariant-loop-i : goal.invariant-loop-i
invariant-loop-i g l = record { clear : l.page.bytes ≡ []; written : Written l.m l.initial.out l.out l.at l.i }
