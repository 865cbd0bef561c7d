-- No more bytes have been written than the text has.
use Rattle.std.proofs.Common.{◌≤◌, length}
use Rattle.streams.proofs.write_output.Given as goal

abbrev pub invariant-loop : goal.invariant-loop
invariant-loop g l = l.written ≤ length l.text
