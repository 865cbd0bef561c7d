-- As many bytes have come as the buffer has room for, at most.
use Rattle.std.proofs.Common.{◌≤◌, length}
use Rattle.streams.proofs.read_input.Given as goal

abbrev pub invariant-loop : goal.invariant-loop
invariant-loop g l = l.done ≤ length l.buffer
