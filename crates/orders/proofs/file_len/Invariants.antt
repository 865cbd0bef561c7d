-- The header and the records of the processes below p are counted.
use Rattle.std.proofs.Common.{◌≡◌, ◌+◌, ◌-◌, ◌*◌, ◌≤◌, length}
use Rattle.text.specs.Parts.{joined}
use Rattle.orders.specs.Coded.Places.{part_of}
use Rattle.orders.proofs.file_len.Given as goal

abbrev pub invariant-loop-p : goal.invariant-loop-p
invariant-loop-p l = record {
  few : l.bytes ≤ 3 + 135 * (l.p - 1);
  all : l.bytes ≡ 3 + length (joined 1 (l.p - 1) (part_of l.m));
}
