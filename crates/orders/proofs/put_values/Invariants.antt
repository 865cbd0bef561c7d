-- The values of the members below `member` are there.
use Rattle.std.proofs.Common.{◌≡◌, ◌-◌, length}
use Rattle.text.specs.Parts.{joined}
use Rattle.text.specs.Stores.{over}
use Rattle.orders.specs.Coded.Places.{member_bytes}
use Rattle.orders.proofs.put_values.Given as goal

abbrev pub invariant-loop-member : goal.invariant-loop-member
invariant-loop-member l = record {
  place : l.at ≡ length (joined 1 (l.member - 1) (member_bytes l.values l.level l.view));
  there : l.buffer ≡ over (joined 1 (l.member - 1) (member_bytes l.values l.level l.view)) l.initial.buffer;
}
