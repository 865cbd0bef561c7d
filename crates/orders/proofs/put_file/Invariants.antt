-- The header and the records of the processes below p are there.
use Rattle.std.proofs.Common.{◌≡◌, ◌+◌, ◌-◌, ◌∷◌, ◌++◌, length}
use Rattle.text.specs.Ascii.{ascii}
use Rattle.text.specs.Parts.{joined}
use Rattle.text.specs.Stores.{over}
use Rattle.orders.specs.Coded.Places.{part_of}
use Rattle.orders.proofs.put_file.Given as goal

abbrev pub invariant-loop-p : goal.invariant-loop-p
invariant-loop-p l = record {
  place : l.at ≡ 3 + length (joined 1 (l.p - 1) (part_of l.m));
  there : l.buffer ≡ over (ascii "MN" ++ l.m.n ∷ joined 1 (l.p - 1) (part_of l.m)) l.fn.buffer;
}
