-- The values of the members up to `j` are stored, and the place is past them.
use Rattle.reader.proofs.Steps.{Stored}
use Rattle.reader.proofs.values_read.Given as goal

abbrev pub invariant-loop-j : goal.invariant-loop-j
invariant-loop-j l = Stored l.s l.from l.r l.initial.values l.j l.place l.values
