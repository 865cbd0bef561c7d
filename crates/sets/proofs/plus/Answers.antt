-- `sets::plus` meets its contract: within 1 to 32 an `or` with the process's bit adds it, and outside the definition changes nothing.
use Rattle.std.proofs.Common.{sym, ap, ◌∙◌, ◌-◌, arith}
use lib.Bits.{bit_or}
use Rattle.sets.proofs.Laws.{plus_unknown, known_true}
use Rattle.sets.proofs.Bits.{plus_or, one_shifted}
use Rattle.sets.proofs.plus.Goals as goal

pub returns-then-known : goal.returns-then-known
returns-then-known c =
    let k = sym c.known.ensures ∙ c.if-known.true in
    let bound = (known_true c.args.i k).1 in
    ap (bit_or c.args.s) (one_shifted (c.args.i - 1) 32 (omega (arith, bound))) ∙ sym (plus_or c.args.s c.args.i k)

pub returns-else-known : goal.returns-else-known
returns-else-known c = sym (plus_unknown c.args.s c.args.i (sym c.known.ensures ∙ c.if-known.false))
