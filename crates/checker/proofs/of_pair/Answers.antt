-- `checker::of_pair` meets its contract: a process that has a view is one of 1 to 32.
use Rattle.std.proofs.Common.{sym, ◌∙◌}
use Rattle.sets.proofs.Laws.{has-known}
use Rattle.checker.proofs.of_pair.Goals as goal

pub breaks-requires : goal.breaks-requires
breaks-requires c =
    let i = has-known c.args.v.now.own c.args.i (sym c.has.ensures ∙ c.if-has.true) in
    let j = has-known c.args.v.now.own c.args.j (sym c.has-then-has.ensures ∙ c.if-has-2.true) in
    (i.0, i.1, j.0, j.1)
