-- `report::put_line` meets its contract.
use Rattle.std.proofs.Common.{arith, ◌≡◌, [], ap, length, drop, lit<, append-nil, append_assoc}
use Rattle.std.proofs.Math.ListN.{drop_of_length-le}
use Rattle.std.proofs.lemmas.Grind.{common_steps}
use Rattle.report.proofs.put_line.Goals as goal

pub put_field-requires : goal.put_field-requires
put_field-requires g c = let e = ap length c.loop-n.invariant in grind (arith, common_steps)

pub returns : goal.returns
returns g c =
    let none : drop c.loop-n.n-index c.args.numbers.now ≡ [] = drop_of_length-le c.args.numbers.now (omega arith) in
    let all = rw (none, append-nil, c.push_str.ensures.bytes) at c.loop-n.invariant in
    simp append_assoc at rw all at c.push.ensures.ascii (lit< tt)
