-- `read_off` meets its contract: what is known after the records passed.
use Rattle.std.proofs.Common.{◌≡◌, sym, ◌∙◌, arith}
use Rattle.shape.proofs.Passes.{Passed, passed_none, passed_more, passed_low, passed_by_row}
use Rattle.shape.proofs.Columns.read_off.Goals as goal

pub loop-i-init : goal.loop-i-init
loop-i-init c = passed_none c.args.m.now

pub loop-i-preserved : goal.loop-i-preserved
loop-i-preserved c =
    passed_more _ _ _ _ _ _ _ c.loop-i.invariant (omega arith) (sym c.process_good.ensures ∙ c.if-not-process_good.false) c.lowest-x.ensures c.plus.ensures

pub invariant_of-result : goal.invariant_of-result
invariant_of-result c =
    let l = c.loop-i in
    let e : l.i ≡ 32 = omega arith in
    let P : Passed c.args.m.now 32 l.low l.own l.buckets = rw e at l.invariant in
    record { lowest_rows = passed_low _ _ _ _ P; by_row = passed_by_row _ _ _ _ P }
