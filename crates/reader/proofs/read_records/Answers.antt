-- `reader::read_records` meets its contract: a view that is read has passed its tests, and each way out is the definition at what stands there.
use Rattle.std.proofs.Common.{◌∙◌, arith}
use Rattle.reader.proofs.Steps.{under_first, under_end, under_fault, under_view}
use Rattle.reader.proofs.read_records.Goals as goal

pub loop-r-init : goal.loop-r-init
loop-r-init c = rw c.none_of-views.ensures (under_first _ _ c.requires.0 c.requires.1)

pub with_view-requires : goal.with_view-requires
with_view-requires c =
    let t = (under_view c.loop-r.invariant c.in-Ok-Some.r (cc)).0 in
    (omega (arith, t.whole), t.low, omega (arith, t.high))

pub loop-r-smaller : goal.loop-r-smaller
loop-r-smaller c =
    let t = (under_view c.loop-r.invariant c.in-Ok-Some.r (cc)).0 in
    omega (arith, t.whole)

pub loop-r-preserved : goal.loop-r-preserved
loop-r-preserved c = rw (c.size.ensures, c.with_view.ensures) (under_view c.loop-r.invariant c.in-Ok-Some.r (cc)).1

pub returns-in-Ok-None : goal.returns-in-Ok-None
returns-in-Ok-None c = under_end c.loop-r.invariant (cc)

pub returns-in-Err : goal.returns-in-Err
returns-in-Err c = c.refused.ensures ∙ under_fault c.loop-r.invariant c.in-Err.a (cc)
