-- `rows_good` meets its contract: `ok` is the test over the rows passed, and `written` the processes that have written the last of them.
use Rattle.std.proofs.Common.{◌∙◌, sym, ap₂, ◌&&◌, arith}
use Rattle.shape.proofs.Passes.{rows_more, written_more}
use Rattle.shape.proofs.Columns.rows_good.Goals as goal

pub row_good-good-requires-clause-writers : goal.row_good-good-requires-clause-writers
row_good-good-requires-clause-writers c =
    let s = c.args.self.now in
    let l = c.loop-i in
    written_more s.low s.buckets l.i l.written s.by_row (omega arith) l.invariant.1

pub loop-i-preserved : goal.loop-i-preserved
loop-i-preserved c =
    let s = c.args.self.now in
    let l = c.loop-i in (
      ap₂ ◌&&◌ c.row_good-good.ensures l.invariant.0 ∙ sym (rows_more c.args.m.now s.low s.own l.i),
      written_more s.low s.buckets l.i l.written s.by_row (omega arith) l.invariant.1,
    )
