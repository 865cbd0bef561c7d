-- `report::put_processes` meets its contract.
use Rattle.std.proofs.Common.{arith, ◌≡◌, ◌+◌, ◌-◌, ap, refl, length}
use Rattle.report.proofs.Processes.{none_written, one_written}
use Rattle.report.proofs.put_processes.Goals as goal

pub loop-i-init : goal.loop-i-init
loop-i-init g c = record { clear = c.requires.blank; written = none_written c.args.m.now c.args.out.now }

pub loop-i-preserved : goal.loop-i-preserved
loop-i-preserved g c = record {
  clear = c.hand_over-at.ensures.cleared;
  written = one_written (omega arith) c.loop-i.invariant.written (rw c.loop-i.invariant.clear at c.put_process.ensures.line)
      (omega (arith, ap length c.loop-i.invariant.clear)) refl c.hand_over-at.ensures.value c.hand_over-at.ensures.out_after;
}

pub returns-2 : goal.returns-2
returns-2 g c =
    let w = one_written (omega arith) c.loop-i.invariant.written (rw c.loop-i.invariant.clear at c.put_process.ensures.line)
    (omega (arith, ap length c.loop-i.invariant.clear)) refl c.hand_over-at.ensures.value c.hand_over-at.ensures.out_after in
    let e : c.loop-i.i + 1 - 1 ≡ c.args.m.now.n = omega arith in
    record { value = rw e at w.lines.ends; short = rw e at w.short; out_after = rw e at w.lines.lies; cleared = c.hand_over-at.ensures.cleared }
