-- `report::replay_text` meets its contract.
use Rattle.std.proofs.Common.{arith, append_assoc, sym, ap, ◌∙◌, ℕ, length, length-append}
use Rattle.output.specs.Lines.{run_line, process_line, last_line, replay_lines}
use Rattle.output.proofs.ByLength.{replay_short}
use Rattle.text.specs.Parts.{joined}
use Rattle.report.proofs.Pages.{Handed, handed_more}
use Rattle.report.proofs.replay_text.Goals as goal

pub returns : goal.returns
unfolding replay_lines
returns c =
    let r = c.replay-r.result in
    let first = rw c.new-page.ensures at c.put_run.ensures in
    let last = rw c.put_processes.ensures.cleared at c.put_last.ensures in
    let run : Handed c.args.out.now (run_line r) c.hand_over-run.new.out c.hand_over-run.result =
    record { lies = rw first at c.hand_over-run.ensures.out_after; ends = rw first at c.hand_over-run.ensures.value } in
    let lines = joined 1 r.machine.n (process_line r.machine) in
    let most = handed_more lines run (omega arith) c.put_processes.ensures.value c.put_processes.ensures.out_after in
    let all = handed_more (last_line r.machine) most (omega arith) (rw last at c.hand_over.ensures.value) (rw last at c.hand_over.ensures.out_after) in
    let text = append_assoc (run_line r) lines (last_line r.machine) ∙ ap replay_lines c.replay-r.ensures
    ∙ sym (replay_short c.args.bytes.now (omega arith)) in
    record {
      value = (rw text at all.ends, omega (arith, all.ends, ap length all.lies, length-append {A = ℕ}));
      out_after = rw text at all.lies;
    }
