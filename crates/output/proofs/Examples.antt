-- The printed texts, computed. The machine's test of its own shape is dear to compute, so the printed run is first rid of it.
use Prim.Native.Nat.{ℕ, ◌≤◌}
use mathlib.Core.Path.{◌≡◌, refl, ap, ◌∙◌}
use mathlib.Core.List.{List}
use lib.Dec.{lit≤}
use lib.ListN.{length}
use Rattle.std.specs.Prelude.{Result, Ok}
use Rattle.sets.specs.Members.{has, count, size}
use Rattle.sets.specs.Sets.{plus, first, every, within}
use Rattle.rules.specs.Calls.{fresh, reading, settle, access, row_values}
use Rattle.rules.proofs.Laws.Keeps.{meets_fresh}
use Rattle.history.specs.Runs.{accepted_step, is_refused}
use Rattle.history.proofs.Bare.{bare_answer, Trace, trace_by, trace_bare, end, tallied, from_end, tally_tallied}
use Rattle.formats.specs.declared.FileAnswer.{FileAnswer}
use Rattle.formats.specs.declared.FileAnswer.TheVariants.{OutOfRange, BodyCut}
use Rattle.formats.specs.Numbers.{place_of}
use Rattle.formats.specs.Records.{mark_of, mark_at, header_of, order_at, view_at}
use Rattle.formats.specs.ViewFile.{tested_at, values_read, read_from, read_of}
use Rattle.formats.specs.Examples.{MN}
use Rattle.formats.proofs.Reading.{opened}
use Rattle.findings.specs.Findings.{agree, inside, breaks, of_one, of_pair, findings, check_of}
use Rattle.findings.specs.Verdict.{verdict_of}
use Rattle.replays.specs.declared.Replayed.{Replayed}
use Rattle.replays.specs.Replays.{Orders, orders_from, replayed, replay_by, replay_of}
use Rattle.replays.specs.Examples.{printed_file}
use Rattle.text.specs.Ascii.{ascii}
use Rattle.text.specs.Decimal.{digits_in, decimal}
use Rattle.text.specs.Parts.{joined}
use Rattle.output.specs.Lines.{pair, pairs_from, sight_line, process_line, run_line, partaking, last_line}
use Rattle.output.specs.Lines.{replay_lines, replay_text, verdict_line, verdict_text}
use Rattle.output.specs.Examples.{p2_file, largest_file, p7_file, running_file, absent_file, ten_file, cut_file, cut_later_file, Texts}
use Rattle.output.proofs.ByLength.{replay_short}
use Rattle.output.proofs.Headers.{refused_header_prints}

-- what a replay answers, read off the trace of its calls
abbrev traced : List ℕ → Orders → Trace → Replayed
traced s o t =
    record {
      answer = o.answer;
      place = place_of o.answer o.place (length s);
      taken = length o.calls;
      accesses = tallied accepted_step t;
      refused = tallied is_refused t;
      machine = end t;
    }

abbrev bare : List ℕ → ℕ → Orders → Replayed
bare s n o = traced s o (trace_by bare_answer (fresh n) o.calls)

replayed_bare : (s : List ℕ) (n : ℕ) → 1 ≤ n → n ≤ 32 → (o : Orders) → replayed s n o ≡ bare s n o
replayed_bare s n low high o =
    let at = place_of o.answer o.place (length s) in
    let x = tally_tallied accepted_step (fresh n) o.calls in
    let r = tally_tallied is_refused (fresh n) o.calls in
    let m = from_end (fresh n) o.calls in
    (λ i. record { answer = o.answer; place = at; taken = length o.calls; accesses = x i; refused = r i; machine = m i })
    ∙ ap (traced s o) (trace_bare n (fresh n) (meets_fresh n low high) o.calls)

-- what is printed of a file whose header is taken
prints : (s : List ℕ) (n : ℕ) {t : List ℕ} → length s ≤ 65535 → header_of s ≡ Ok n → replay_lines (bare s n (orders_from 65535 s 3)) ≡ t
    → replay_text s ≡ t
unfolding replay_of
prints s n h e t =
    let o = opened s n e in
    replay_short s h ∙ ap (λ (x : Result ℕ FileAnswer). replay_lines (replay_by s 65535 x)) e
    ∙ ap replay_lines (replayed_bare s n o.some o.most (orders_from 65535 s 3)) ∙ t

pub texts : Texts
unfolding replay_lines run_line header_of orders_from order_at mark_at mark_of trace_by bare_answer access settle reading has plus count size joined
    process_line sight_line row_values pairs_from pair decimal digits_in last_line partaking verdict_text verdict_line verdict_of check_of findings
    of_one of_pair breaks agree inside read_of read_from view_at tested_at values_read first every within
texts =
    record {
      printed_run = prints printed_file 2 (lit≤ tt) refl refl;
      p2 = prints p2_file 1 (lit≤ tt) refl refl;
      largest = prints largest_file 1 (lit≤ tt) refl refl;
      p7 = prints p7_file 3 (lit≤ tt) refl refl;
      running = prints running_file 2 (lit≤ tt) refl refl;
      absent = prints absent_file 2 (lit≤ tt) refl refl;
      ten = prints ten_file 10 (lit≤ tt) refl refl;
      cut = prints cut_file 1 (lit≤ tt) refl refl;
      cut_later = prints cut_later_file 1 (lit≤ tt) refl refl;
      cut_header = refused_header_prints (ascii "MN") BodyCut (lit≤ tt) refl;
      refused_header = refused_header_prints (MN 33) OutOfRange (lit≤ tt) refl;
      unlike_views = refl;
      cut_view = refl;
      nothing = refl;
      no_views = refl;
    }
