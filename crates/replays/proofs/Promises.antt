-- Demand 3 of the state that any file leaves, and the counts that a replay answers.
use Prim.Native.Nat.{ℕ, ◌≤◌}
use mathlib.Core.Path.{◌≡◌, refl, sym, ap, ◌∙◌, subst}
use mathlib.Core.Logic.{◌≢◌}
use mathlib.Core.List.{List}
use native.Mathlib.Omega.{arith}
use lib.ListN.{length}
use Rattle.std.specs.Prelude.{Result, Ok, Err}
use Rattle.history.specs.Runs.{Call, runs}
use Rattle.history.proofs.Theorems.{every_state_shaped, never_one_nor_seven, at_most_x_reach_x, three_properties, exact_steps, enough_steps, counts_of_runs}
use Rattle.sets.specs.Lines.{first_that}
use Rattle.formats.specs.declared.FileAnswer.{FileAnswer}
use Rattle.formats.specs.Numbers.{file_number}
use Rattle.formats.specs.Records.{header_of}
use Rattle.formats.specs.Table.{header_lines, place_given}
use Rattle.formats.proofs.Reading.{opened}
use Rattle.formats.proofs.Table.{fault_number, header_number}
use Rattle.replays.specs.Replays.{orders_from, no_replay, replay_by, replay_of, calls_by, calls_of, processes_by, processes_of}
use Rattle.replays.specs.Table.{Holds}
use Rattle.replays.specs.Promises.{Counted, EveryFileCounted, taken_to, EveryFileHolds, NoneTaken, EveryRefusedHeader}
use Rattle.replays.specs.Promises.{DemandThree, EveryFileDemandThree, EveryFileAccesses}
use Rattle.replays.proofs.WholeFile.{header_whole, whole_header, stop_place, held_calls, few_calls, zero_read, whole_stop}
use Rattle.replays.proofs.OrderFile.{held_length}
use Rattle.world.specs.Calls.{counts, leaves}

counted_by : (s : List ℕ) (budget : ℕ) (h : Result ℕ FileAnswer) → header_of s ≡ h
    → Counted (processes_by h) (calls_by s budget h) budget (replay_by s budget h)
unfolding counts leaves
counted_by s budget (Err a) e = record { most = omega arith; taken = refl; accesses = refl; refused = refl; state = refl }
counted_by s budget (Ok n) e = record { most = few_calls s budget n e; taken = refl; accesses = refl; refused = refl; state = refl }

pub every_file_counted : EveryFileCounted
unfolding replay_of
every_file_counted s budget = counted_by s budget (header_of s) refl

-- the record that was not taken stands where the calls taken end
stop_taken : (s : List ℕ) (budget n : ℕ) → header_of s ≡ Ok n → (orders_from budget s 3).place ≡ taken_to s budget
stop_taken s budget n e = held_length (processes_of s) (held_calls s budget n e)

pub every_file_holds : EveryFileHolds
every_file_holds s budget z =
    let h = whole_header s z in
    let t = stop_taken s budget h.0 h.1 in
    record {
      processes = ap processes_by h.1 ∙ (opened s h.0 h.1).byte;
      calls = subst (λ (at : ℕ). Holds s at (calls_of s budget)) t (held_calls s budget h.0 h.1);
      place = stop_place s budget h.0 h.1 ∙ ap (place_given s (file_number (replay_of s budget).answer)) t;
    }

pub whole_taken : (s : List ℕ) (budget : ℕ) → file_number (replay_of s budget).answer ≡ 0 → taken_to s budget ≡ length s
whole_taken s budget z = let h = zero_read s budget z in sym (stop_taken s budget h.0 h.1) ∙ whole_stop s budget z

-- A refused header.
pub refused_header : (s : List ℕ) (budget : ℕ) (a : FileAnswer) → header_of s ≡ Err a → replay_of s budget ≡ no_replay s a
unfolding replay_of
refused_header s budget a e = ap (replay_by s budget) e

none_taken : (s : List ℕ) (budget : ℕ) → first_that (header_lines s) ≢ 0 → (h : Result ℕ FileAnswer) → header_of s ≡ h
    → NoneTaken s (fault_number h) (replay_of s budget)
none_taken s budget z (Ok n) e = absurd (z (header_whole s n e))
none_taken s budget z (Err a) e =
    subst (NoneTaken s (file_number a)) (sym (refused_header s budget a e))
    (record { number = refl; place = refl; taken = refl; accesses = refl; refused = refl; state = refl })

pub every_refused_header : EveryRefusedHeader
every_refused_header s budget z =
    subst (λ (k : ℕ). NoneTaken s k (replay_of s budget)) (header_number s) (none_taken s budget z (header_of s) refl)

-- 1 to 32 processes, with a refused header one
pub few_processes : (s : List ℕ) (h : Result ℕ FileAnswer) → header_of s ≡ h → (1 ≤ processes_by h) × (processes_by h ≤ 32)
few_processes s (Err a) e = (omega arith, omega arith)
few_processes s (Ok n) e = let o = opened s n e in (o.some, o.most)

-- demand 3 of a run
pub demand_three : (n : ℕ) → 1 ≤ n → n ≤ 32 → (cs : List Call) → DemandThree n cs (runs n cs)
demand_three n low high cs =
    record {
      levels = at_most_x_reach_x n low high cs;
      properties = three_properties n low high cs;
      exact = exact_steps n low high cs;
      enough = enough_steps n low high cs;
      shape = every_state_shaped n low high cs;
      never = never_one_nor_seven n low high cs;
    }

pub every_file_demand_three : EveryFileDemandThree
every_file_demand_three s budget =
    let f = few_processes s (header_of s) refl in
    subst (DemandThree (processes_of s) (calls_of s budget)) (sym (every_file_counted s budget).state)
    (demand_three (processes_of s) f.0 f.1 (calls_of s budget))

pub every_file_accesses : EveryFileAccesses
every_file_accesses s budget =
    let f = few_processes s (header_of s) refl in
    (every_file_counted s budget).accesses ∙ counts_of_runs (processes_of s) f.0 f.1 (calls_of s budget)
