-- How long the lines are, so that each text fits its page.
use Prim.Native.Nat.{ℕ, zero, suc, ◌+◌, ◌-◌, ◌*◌, ◌^◌, ◌≤◌, ◌<◌}
use mathlib.Core.Bool.{Bool, true, false, cond}
use mathlib.Core.List.{List, ◌++◌}
use native.Mathlib.Omega.{arith}
use lib.ListN.{length, get_or, length-append}
use Rattle.sets.specs.Members.{has}
use Rattle.sets.proofs.Laws.{count_le}
use Rattle.rules.specs.declared.Machine.{Machine}
use Rattle.rules.specs.declared.Sight.{Sight}
use Rattle.rules.specs.declared.Standing.{Standing}
use Rattle.rules.specs.declared.Standing.TheVariants.{Absent, Running, Finished, Crashed}
use Rattle.rules.specs.Stands.{stage_of, entered}
use Rattle.rules.specs.Shape.{Shaped}
use Rattle.formats.specs.declared.FileAnswer.{FileAnswer}
use Rattle.formats.specs.declared.FileAnswer.TheVariants.{Whole, OutOfRange, NotHeader, OtherMark, MarkCut, BodyCut, HeaderAgain}
use Rattle.formats.specs.declared.FileAnswer.TheVariants.{BudgetSpent, NoProcess, SecondView, NamesAbove}
use Rattle.formats.specs.Numbers.{file_number}
use Rattle.replays.specs.declared.Replayed.{Replayed}
use Rattle.replays.specs.Replays.{replay_of}
use Rattle.replays.proofs.Promises.{every_file_demand_three}
use Rattle.findings.specs.declared.FileVerdict.{FileVerdict}
use Rattle.text.proofs.Decimal.{two_digits, ten_digits, twenty_digits}
use Rattle.output.specs.Lines.{verdict_line, stage_word, pair, pairs_from, view, sight_line, run_line, partaking, last_line}

pub verdict_length : (v : FileVerdict) → v.number < 2 ^ 32 → v.place < 2 ^ 64 → v.i < 2 ^ 32 → v.j < 2 ^ 32 → length (verdict_line v) ≤ 62
unfolding verdict_line
verdict_length v a b c d =
    simp length-append (omega (arith, ten_digits, twenty_digits))

number_small : (a : FileAnswer) → file_number a < 100
number_small Whole = omega arith
number_small OutOfRange = omega arith
number_small NotHeader = omega arith
number_small OtherMark = omega arith
number_small MarkCut = omega arith
number_small BodyCut = omega arith
number_small HeaderAgain = omega arith
number_small BudgetSpent = omega arith
number_small NoProcess = omega arith
number_small SecondView = omega arith
number_small NamesAbove = omega arith

pub run_length : (r : Replayed) → r.place < 2 ^ 64 → r.taken < 2 ^ 32 → r.accesses < 2 ^ 32 → r.refused < 2 ^ 32 → length (run_line r) ≤ 61
unfolding run_line
run_length r p t a q =
    let n = number_small r.answer in simp length-append (omega (arith, two_digits, ten_digits, twenty_digits))

pub last_length : (m : Machine) → m.n ≤ 32 → length (last_line m) ≤ 16
unfolding last_line partaking
last_length m h =
    let k : partaking m ≤ m.n = count_le (λ i. entered (stage_of m i)) m.n in
    simp length-append (omega (arith, two_digits (partaking m) (omega arith)))

-- the state that a replay leaves is well shaped, so that its lines are those of at most 32 processes
pub replay_shaped : (s : List ℕ) (budget : ℕ) → Shaped (replay_of s budget).machine
replay_shaped s budget = (every_file_demand_three s budget).shape.shape

pub ruleset replay_fits = (replay_shaped, run_length, last_length)

-- a pair has at most a comma, two digits, a colon and ten digits
pair_length : (later : Bool) (i v : ℕ) → i < 100 → v < 2 ^ 32 → length (pair later i v) ≤ 14
unfolding pair
pair_length true i v h l = simp length-append (omega (arith, two_digits i h, ten_digits v (omega arith)))
pair_length false i v h l = simp length-append (omega (arith, two_digits i h, ten_digits v (omega arith)))

pairs_length : (later : Bool) (w : ℕ) (values : List ℕ) (i k : ℕ) → i + k ≤ 100 → ((j : ℕ) → get_or values j 0 < 2 ^ 32)
    → length (pairs_from later w values i k) ≤ 14 * k
unfolding pairs_from
pairs_length later w values i zero h f = omega arith
pairs_length later w values i (suc k) h f =
    go (has w i) (pairs_length true w values (suc i) k (omega arith) f) (pairs_length later w values (suc i) k (omega arith) f)
  where
    go : (t : Bool) → length (pairs_from true w values (suc i) k) ≤ 14 * k → length (pairs_from later w values (suc i) k) ≤ 14 * k
        → length (cond t (pair later i (get_or values (i - 1) 0) ++ pairs_from true w values (suc i) k)
        (pairs_from later w values (suc i) k)) ≤ 14 * suc k
    go true a b = simp length-append (omega (arith, pair_length later i (get_or values (i - 1) 0) (omega arith) (f (i - 1))))
    go false a b = omega arith

stage_and_view : (s : Standing) (w : ℕ) (values : List ℕ) → ((j : ℕ) → get_or values j 0 < 2 ^ 32)
    → length (stage_word s) + length (view s w values) ≤ 457
stage_and_view Absent w values f = omega arith
stage_and_view Running w values f = omega arith
stage_and_view Finished w values f = omega (arith, pairs_length false w values 1 32 (omega arith) f)
stage_and_view Crashed w values f = omega arith

pub sight_length : (i : ℕ) (s : Sight) → i < 100 → s.level < 2 ^ 32 → s.accesses < 2 ^ 32 → ((j : ℕ) → get_or s.values j 0 < 2 ^ 32)
    → length (sight_line i s) ≤ 485
unfolding sight_line
sight_length i s h x k f =
    let v = stage_and_view s.standing s.view s.values f in simp length-append (omega (arith, two_digits, ten_digits))
