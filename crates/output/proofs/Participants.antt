-- The printed count of participants is that of the list of calls.
use Prim.Native.Nat.{ℕ, ◌≤◌}
use mathlib.Core.Path.{◌≡◌, refl, ap, ◌∙◌}
use mathlib.Core.List.{List, [], ◌∷◌, ◌++◌, append-nil}
use Rattle.sets.specs.Members.{count}
use Rattle.sets.proofs.Laws.{count_ext}
use Rattle.rules.specs.declared.Machine.{Machine}
use Rattle.rules.specs.Stands.{stage_of, entered}
use Rattle.formats.specs.Records.{header_of}
use Rattle.text.specs.Ascii.{ascii}
use Rattle.text.specs.Decimal.{decimal}
use Rattle.history.specs.Runs.{Call, runs, has_entered}
use Rattle.history.proofs.Theorems.{every_state_shaped, entered_by_call}
use Rattle.replays.specs.Replays.{replay_of, calls_of, processes_of}
use Rattle.replays.proofs.Promises.{every_file_counted, few_processes}
use Rattle.output.specs.Lines.{partaking, last_line}
use Rattle.output.specs.Promises.{ParticipantsCounted}

partaking-counted : (n : ℕ) → 1 ≤ n → n ≤ 32 → (cs : List Call) → partaking (runs n cs) ≡ count (has_entered n cs) n
unfolding partaking
partaking-counted n lo hi cs =
    ap (count (λ i. entered (stage_of (runs n cs) i))) (every_state_shaped n lo hi cs).size
    ∙ count_ext (λ i. entered (stage_of (runs n cs) i)) (has_entered n cs) n (λ i low _. entered_by_call n lo hi cs i low)

last_line_lem : (m : Machine) (k : ℕ) → partaking m ≡ k → last_line m ≡ ascii "participants " ++ (decimal k ++ 10 ∷ [])
unfolding last_line
last_line_lem m k e = ap (λ (x : ℕ). ascii "participants " ++ ((decimal x ++ []) ++ 10 ∷ [])) e
    ∙ ap (λ (x : List ℕ). ascii "participants " ++ (x ++ 10 ∷ [])) (append-nil (decimal k))

pub participants_counted : ParticipantsCounted
participants_counted s budget =
    let n = processes_of s in
    let f = few_processes s (header_of s) refl in
    last_line_lem (replay_of s budget).machine (count (has_entered n (calls_of s budget)) n)
    (ap partaking (every_file_counted s budget).state ∙ partaking-counted n f.0 f.1 (calls_of s budget))
