-- What is promised of the printed texts. `proofs/` proves each, under the same name in small letters, with underscores.
use Rattle.std.specs.Prelude.{ℕ, ◌≤◌, ◌<◌, ◌≡◌, ◌↔◌, ◌≢◌, false, List, [], ◌∷◌, ◌++◌, map, length, Err}
use Rattle.sets.specs.Members.{count}
use Rattle.rules.specs.declared.Machine.{Machine}
use Rattle.rules.specs.Stands.{stage_of}
use Rattle.rules.specs.State.{finished}
use Rattle.rules.specs.Calls.{looked}
use Rattle.history.specs.Runs.{has_entered}
use Rattle.world.specs.Programs.{returns}
use Rattle.history.specs.Figure.{Pair}
use Rattle.history.specs.AsWorld.{program_of}
use Rattle.formats.specs.declared.FileAnswer.{FileAnswer}
use Rattle.formats.specs.Numbers.{file_number}
use Rattle.formats.specs.Records.{header_of}
use Rattle.formats.specs.Table.{place_given}
use Rattle.replays.specs.Replays.{replay_of, calls_of, processes_of}
use Rattle.text.specs.Ascii.{ascii, lines}
use Rattle.text.specs.Decimal.{decimal}
use Rattle.output.specs.Lines.{view_text, last_line, replay_text, verdict_text}

-- "Both programs take at most 65,535 bytes; for more they print `too long` and nothing else."
abbrev pub TooLongExactly : Type 0
TooLongExactly = (s : List ℕ)
    → ((replay_text s ≡ lines ("too long" ∷ [])) ↔ (65535 < length s)) × ((verdict_text s ≡ lines ("too long" ∷ [])) ↔ (65535 < length s))

-- "Replay uses a budget of 65,535 orders": 65,535 bytes hold at most 21,844, so that it is never spent, and 13 is never printed.
abbrev pub FewOrders : Type 0
FewOrders = (s : List ℕ) (budget : ℕ) → length s ≤ 65535 → (replay_of s budget).taken ≤ 21844

abbrev pub NeverThirteen : Type 0
NeverThirteen = (s rest : List ℕ) → replay_text s ≢ ascii "run 13 " ++ rest

-- "A refused header prints the process line `p 1 absent 0 0 -`": every one, after the line `run`, its number, its place, and 0 three times. The place is 0,
-- or with 24 the file's length.
abbrev pub RefusedHeaderPrints : Type 0
RefusedHeaderPrints = (s : List ℕ) (a : FileAnswer) → length s ≤ 65535 → header_of s ≡ Err a
    → replay_text s ≡ ascii "run " ++ (decimal (file_number a) ++ (ascii " " ++ (decimal (place_given s (file_number a) 0)
    ++ lines (" 0 0 0" ∷ "p 1 absent 0 0 -" ∷ "participants 0" ∷ []))))

-- "process:value pairs, .. split by commas"
abbrev pub pair_text : Pair → List ℕ
pair_text q = decimal q.process ++ (ascii ":" ++ decimal q.value)

unfoldable pub commas : List (List ℕ) → List ℕ
commas [] = []
commas (x ∷ []) = x
commas (x ∷ y ∷ ys) = x ++ (ascii "," ++ commas (y ∷ ys))

-- "view (`-` if not finished; else process:value pairs, ascending, split by commas)": `-` for no other, and otherwise the pairs that Fig. 8.16 returns,
-- in its own order, which ascends.
pub record ViewPrinted (m : Machine) (i : ℕ) : Type 0 where
  pub dash : (view_text (looked m (stage_of m i)) ≡ ascii "-") ↔ (finished (stage_of m i) ≡ false)
  pub pairs : (list : List Pair) → program_of m i ≡ returns list → view_text (looked m (stage_of m i)) ≡ commas (map pair_text list)

abbrev pub EveryViewPrinted : Type 0
EveryViewPrinted = (s : List ℕ) (budget i : ℕ) → 1 ≤ i → i ≤ processes_of s → ViewPrinted (replay_of s budget).machine i

-- "Last: `participants` and how many processes have entered": those of 1 to n of whom the list of calls that the file holds has an accepted enter,
-- whether they crashed or finished since or not; at every budget.
abbrev pub ParticipantsCounted : Type 0
ParticipantsCounted = (s : List ℕ) (budget : ℕ)
    → last_line (replay_of s budget).machine
    ≡ ascii "participants " ++ (decimal (count (has_entered (processes_of s) (calls_of s budget)) (processes_of s)) ++ 10 ∷ [])
