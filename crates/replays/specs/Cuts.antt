-- A record cut off by the end of an order file, after one byte of its mark (11) or later (24, item 2 of document 02), over bytes and places: when each number
-- is given, in both directions, and with which place.
use Rattle.std.specs.Prelude.{ℕ, ◌+◌, ◌≤◌, ◌<◌, true, ◌||◌, ◌≡◌, ◌⊎◌, ◌↔◌, List, [], length, take}
use Rattle.sets.specs.Lines.{first_that}
use Rattle.history.specs.Runs.{Call}
use Rattle.formats.specs.Numbers.{file_number}
use Rattle.formats.specs.Table.{header_lines}
use Rattle.formats.specs.Cuts.{EndsInHeader}
use Rattle.replays.specs.Replays.{replay_of, calls_of}
use Rattle.replays.specs.Table.{marked, Stands, Holds}

-- a later record that reading comes to with budget left
pub record Comes (s : List ℕ) (budget at : ℕ) : Type 0 where
  pub calls : List Call
  pub held : Holds s at calls
  pub left : length calls < budget

-- the file ends after one byte of a mark, of the header's or of a later record's
pub record EndsInMark (s : List ℕ) (budget at : ℕ) : Type 0 where
  pub comes : (at ≡ 0) ⊎ Comes s budget at
  pub ends : length s ≡ at + 1

-- the file ends later in a record: in the header, in an `EN`, or in an `ST` or `CR`, of whose body of one byte nothing is there
pub data EndsInBody (s : List ℕ) (budget : ℕ) : Type 0 where
  in_header : EndsInHeader s → EndsInBody s budget
  in_enter : {at : ℕ} → Comes s budget at → marked s at "EN" ≡ true → at + 2 ≤ length s → length s < at + 7 → EndsInBody s budget
  in_short : {at : ℕ} → Comes s budget at → (marked s at "ST" || marked s at "CR") ≡ true → length s ≡ at + 2 → EndsInBody s budget

-- the two numbers, each with its place
pub record CutsExactly (s : List ℕ) (budget : ℕ) : Type 0 where
  pub eleven : (place : ℕ) → ((file_number (replay_of s budget).answer ≡ 11) × ((replay_of s budget).place ≡ place)) ↔ EndsInMark s budget place
  pub twenty_four : (place : ℕ)
      → ((file_number (replay_of s budget).answer ≡ 24) × ((replay_of s budget).place ≡ place)) ↔ (EndsInBody s budget × (place ≡ length s))

abbrev pub EveryCutExactly : Type 0
EveryCutExactly = (s : List ℕ) (budget : ℕ) → CutsExactly s budget

-- So of a file that is cut short. A record that stands whole spans from a place to the next, after the calls before it.
pub data Spans (s : List ℕ) : List Call → ℕ → ℕ → Type 0 where
  opening : first_that (header_lines s) ≡ 0 → Spans s [] 0 3
  entering : {at : ℕ} {cs : List Call} → Holds s at cs → Stands s at "EN" → Spans s cs at (at + 7)
  stepping : {at : ℕ} {cs : List Call} → Holds s at cs → Stands s at "ST" → Spans s cs at (at + 3)
  crashing : {at : ℕ} {cs : List Call} → Holds s at cs → Stands s at "CR" → Spans s cs at (at + 3)

-- The file's first k bytes, which end inside that record: with one byte of it left 11, at the record; with more 24, where they end. The calls before it are
-- made.
pub record CutInside (s : List ℕ) (budget : ℕ) (cs : List Call) (at k : ℕ) : Type 0 where
  pub one : k ≡ at + 1 → (file_number (replay_of (take k s) budget).answer ≡ 11) × ((replay_of (take k s) budget).place ≡ at)
  pub more : at + 2 ≤ k → (file_number (replay_of (take k s) budget).answer ≡ 24) × ((replay_of (take k s) budget).place ≡ k)
  pub calls : calls_of (take k s) budget ≡ cs

abbrev pub EveryCutInside : Type 0
EveryCutInside = (s : List ℕ) (budget : ℕ) (cs : List Call) (at end k : ℕ) → Spans s cs at end → length cs < budget → at < k → k < end
    → CutInside s budget cs at k

-- Cut before a later record a file is read whole: it cannot be told that more stood there.
abbrev pub EveryCutBetween : Type 0
EveryCutBetween = (s : List ℕ) (budget : ℕ) (cs : List Call) (at : ℕ) → Holds s at cs → length cs ≤ budget
    → (file_number (replay_of (take at s) budget).answer ≡ 0) × (calls_of (take at s) budget ≡ cs)
