-- The numbers 8 to 13 and 24 of an order file, apart from the definition of reading: when each applies at a record, in the order in which they are looked
-- for.
use Rattle.std.specs.Prelude.{ℕ, ◌+◌, ◌≤◌, ◌<◌, Bool, true, not, ◌||◌, cond, ◌≡◌, ◌⊎◌, ◌↔◌, ◌≢◌, List, [], ◌∷◌, ◌++◌, ltb, eqb, length}
use Prim.Native.String.{String}
use Rattle.history.specs.Runs.{Call, enters, steps, crashes}
use Rattle.formats.specs.Numbers.{file_number}
use Rattle.formats.specs.Records.{byte_at, word_at, spells}
use Rattle.sets.specs.Lines.{Line, when, first_that}
use Rattle.formats.specs.Table.{header_lines, place_given}
use Rattle.replays.specs.Replays.{replay_of, calls_of}

-- the mark at a place
abbrev pub marked : List ℕ → ℕ → String → Bool
marked s at t = spells t (byte_at s at) (byte_at s (at + 1))

-- a later record, at a place where bytes are left: `MN`; a mark other than `EN`, `ST` and `CR`; a body cut off
abbrev pub order_lines : List ℕ → ℕ → List Line
order_lines s at =
    when 11 (eqb (length s) (at + 1))
    ∷ when 12 (marked s at "MN")
    ∷ when 10 (not (marked s at "EN" || marked s at "ST" || marked s at "CR"))
    ∷ when 24 (cond (marked s at "EN") (ltb (length s) (at + 7)) (ltb (length s) (at + 3)))
    ∷ []

-- a record with this mark stands whole at a place: bytes are left there, and no line applies
pub record Stands (s : List ℕ) (at : ℕ) (t : String) : Type 0 where
  pub left : at < length s
  pub whole : first_that (order_lines s at) ≡ 0
  pub mark : marked s at t ≡ true

-- The calls that the records of a file hold from its header up to a place: the process is the byte after the mark, the value the number in the four
-- bytes after that.
pub data Holds (s : List ℕ) : ℕ → List Call → Type 0 where
  start : first_that (header_lines s) ≡ 0 → Holds s 3 []
  enter : {at : ℕ} {cs : List Call} → Holds s at cs → Stands s at "EN"
      → Holds s (at + 7) (cs ++ enters (byte_at s (at + 2)) (word_at s (at + 3)) ∷ [])
  step : {at : ℕ} {cs : List Call} → Holds s at cs → Stands s at "ST" → Holds s (at + 3) (cs ++ steps (byte_at s (at + 2)) ∷ [])
  crash : {at : ℕ} {cs : List Call} → Holds s at cs → Stands s at "CR" → Holds s (at + 3) (cs ++ crashes (byte_at s (at + 2)) ∷ [])

-- a place has one such list
abbrev pub HoldsOne : Type 0
HoldsOne = (s : List ℕ) (at : ℕ) (cs ds : List Call) → Holds s at cs → Holds s at ds → cs ≡ ds

-- Number k applies at the record that stands at a place, and is the first that does. The header's faults come first; "if bytes are left and the budget
-- is used up, 13 comes before any look at the next record."
abbrev pub Refusal : List ℕ → ℕ → ℕ → ℕ → Type 0
Refusal s budget k at =
    ((at ≡ 0) × (first_that (header_lines s) ≡ k))
    ⊎ ((cs : List Call) × Holds s at cs × (length cs ≤ budget) × (at < length s)
    × (first_that (when 13 (eqb (length cs) budget) ∷ order_lines s at) ≡ k))

-- each number is given, with its place, exactly when it applies at a record
abbrev pub RefusedExactly : Type 0
RefusedExactly = (s : List ℕ) (budget k place : ℕ) → k ≢ 0
    → ((file_number (replay_of s budget).answer ≡ k) × ((replay_of s budget).place ≡ place))
    ↔ ((at : ℕ) × Refusal s budget k at × (place ≡ place_given s k at))

-- and 0 exactly when the records up to the file's end hold calls within the budget: they are then the calls made
abbrev pub WholeExactly : Type 0
WholeExactly = (s : List ℕ) (budget : ℕ) (cs : List Call)
    → ((file_number (replay_of s budget).answer ≡ 0) × (calls_of s budget ≡ cs)) ↔ (Holds s (length s) cs × (length cs ≤ budget))

-- "or the file's length when all was read"
abbrev pub WholePlace : Type 0
WholePlace = (s : List ℕ) (budget : ℕ) → file_number (replay_of s budget).answer ≡ 0 → (replay_of s budget).place ≡ length s
