-- Examples of order files: document 01's printed one, its two with budget 0, one for each number and each place where it is given, and one whose bytes
-- are spelled out; and of view files that are written.
use Rattle.std.specs.Prelude.{ℕ, ◌+◌, ◌*◌, ◌≡◌, List, [], ◌∷◌, ◌++◌, length, take, replicate}
use Rattle.text.specs.Ascii.{ascii}
use Rattle.text.specs.Parts.{joined}
use Rattle.rules.specs.declared.Stage.{Stage}
use Rattle.rules.specs.declared.Stage.TheVariants.{Running, Finished, Crashed}
use Rattle.rules.specs.declared.Process.{Process}
use Rattle.rules.specs.declared.Machine.{Machine}
use Rattle.rules.specs.Stands.{nobody}
use Rattle.rules.specs.Calls.{fresh}
use Rattle.history.specs.Runs.{Call, enters, steps, crashes, runs}
use Rattle.history.specs.Examples.{printed}
use Rattle.formats.specs.Numbers.{file_number}
use Rattle.formats.specs.Examples.{MN, cut, header_cuts, record_cuts}
use Rattle.replays.specs.Replays.{replay_of, calls_of, processes_of}
use Rattle.replays.specs.OrderFile.{order_file}
use Rattle.replays.specs.Writes.{write_number, bytes_of, write_of, buffer_of}

-- the records; a value below 256
abbrev pub EN : ℕ → ℕ → List ℕ
EN p v = ascii "EN" ++ p ∷ v ∷ 0 ∷ 0 ∷ 0 ∷ []

abbrev pub ST : ℕ → List ℕ
ST p = ascii "ST" ++ p ∷ []

abbrev pub CR : ℕ → List ℕ
CR p = ascii "CR" ++ p ∷ []

-- "Line 1: `run`, number, place, orders taken, accesses, orders refused"
pub record RunLine (s : List ℕ) (budget number place taken accesses refused : ℕ) : Type 0 where
  pub number_is : file_number (replay_of s budget).answer ≡ number
  pub place_is : (replay_of s budget).place ≡ place
  pub taken_is : (replay_of s budget).taken ≡ taken
  pub accesses_is : (replay_of s budget).accesses ≡ accesses
  pub refused_is : (replay_of s budget).refused ≡ refused

-- "Input (47 bytes): `MN` 2; `EN` 1 value 7; `EN` 2 value 9; `ST` 1 three times; `ST` 2 three times; `ST` 1 three times; `ST` 2."
abbrev pub printed_file : List ℕ
printed_file = MN 2 ++ EN 1 7 ++ EN 2 9 ++ ST 1 ++ ST 1 ++ ST 1 ++ ST 2 ++ ST 2 ++ ST 2 ++ ST 1 ++ ST 1 ++ ST 1 ++ ST 2

pub record Printed : Type 0 where
  -- "run 0 47 12 9 1"
  pub line : RunLine printed_file 65535 0 47 12 9 1
  pub state : (replay_of printed_file 65535).machine ≡ runs 2 printed
  -- a budget of as many orders is enough, one less is not
  pub enough : RunLine printed_file 12 0 47 12 9 1
  pub short_number : file_number (replay_of printed_file 11).answer ≡ 13
  pub short_place : (replay_of printed_file 11).place ≡ 44
  pub short_taken : (replay_of printed_file 11).taken ≡ 11

-- Every cut of it: its first 0, 1, 2, .. bytes, and last the file.
abbrev pub PrintedCuts : Type 0
PrintedCuts =
    joined 0 48 (λ k. let r = replay_of (take k printed_file) 65535 in cut (file_number r.answer) r.place ∷ [])
    ≡ header_cuts ++ record_cuts 3 7 ++ record_cuts 10 7 ++ joined 0 10 (λ i. record_cuts (17 + 3 * i) 3) ++ cut 0 47 ∷ []

-- Files of which no order is taken.
pub record Small : Type 0 where
  -- "Budget 0 and nothing after the header: 0. Budget 0 and one byte after it: 13."
  pub spent_none : RunLine (MN 2) 0 0 3 0 0 0
  pub spent_one : RunLine (MN 2 ++ 0 ∷ []) 0 13 3 0 0 0
  -- 13 comes before any look at the next record, and the header's own faults before 13
  pub spent_cut : RunLine (MN 2 ++ ascii "ST") 0 13 3 0 0 0
  pub spent_header : RunLine (MN 2 ++ MN 2) 0 13 3 0 0 0
  pub empty : RunLine [] 0 9 0 0 0 0
  pub one_byte : RunLine (ascii "M") 0 11 0 0 0 0
  pub other_byte : RunLine (0 ∷ []) 0 11 0 0 0 0
  pub other_mark : RunLine (EN 1 7) 0 9 0 0 0 0
  pub half_mark : RunLine (ascii "MX" ++ 2 ∷ []) 0 9 0 0 0 0
  pub bare_mark : RunLine (ascii "MN") 0 24 2 0 0 0
  pub none : RunLine (MN 0 ++ ST 1) 0 8 0 0 0 0
  pub many : RunLine (MN 33 ++ ST 1) 5 8 0 0 0 0
  pub fewest : RunLine (MN 1) 5 0 3 0 0 0
  pub most : RunLine (MN 32) 5 0 3 0 0 0
  -- a later record
  pub byte_left : RunLine (MN 2 ++ ascii "E") 5 11 3 0 0 0
  pub any_byte_left : RunLine (MN 2 ++ 0 ∷ []) 5 11 3 0 0 0
  pub again : RunLine (MN 2 ++ MN 2) 5 12 3 0 0 0
  pub again_bare : RunLine (MN 2 ++ ascii "MN") 5 12 3 0 0 0
  pub view : RunLine (MN 2 ++ ascii "VW") 5 10 3 0 0 0
  pub foreign : RunLine (MN 2 ++ 0 ∷ 0 ∷ []) 5 10 3 0 0 0
  pub half_foreign : RunLine (MN 2 ++ ascii "SN" ++ 1 ∷ []) 5 10 3 0 0 0
  pub enter_cut : RunLine (MN 2 ++ ascii "EN" ++ 1 ∷ 7 ∷ 0 ∷ 0 ∷ []) 5 24 9 0 0 0
  pub step_cut : RunLine (MN 2 ++ ascii "ST") 5 24 5 0 0 0
  pub crash_cut : RunLine (MN 2 ++ ascii "CR") 5 24 5 0 0 0

-- "An order the machine refuses is counted among the orders taken and among the orders refused, and skipped": a process above n; then a fault
-- leaves the counts as they are.
pub record OrdersRefused : Type 0 where
  pub skipped : RunLine (MN 2 ++ ST 3) 1 0 6 1 0 1
  pub then_cut : RunLine (MN 2 ++ ST 3 ++ ascii "S") 2 11 6 1 0 1
  pub then_cut_later : RunLine (MN 2 ++ ST 3 ++ ascii "ST") 2 24 8 1 0 1
  pub then_spent : RunLine (MN 2 ++ ST 3 ++ ST 3) 1 13 6 1 0 1

-- After a refused header: a machine of one process, whatever the header says, and the orders behind it are not made.
pub record HeaderRefused : Type 0 where
  pub many : (replay_of (MN 33 ++ EN 1 7) 5).machine ≡ fresh 1
  pub none : (replay_of (MN 0 ++ EN 1 7) 5).machine ≡ fresh 1
  pub line : RunLine (MN 33 ++ EN 1 7) 5 8 0 0 0 0

-- Calls and their bytes, both ways, every byte as a number: a value whose four bytes differ, the lowest first; the largest value; process numbers that
-- no machine has.
abbrev pub spelled_calls : List Call
spelled_calls = enters 1 16909060 ∷ steps 255 ∷ enters 2 4294967295 ∷ crashes 0 ∷ []

abbrev pub spelled_file : List ℕ
spelled_file =
    77 ∷ 78 ∷ 2 ∷ 69 ∷ 78 ∷ 1 ∷ 4 ∷ 3 ∷ 2 ∷ 1 ∷ 83 ∷ 84 ∷ 255 ∷ 69 ∷ 78 ∷ 2 ∷ 255 ∷ 255 ∷ 255 ∷ 255 ∷ 67 ∷ 82 ∷ 0 ∷ []

pub record Spelled : Type 0 where
  pub written : order_file 2 spelled_calls ≡ spelled_file
  pub read : calls_of spelled_file 4 ≡ spelled_calls
  pub processes : processes_of spelled_file ≡ 2
  -- with a budget of fewer, the first ones
  pub fewer : calls_of spelled_file 2 ≡ enters 1 16909060 ∷ steps 255 ∷ []

-- Machines: which registers of each row are filled, what the rows hold, and the processes; zero elsewhere.
abbrev pub up_to : ℕ → List ℕ → List ℕ
up_to k l = take k (l ++ replicate k 0)

abbrev pub state : ℕ → List ℕ → List ℕ → List Process → Machine
state n rows cells processes =
    record { n = n; filled = up_to 32 rows; values = up_to 1024 cells; processes = take 32 (processes ++ replicate 32 nobody) }

abbrev pub process : Stage → ℕ → Process
process s v = record { stage = s; value = v }

-- process 1 alone, with value 0
abbrev pub alone : Machine
alone = state 1 (1 ∷ []) [] (process (Finished 1 1) 0 ∷ [])

-- 1 and 2 saw each other at level 2; 3 has entered
abbrev pub together : Machine
together =
    state 3 (0 ∷ 3 ∷ 3 ∷ []) (up_to 32 [] ++ up_to 32 (7 ∷ 9 ∷ []) ++ 7 ∷ 9 ∷ [])
    (process (Finished 2 3) 7 ∷ process (Finished 2 3) 9 ∷ process (Running 3 0 0) 5 ∷ [])

-- 1 wrote and crashed, 2 went alone to level 1, 4 wrote, and 3 saw all four at level 4
abbrev pub parted : Machine
parted =
    state 4 (2 ∷ 2 ∷ 2 ∷ 15 ∷ []) (up_to 32 [] ++ up_to 32 [] ++ up_to 32 [] ++ 16909060 ∷ 0 ∷ 4294967295 ∷ 256 ∷ [])
    (process (Crashed 4 1 0) 16909060 ∷ process (Finished 1 2) 0 ∷ process (Finished 4 15) 4294967295 ∷ process (Running 4 1 0) 256 ∷ [])

-- Their view files. The records stand in ascending order, and a process that has not finished has none.
abbrev pub word : ℕ → List ℕ
word v = v ∷ 0 ∷ 0 ∷ 0 ∷ []

pub record FilesWritten : Type 0 where
  pub none : bytes_of (fresh 32) ≡ MN 32
  pub one : bytes_of alone ≡ MN 1 ++ ascii "VW" ++ 1 ∷ word 1 ++ word 0
  pub two : bytes_of together ≡ MN 3 ++ ascii "VW" ++ 1 ∷ word 3 ++ word 7 ++ word 9 ++ ascii "VW" ++ 2 ∷ word 3 ++ word 7 ++ word 9
  pub others : bytes_of parted
      ≡ MN 4 ++ ascii "VW" ++ 2 ∷ word 2 ++ word 0
      ++ ascii "VW" ++ 3 ∷ word 15 ++ 4 ∷ 3 ∷ 2 ∷ 1 ∷ word 0 ++ 255 ∷ 255 ∷ 255 ∷ 255 ∷ 0 ∷ 1 ∷ 0 ∷ 0 ∷ []

-- What the writer answers, and the buffer after it: 1 comes before 17; a byte too few; just enough; bytes left over.
pub record WriteLine (m : Machine) (buffer : List ℕ) (number bytes : ℕ) (left : List ℕ) : Type 0 where
  pub number_is : write_number (write_of m (length buffer)).answer ≡ number
  pub bytes_are : (write_of m (length buffer)).bytes ≡ bytes
  pub buffer_is : buffer_of m buffer ≡ left

pub record WriterAnswers : Type 0 where
  pub unshaped : WriteLine (fresh 33) (1 ∷ 2 ∷ 3 ∷ 4 ∷ []) 1 0 (1 ∷ 2 ∷ 3 ∷ 4 ∷ [])
  pub unshaped_short : WriteLine (fresh 33) (1 ∷ 2 ∷ []) 1 0 (1 ∷ 2 ∷ [])
  pub short : WriteLine (fresh 2) (1 ∷ 2 ∷ []) 17 0 (1 ∷ 2 ∷ [])
  pub exact : WriteLine (fresh 2) (1 ∷ 2 ∷ 3 ∷ []) 0 3 (MN 2)
  pub longer : WriteLine (fresh 2) (1 ∷ 2 ∷ 3 ∷ 4 ∷ 5 ∷ []) 0 3 (MN 2 ++ 4 ∷ 5 ∷ [])
