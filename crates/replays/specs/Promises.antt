-- What is promised of every order file, every budget and every view file that is written. `proofs/` proves each, under the same name in small
-- letters, with underscores.
use Rattle.std.specs.Prelude.{ℕ, ◌+◌, ◌-◌, ◌*◌, ◌≤◌, ◌<◌, true, ◌≡◌, ◌↔◌, ◌≢◌, length, get_or, take, drop, None}
use mathlib.Core.List.{List, ◌++◌, Memᴰ}
use Rattle.sets.specs.Members.{count, size}
use Rattle.sets.specs.Immediate.{Immediate}
use Rattle.sets.specs.Lines.{first_that}
use Rattle.rules.specs.declared.Machine.{Machine}
use Rattle.rules.specs.declared.Standing.{Standing}
use Rattle.rules.specs.Stands.{stage_of}
use Rattle.rules.specs.State.{finished, found_of}
use Rattle.rules.specs.Shape.{Held, Words, shaped}
use Rattle.rules.specs.Calls.{fresh, look_of}
use Rattle.rules.specs.Shapes.{BothSides, every_clause}
use Rattle.rules.specs.Statements.{Meets}
use Rattle.history.specs.Runs.{Call, runs, accepted_steps, all_steps, refused_calls, reached, given}
use Rattle.history.specs.Views.{Has, View}
use Rattle.history.specs.Theorems.{OfEveryRun, NeitherOneNorSeven, total}
use Rattle.formats.specs.declared.FileAnswer.TheVariants.{Whole}
use Rattle.formats.specs.Numbers.{file_number}
use Rattle.formats.specs.Records.{byte_at}
use Rattle.formats.specs.Table.{header_lines, place_given}
use Rattle.formats.specs.Views.{owns, seen_by, value_by}
use Rattle.formats.specs.ViewFile.{read_of, read_whole}
use Rattle.formats.specs.Promises.{Bytes, File}
use Rattle.findings.specs.Findings.{check_of}
use Rattle.findings.specs.Verdict.{judged, verdict_of}
use Rattle.replays.specs.declared.Replayed.{Replayed}
use Rattle.replays.specs.Replays.{replayed, replay_of, calls_of, processes_of}
use Rattle.replays.specs.Writes.{write_number, views_of, bytes_of, write_of, buffer_of}
use Rattle.replays.specs.OrderFile.{order_file, FileCalls}
use Rattle.replays.specs.Table.{Holds}

-- Document 01: "replay takes at most the budget's orders; orders taken and accesses equal the counts in the history's definition". The list of
-- calls is what the file holds up to the place.
pub record Counted (n : ℕ) (cs : List Call) (budget : ℕ) (r : Replayed) : Type 0 where
  pub most : length cs ≤ budget
  pub taken : r.taken ≡ length cs
  pub accesses : r.accesses ≡ all_steps n cs
  pub refused : r.refused ≡ refused_calls n cs
  pub state : r.machine ≡ runs n cs

abbrev pub EveryFileCounted : Type 0
EveryFileCounted = (s : List ℕ) (budget : ℕ) → Counted (processes_of s) (calls_of s budget) budget (replay_of s budget)

-- where the header and the records of the calls taken end, and the record that was not taken begins
abbrev pub taken_to : List ℕ → ℕ → ℕ
taken_to s budget = length (order_file (processes_of s) (calls_of s budget))

-- Of a file whose header has no fault these are the calls that its bytes hold up to there, on a machine of as many processes as its third byte says. The
-- place answered is there, or with 24 the file's length.
pub record FromBytes (s : List ℕ) (budget : ℕ) : Type 0 where
  pub processes : processes_of s ≡ byte_at s 2
  pub calls : Holds s (taken_to s budget) (calls_of s budget)
  pub place : (replay_of s budget).place ≡ place_given s (file_number (replay_of s budget).answer) (taken_to s budget)

abbrev pub EveryFileHolds : Type 0
EveryFileHolds = (s : List ℕ) (budget : ℕ) → first_that (header_lines s) ≡ 0 → FromBytes s budget

-- The other way, every list of calls that records can carry is the replay of a file, with any budget that is enough,
abbrev pub EveryListReplays : Type 0
EveryListReplays = (n : ℕ) → 1 ≤ n → n ≤ 32 → (cs : List Call) → FileCalls cs → (budget : ℕ) → length cs ≤ budget
    → replay_of (order_file n cs) budget ≡ replayed (order_file n cs) n (record { answer = Whole; place = length (order_file n cs); calls = cs })

-- and that file is bytes.
abbrev pub OrderFileBytes : Type 0
OrderFileBytes = (n : ℕ) → n ≤ 32 → (cs : List Call) → FileCalls cs → Bytes (order_file n cs)

-- Every file begins with such a file, of the calls taken, if its header has no fault: a call that is taken is one that a record can carry, and its
-- record has just the bytes that it is written with. What a function is handed as a slice is a file (`slice_file` of formats/proofs/Typed).
pub record OfCalls (s : List ℕ) (budget : ℕ) : Type 0 where
  pub carried : FileCalls (calls_of s budget)
  pub bytes : take (taken_to s budget) s ≡ order_file (processes_of s) (calls_of s budget)

abbrev pub EveryFileOfCalls : Type 0
EveryFileOfCalls = (f : File) (budget : ℕ) → first_that (header_lines f.content) ≡ 0 → OfCalls f.content budget

-- So a file that is read whole is the file of its calls, byte for byte.
abbrev pub WholeFileOfCalls : Type 0
WholeFileOfCalls = (f : File) (budget : ℕ) → file_number (replay_of f.content budget).answer ≡ 0
    → f.content ≡ order_file (processes_of f.content) (calls_of f.content budget)

-- "After a refused header the state is a fresh machine of one process and the three counts are 0", at every budget: "its own faults come before 13".
-- The place is 0, or with 24, of `MN` alone, the file's length.
pub record NoneTaken (s : List ℕ) (k : ℕ) (r : Replayed) : Type 0 where
  pub number : file_number r.answer ≡ k
  pub place : r.place ≡ place_given s k 0
  pub taken : r.taken ≡ 0
  pub accesses : r.accesses ≡ 0
  pub refused : r.refused ≡ 0
  pub state : r.machine ≡ fresh 1

abbrev pub EveryRefusedHeader : Type 0
EveryRefusedHeader = (s : List ℕ) (budget : ℕ) → first_that (header_lines s) ≢ 0 → NoneTaken s (first_that (header_lines s)) (replay_of s budget)

-- Demand 3 of a state m that a list of calls leaves of a fresh machine of n processes.
pub record DemandThree (n : ℕ) (cs : List Call) (m : Machine) : Type 0 where
  -- "for each x from 1 to n, at most x tasks ever reach level x"
  pub levels : (x : ℕ) → 1 ≤ x → x ≤ n → count (reached n cs x) n ≤ x
  -- "the lists of all finished tasks obey the three properties"
  pub properties : Immediate (Has m) (View m) (given n cs)
  -- "a task that finished with s tasks in its list has had exactly (n+1)(n-s+1) accepted steps, counted from the list of calls"
  pub exact : (p : ℕ) → Has m p → accepted_steps n cs p ≡ (n + 1) * (n - size (found_of (stage_of m p)) + 1)
  -- "and any task that has had n(n+1) accepted steps is finished"
  pub enough : (p : ℕ) → 1 ≤ p → p ≤ n → n * (n + 1) ≤ accepted_steps n cs p → finished (stage_of m p) ≡ true
  -- document 01: the state is well shaped, so no call is refused with 1; nor is one refused with 7
  pub shape : Meets n m
  pub never : NeitherOneNorSeven n cs

-- Demand 3 holds of the state that any file leaves, at any budget, a refused header among them.
abbrev pub EveryFileDemandThree : Type 0
EveryFileDemandThree = (s : List ℕ) (budget : ℕ) → DemandThree (processes_of s) (calls_of s budget) (replay_of s budget).machine

-- And the accesses that a replay answers are the accepted steps of the processes 1 to n.
abbrev pub EveryFileAccesses : Type 0
EveryFileAccesses = (s : List ℕ) (budget : ℕ)
    → (replay_of s budget).accesses ≡ total (accepted_steps (processes_of s) (calls_of s budget)) (processes_of s)

-- The view writer. 1, then 17, exactly if the buffer is shorter than the file; on both it answers 0 bytes and writes nothing.
pub record WriteNumbers (m : Machine) (buffer : List ℕ) : Type 0 where
  pub one : (write_number (write_of m (length buffer)).answer ≡ 1) ↔ (shaped m ≡ true → ⊥)
  pub seventeen : (write_number (write_of m (length buffer)).answer ≡ 17) ↔ ((shaped m ≡ true) × (length buffer < length (bytes_of m)))
  pub none : (write_number (write_of m (length buffer)).answer ≡ 0) ↔ ((shaped m ≡ true) × (length (bytes_of m) ≤ length buffer))
  pub nothing : (write_number (write_of m (length buffer)).answer ≡ 0 → ⊥) → ((write_of m (length buffer)).bytes ≡ 0) × (buffer_of m buffer ≡ buffer)
  pub written : write_number (write_of m (length buffer)).answer ≡ 0
      → ((write_of m (length buffer)).bytes ≡ length (bytes_of m)) × (buffer_of m buffer ≡ bytes_of m ++ drop (length (bytes_of m)) buffer)

abbrev pub EveryWriteNumbered : Type 0
EveryWriteNumbered = (m : Machine) (buffer : List ℕ) → WriteNumbers m buffer

-- The states on both sides of each clause of the shape: the writer refuses the first of a pair with 1 and writes nothing; it does not refuse the other so.
pub record WriterTested (e : BothSides) : Type 0 where
  pub broken : (buffer : List ℕ) → (write_number (write_of e.broken (length buffer)).answer ≡ 1) × (buffer_of e.broken buffer ≡ buffer)
  pub neighbour : (buffer : List ℕ) → write_number (write_of e.neighbour (length buffer)).answer ≢ 1

abbrev pub EveryClauseWritten : Type 0
EveryClauseWritten = (e : BothSides) → Memᴰ e every_clause → WriterTested e

-- What the writer writes of a process is what a look at it shows.
pub record AsLooked (m : Machine) (i : ℕ) : Type 0 where
  pub has_view : (owns (views_of m) i ≡ true) ↔ ((look_of m i).standing ≡ Standing.Finished)
  pub set : seen_by (views_of m) i ≡ (look_of m i).view
  pub values : (j : ℕ) → 1 ≤ j → j ≤ 32 → value_by (views_of m) i j ≡ get_or (look_of m i).values (j - 1) 0

pub record ViewsLooked (m : Machine) : Type 0 where
  pub processes : (views_of m).n ≡ m.n
  pub each : (i : ℕ) → 1 ≤ i → i ≤ m.n → AsLooked m i
  pub no_other : (i : ℕ) → owns (views_of m) i ≡ true → (1 ≤ i) × (i ≤ m.n)

abbrev pub EveryViewLooked : Type 0
EveryViewLooked = (m : Machine) → shaped m ≡ true → ViewsLooked m

-- "A written view file reads back as the same views": of every well shaped machine that the declared types hold.
abbrev pub WrittenReadsBack : Type 0
WrittenReadsBack = (m : Machine) → Held m → Words m → shaped m ≡ true → read_of (bytes_of m) ≡ read_whole (bytes_of m) (views_of m)

-- and what is written is bytes
abbrev pub WritesBytes : Type 0
WritesBytes = (m : Machine) → Held m → Words m → shaped m ≡ true → Bytes (bytes_of m)

-- The checker accepts what is written of a state that a run leaves, and so does the verdict of the written file.
pub record Accepted (m : Machine) : Type 0 where
  pub checked : check_of (views_of m) ≡ None
  pub verdict : verdict_of (bytes_of m) ≡ judged (length (bytes_of m)) None

abbrev pub EveryRunAccepted : Type 0
EveryRunAccepted = OfEveryRun λ n cs. Words (runs n cs) → Accepted (runs n cs)

-- so of every state that an order file leaves: a value of four bytes is a 32-bit number
abbrev pub EveryFileAccepted : Type 0
EveryFileAccepted = (f : File) (budget : ℕ) → Accepted (replay_of f.content budget).machine
