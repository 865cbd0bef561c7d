-- The printed output of both programs, byte for byte (document 01, "Printed output"). "Fields are split by one space"; "each line of both programs
-- ended by byte 10".
use Rattle.std.specs.Prelude.{ℕ, zero, suc, ◌-◌, Bool, true, false, cond, List, [], ◌∷◌, ◌++◌, leb, length, get_or}
use Rattle.sets.specs.Members.{has, count}
use Rattle.rules.specs.declared.Standing.{Standing}
use Rattle.rules.specs.declared.Standing.TheVariants.{Absent, Running, Finished, Crashed}
use Rattle.rules.specs.declared.Machine.{Machine}
use Rattle.rules.specs.declared.Sight.{Sight}
use Rattle.rules.specs.Stands.{stage_of, entered}
use Rattle.rules.specs.Calls.{looked}
use Rattle.formats.specs.Numbers.{file_number}
use Rattle.text.specs.Parts.{joined}
use Rattle.findings.specs.declared.FileVerdict.{FileVerdict}
use Rattle.findings.specs.Verdict.{verdict_of}
use Rattle.replays.specs.declared.Replayed.{Replayed}
use Rattle.replays.specs.Replays.{replay_of}
use Rattle.text.specs.Ascii.{ascii}
use Rattle.text.specs.Decimal.{decimal}

-- a space, and a number after it
abbrev pub field : ℕ → List ℕ
field n = ascii " " ++ decimal n

abbrev pub fields : List ℕ → List ℕ
fields [] = []
fields (n ∷ ns) = field n ++ fields ns

-- a line: its parts, and the byte that ends it
abbrev pub line : List (List ℕ) → List ℕ
line [] = 10 ∷ []
line (x ∷ xs) = x ++ line xs

-- "stage (`absent`, `running`, `finished`, `crashed`)", after a space
abbrev pub stage_word : Standing → List ℕ
stage_word Absent = ascii " absent"
stage_word Running = ascii " running"
stage_word Finished = ascii " finished"
stage_word Crashed = ascii " crashed"

-- "process:value pairs, ascending, split by commas": a pair, with a comma before it unless it is the first
abbrev pub comma : Bool → List ℕ
comma false = []
comma true = ascii ","

unfoldable pub pair : Bool → ℕ → ℕ → List ℕ
pair later i v = comma later ++ (decimal i ++ (ascii ":" ++ decimal v))

-- the pairs of those of the k processes from i on that the set w names, whose values stand at i - 1
unfoldable pub pairs_from : Bool → ℕ → List ℕ → ℕ → ℕ → List ℕ
pairs_from later w values i zero = []
pairs_from later w values i (suc k) =
    cond (has w i) (pair later i (get_or values (i - 1) 0) ++ pairs_from true w values (suc i) k) (pairs_from later w values (suc i) k)

-- "view (`-` if not finished; else process:value pairs, ..)"
abbrev pub view : Standing → ℕ → List ℕ → List ℕ
view Absent w values = ascii "-"
view Running w values = ascii "-"
view Finished w values = pairs_from false w values 1 32
view Crashed w values = ascii "-"

abbrev pub view_text : Sight → List ℕ
view_text s = view s.standing s.view s.values

-- "Then for each process, ascending: `p`, number, stage, level, accesses, view": what a look at the process shows
unfoldable pub sight_line : ℕ → Sight → List ℕ
sight_line i s = line (ascii "p" ∷ field i ∷ stage_word s.standing ∷ field s.level ∷ field s.accesses ∷ (ascii " " ++ view_text s) ∷ [])

unfoldable pub process_line : Machine → ℕ → List ℕ
process_line m i = sight_line i (looked m (stage_of m i))

-- "Line 1: `run`, number, place, orders taken, accesses, orders refused."
unfoldable pub run_line : Replayed → List ℕ
run_line r = line (ascii "run" ∷ fields (file_number r.answer ∷ r.place ∷ r.taken ∷ r.accesses ∷ r.refused ∷ []) ∷ [])

-- "Last: `participants` and how many processes have entered."
unfoldable pub partaking : Machine → ℕ
partaking m = count (λ i. entered (stage_of m i)) m.n

unfoldable pub last_line : Machine → List ℕ
last_line m = line (ascii "participants" ∷ fields (partaking m ∷ []) ∷ [])

unfoldable pub replay_lines : Replayed → List ℕ
replay_lines r = run_line r ++ (joined 1 r.machine.n (process_line r.machine) ++ last_line r.machine)

-- "Verdict prints one line: `verdict`, number, place, i, j (0 where none)."
unfoldable pub verdict_line : FileVerdict → List ℕ
verdict_line v = line (ascii "verdict" ∷ fields (v.number ∷ v.place ∷ v.i ∷ v.j ∷ []) ∷ [])

-- "Both programs take at most 65,535 bytes; for more they print `too long` and nothing else. Replay uses a budget of 65,535 orders."
abbrev pub too_long : List ℕ
too_long = line (ascii "too long" ∷ [])

unfoldable pub replay_text : List ℕ → List ℕ
replay_text s = cond (leb (length s) 65535) (replay_lines (replay_of s 65535)) too_long

unfoldable pub verdict_text : List ℕ → List ℕ
verdict_text s = cond (leb (length s) 65535) (verdict_line (verdict_of s)) too_long
