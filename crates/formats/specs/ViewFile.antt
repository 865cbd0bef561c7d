-- A view file: its bytes from the views, and the views from its bytes.
use Rattle.std.specs.Prelude.{ℕ, zero, suc, ◌+◌, ◌-◌, ◌*◌, Bool, not, ◌&&◌, cond, List, [], ◌∷◌, ◌++◌, leb, length, set, Some, None, Result, Ok, Err}
use Rattle.sets.specs.Members.{has, count, size}
use Rattle.sets.specs.Sets.{plus, first, within}
use Rattle.formats.specs.declared.FileAnswer.{FileAnswer}
use Rattle.formats.specs.declared.FileAnswer.TheVariants.{Whole, BodyCut, NoProcess, SecondView, NamesAbove}
use Rattle.formats.specs.declared.ViewRecord.{ViewRecord}
use Rattle.formats.specs.declared.Views.{Views}
use Rattle.formats.specs.declared.ViewsRead.{ViewsRead}
use Rattle.formats.specs.Numbers.{place_of}
use Rattle.formats.specs.Records.{word_at, word_bytes, fits, header_of, AtPlace, view_at}
use Rattle.formats.specs.Views.{owns, seen_by, value_by, cell, none_of}
use Rattle.text.specs.Ascii.{ascii}
use Rattle.text.specs.Parts.{joined}

-- The bytes. "`VW`, process (1), set (4; bit i-1 for process i), then one 4-byte value for each process in the set, ascending."
abbrev pub value_bytes : Views → ℕ → ℕ → List ℕ
value_bytes v i j = cond (has (seen_by v i) j) (word_bytes (value_by v i j)) []

unfoldable pub view_bytes : Views → ℕ → List ℕ
view_bytes v i = ascii "VW" ++ i ∷ word_bytes (seen_by v i) ++ joined 1 32 (value_bytes v i)

-- "`MN`, n (1 byte)", then the views, the processes ascending
unfoldable pub file_of : Views → List ℕ
file_of v = ascii "MN" ++ v.n ∷ joined 1 32 (λ i. cond (owns v i) (view_bytes v i) [])

-- The views. For `VW`: the five fixed bytes (24), 14, 15, 16, then the values (24).
abbrev pub values_fit : List ℕ → ℕ → ℕ → Bool
values_fit s at w = fits s at (5 + 4 * size w)

abbrev pub tested_view : List ℕ → ℕ → ℕ → ℕ → ℕ → ℕ → AtPlace ViewRecord
tested_view s at n own p w =
    cond (not (leb 1 p && leb p n)) (Err NoProcess)
    (cond (has own p) (Err SecondView)
    (cond (not (within w (first n))) (Err NamesAbove)
    (cond (not (values_fit s at w)) (Err BodyCut) (Ok (Some (record { process = p; set = w }))))))

abbrev pub tested_by : List ℕ → ℕ → ℕ → ℕ → AtPlace ViewRecord → AtPlace ViewRecord
tested_by s at n own (Ok None) = Ok None
tested_by s at n own (Err a) = Err a
tested_by s at n own (Ok (Some r)) = tested_view s at n own r.process r.set

-- the record at a place of a file of n processes, of which those of `own` have had their view
unfoldable pub tested_at : List ℕ → ℕ → ℕ → ℕ → AtPlace ViewRecord
tested_at s at n own = tested_by s at n own (view_at s at)

-- the values of the members of w up to j, which stand from a place on, stored as those of process p's view
unfoldable pub values_read : List ℕ → ℕ → ℕ → ℕ → ℕ → List ℕ → List ℕ
values_read s from p w zero values = values
values_read s from p w (suc j) values =
    let below : List ℕ = values_read s from p w j values in
    cond (has w (suc j)) (set below (cell p (suc j)) (word_at s (from + 4 * count (has w) j))) below

-- the views with process p's view beside them, whose record stands at a place and names the processes of w
abbrev pub with_view : List ℕ → ℕ → Views → ℕ → ℕ → Views
with_view s at v p w =
    record { n = v.n; own = plus v.own p; seen = set v.seen (p - 1) w; values = values_read s (at + 7) p w 32 v.values }

-- Refused at the record that stands at a place: "a refused file gives n = 0 and no views."
abbrev pub refused_at : List ℕ → FileAnswer → ℕ → ViewsRead
refused_at s a at = record { answer = a; place = place_of a at (length s); views = none_of 0 }

abbrev pub read_whole : List ℕ → Views → ViewsRead
read_whole s v = record { answer = Whole; place = length s; views = v }

-- what follows the record at a place
abbrev pub read_next : List ℕ → ℕ → Views → AtPlace ViewRecord → (ℕ → Views → ViewsRead) → ViewsRead
read_next s at v (Ok None) next = read_whole s v
read_next s at v (Err a) next = refused_at s a at
read_next s at v (Ok (Some r)) next = next (at + (7 + 4 * size r.set)) (with_view s at v r.process r.set)

-- The records from a place on, `turns` of them at most. A record has seven bytes at least, so the file's length is enough and no file comes to
-- its last turn, which refuses: specs/Table says what is read, and what is refused, with no turns.
unfoldable pub read_from : ℕ → List ℕ → ℕ → Views → ViewsRead
read_from zero s at v = refused_at s BodyCut at
read_from (suc turns) s at v = read_next s at v (tested_at s at v.n v.own) (read_from turns s)

abbrev pub read_by : List ℕ → Result ℕ FileAnswer → ViewsRead
read_by s (Ok n) = read_from (length s) s 3 (none_of n)
read_by s (Err a) = refused_at s a 0

unfoldable pub read_of : List ℕ → ViewsRead
read_of s = read_by s (header_of s)
