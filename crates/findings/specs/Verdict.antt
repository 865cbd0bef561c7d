-- The verdict of a view file: "`verdict`, number, place, i, j (0 where none). With a finding, or with none, the place is the file's length." "On a
-- file refusal no finding is made, and i and j are 0."
use Rattle.std.specs.Prelude.{ℕ, cond, List, Option, Some, None}
use Rattle.formats.specs.declared.ViewsRead.{ViewsRead}
use Rattle.formats.specs.Numbers.{file_number, is_whole}
use Rattle.formats.specs.ViewFile.{read_of}
use Rattle.findings.specs.declared.Found.{Found}
use Rattle.findings.specs.declared.FileVerdict.{FileVerdict}
use Rattle.findings.specs.Findings.{finding_number, check_of}

-- of a file that was refused
abbrev pub unread : ℕ → ℕ → FileVerdict
unread number place = record { number = number; place = place; i = 0; j = 0 }

-- of a file that was read
abbrev pub judged : ℕ → Option Found → FileVerdict
judged place (Some f) = record { number = finding_number f.finding; place = place; i = f.i; j = f.j }
judged place None = record { number = 0; place = place; i = 0; j = 0 }

abbrev pub verdict_by : ViewsRead → FileVerdict
verdict_by r = cond (is_whole r.answer) (judged r.place (check_of r.views)) (unread (file_number r.answer) r.place)

unfoldable pub verdict_of : List ℕ → FileVerdict
verdict_of s = verdict_by (read_of s)
