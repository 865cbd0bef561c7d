-- What is printed of a refused header.
use Prim.Native.Nat.{ℕ}
use mathlib.Core.Path.{ap, ◌∙◌}
use mathlib.Core.List.{List, [], ◌∷◌, ◌++◌, append_assoc}
use Rattle.sets.specs.Members.{count}
use Rattle.formats.specs.Numbers.{file_number}
use Rattle.formats.specs.Table.{place_given}
use Rattle.text.specs.Ascii.{ascii, lines}
use Rattle.text.specs.Decimal.{digits_in, decimal}
use Rattle.text.specs.Parts.{joined}
use Rattle.replays.proofs.Promises.{refused_header}
use Rattle.output.specs.Lines.{sight_line, process_line, run_line, partaking, last_line, replay_lines}
use Rattle.output.specs.Promises.{RefusedHeaderPrints}
use Rattle.output.proofs.ByLength.{replay_short}

pub refused_header_prints : RefusedHeaderPrints
unfolding replay_lines run_line joined process_line sight_line decimal digits_in last_line partaking count
refused_header_prints s a h e =
    let d = decimal (file_number a) in
    let at = decimal (place_given s (file_number a) 0) in
    let none = ascii " 0 0 0" in
    let nobody = lines ("p 1 absent 0 0 -" ∷ "participants 0" ∷ []) in
    replay_short s h ∙ ap replay_lines (refused_header s 65535 a e)
    ∙ ap (λ (l : List ℕ). ascii "run " ++ l)
    (append_assoc (d ++ 32 ∷ (at ++ none)) (10 ∷ []) nobody
    ∙ append_assoc d (32 ∷ (at ++ none)) (10 ∷ nobody)
    ∙ ap (λ (l : List ℕ). d ++ 32 ∷ l) (append_assoc at none (10 ∷ nobody)))
