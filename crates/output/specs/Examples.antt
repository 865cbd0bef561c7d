-- Printed texts, computed: document 01's own, P2 and P7, other runs, a cut file, a refused header, and verdicts.
use Rattle.std.specs.Prelude.{ℕ, ◌-◌, ◌≡◌, List, [], ◌∷◌, ◌++◌, take}
use Rattle.formats.specs.Examples.{MN}
use Rattle.findings.specs.Examples.{p10}
use Rattle.replays.specs.Examples.{EN, ST, CR, printed_file}
use Rattle.text.specs.Ascii.{ascii, lines}
use Rattle.text.specs.Parts.{joined}
use Rattle.output.specs.Lines.{replay_text, verdict_text}

-- P2, "n = 1, value 0: two steps", and with the largest value that a register holds
abbrev pub p2_file : List ℕ
p2_file = MN 1 ++ EN 1 0 ++ ST 1 ++ ST 1

abbrev pub largest_file : List ℕ
largest_file = MN 1 ++ (69 ∷ 78 ∷ 1 ∷ 255 ∷ 255 ∷ 255 ∷ 255 ∷ []) ++ ST 1 ++ ST 1

-- P7, "n = 3: 1 writes and crashes; 2 alone ends at level 1 after 12; 3 alone ends at level 3 after 4, and its view has 1, 2, 3"
abbrev pub p7_file : List ℕ
p7_file = MN 3 ++ EN 1 5 ++ EN 2 6 ++ EN 3 7 ++ ST 1 ++ CR 1 ++ joined 1 12 (λ _. ST 2) ++ joined 1 4 (λ _. ST 3)

-- two write, and 1 reads; 2 alone has entered; ten write, and 10 reads
abbrev pub running_file : List ℕ
running_file = MN 2 ++ EN 1 10 ++ EN 2 7 ++ ST 1 ++ ST 2 ++ ST 1 ++ ST 1

abbrev pub absent_file : List ℕ
absent_file = MN 2 ++ EN 2 7

abbrev pub ten_file : List ℕ
ten_file = MN 10 ++ joined 1 10 (λ i. EN i (20 - i)) ++ joined 1 10 ST ++ joined 1 10 (λ _. ST 10)

-- a step that is refused, then one cut off after a byte of its mark, and after its mark
abbrev pub cut_file : List ℕ
cut_file = MN 1 ++ ST 1 ++ 83 ∷ []

abbrev pub cut_later_file : List ℕ
cut_later_file = MN 1 ++ ST 1 ++ 83 ∷ 84 ∷ []

pub record Texts : Type 0 where
  pub printed_run : replay_text printed_file
      ≡ lines ("run 0 47 12 9 1" ∷ "p 1 finished 1 6 1:7" ∷ "p 2 finished 2 3 1:7,2:9" ∷ "participants 2" ∷ [])
  pub p2 : replay_text p2_file ≡ lines ("run 0 16 3 2 0" ∷ "p 1 finished 1 2 1:0" ∷ "participants 1" ∷ [])
  pub largest : replay_text largest_file ≡ lines ("run 0 16 3 2 0" ∷ "p 1 finished 1 2 1:4294967295" ∷ "participants 1" ∷ [])
  pub p7 : replay_text p7_file
      ≡ lines ("run 0 78 21 17 0" ∷ "p 1 crashed 3 1 -" ∷ "p 2 finished 1 12 2:6" ∷ "p 3 finished 3 4 1:5,2:6,3:7" ∷ "participants 3" ∷ [])
  pub running : replay_text running_file
      ≡ lines ("run 0 29 6 4 0" ∷ "p 1 finished 2 3 1:10,2:7" ∷ "p 2 running 2 1 -" ∷ "participants 2" ∷ [])
  pub absent : replay_text absent_file ≡ lines ("run 0 10 1 0 0" ∷ "p 1 absent 0 0 -" ∷ "p 2 running 2 0 -" ∷ "participants 1" ∷ [])
  pub ten : replay_text ten_file
      ≡ lines ("run 0 133 30 20 0" ∷ "p 1 running 10 1 -" ∷ "p 2 running 10 1 -" ∷ "p 3 running 10 1 -" ∷ "p 4 running 10 1 -" ∷ "p 5 running 10 1 -"
      ∷ "p 6 running 10 1 -" ∷ "p 7 running 10 1 -" ∷ "p 8 running 10 1 -" ∷ "p 9 running 10 1 -"
      ∷ "p 10 finished 10 11 1:19,2:18,3:17,4:16,5:15,6:14,7:13,8:12,9:11,10:10" ∷ "participants 10" ∷ [])
  pub cut : replay_text cut_file ≡ lines ("run 11 6 1 0 1" ∷ "p 1 absent 0 0 -" ∷ "participants 0" ∷ [])
  pub cut_later : replay_text cut_later_file ≡ lines ("run 24 8 1 0 1" ∷ "p 1 absent 0 0 -" ∷ "participants 0" ∷ [])
  pub cut_header : replay_text (ascii "MN") ≡ lines ("run 24 2 0 0 0" ∷ "p 1 absent 0 0 -" ∷ "participants 0" ∷ [])
  pub refused_header : replay_text (MN 33) ≡ lines ("run 8 0 0 0 0" ∷ "p 1 absent 0 0 -" ∷ "participants 0" ∷ [])
  pub unlike_views : verdict_text p10 ≡ lines ("verdict 22 37 1 2" ∷ [])
  pub cut_view : verdict_text (take 36 p10) ≡ lines ("verdict 24 36 0 0" ∷ [])
  pub nothing : verdict_text [] ≡ lines ("verdict 9 0 0 0" ∷ [])
  pub no_views : verdict_text (MN 3) ≡ lines ("verdict 0 3 0 0" ∷ [])
