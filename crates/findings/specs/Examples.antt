-- Files with views: document 01's P9 and P10, each number 20 to 23, the order of the findings, and a file's own numbers first.
use Rattle.std.specs.Prelude.{ℕ, suc, Bool, true, ◌&&◌, ◌≡◌, List, [], ◌∷◌, ◌++◌, map, eqb, length, take, Some, None}
use Rattle.formats.specs.declared.Views.{Views}
use Rattle.formats.specs.Records.{word_bytes}
use Rattle.text.specs.Ascii.{ascii}
use Rattle.text.specs.Parts.{joined}
use Rattle.formats.specs.ViewFile.{read_of}
use Rattle.formats.specs.Examples.{MN, VW, header_cuts, record_cuts}
use Rattle.findings.specs.declared.FileVerdict.{FileVerdict}
use Rattle.findings.specs.declared.Finding.TheVariants.{Apart, Unlike, Disagree}
use Rattle.findings.specs.declared.Found.{Found}
use Rattle.findings.specs.Findings.{found, of_pair, of_ones, findings, check_of}
use Rattle.findings.specs.Verdict.{judged, unread, verdict_of}

pub record Example : Type 0 where
  pub file : List ℕ
  pub number : ℕ
  pub place : ℕ
  pub i : ℕ
  pub j : ℕ

abbrev of : List ℕ → ℕ → ℕ → ℕ → ℕ → Example
of s k at i j = record { file = s; number = k; place = at; i = i; j = j }

-- the verdict of a file that is read whole: its place is the file's length
abbrev whole : List ℕ → ℕ → ℕ → ℕ → Example
whole s k i j = of s k (length s) i j

abbrev val : ℕ → List ℕ
val x = word_bytes x

-- P9: views 1:{1,4}, 2:{1,2,3,4}, 3:{3,4}, n = 4, values agreeing. Comparing a view only with the next process's view would pass it.
abbrev pub p9 : List ℕ
p9 = MN 4 ++ VW 1 9 ++ val 10 ++ val 40 ++ VW 2 15 ++ val 10 ++ val 20 ++ val 30 ++ val 40 ++ VW 3 12 ++ val 30 ++ val 40

-- P10: views 1:{1,2}, 2:{1,2,3}, n = 3, values agreeing
abbrev pub p10 : List ℕ
p10 = MN 3 ++ VW 1 3 ++ val 10 ++ val 20 ++ VW 2 7 ++ val 10 ++ val 20 ++ val 30

abbrev pub examples : List Example
examples =
    whole p9 21 1 3
    ∷ whole p10 22 1 2
    -- no views at all, and one that sees itself
    ∷ whole (MN 5) 0 0 0
    ∷ whole (MN 5 ++ VW 3 4 ++ val 0) 0 0 0
    -- 20: an empty view, and one without its own process, the lowest first, before any pair
    ∷ whole (MN 5 ++ VW 3 0) 20 3 0
    ∷ whole (MN 5 ++ VW 1 2 ++ val 2) 20 1 0
    ∷ whole (MN 5 ++ VW 5 1 ++ val 1 ++ VW 3 2 ++ val 2 ++ VW 1 1 ++ val 3) 20 3 0
    -- 23 of a process that both name and that has no view of its own, before 21 of the same pair
    ∷ whole (MN 5 ++ VW 1 5 ++ val 1 ++ val 7 ++ VW 2 6 ++ val 2 ++ val 8) 23 1 2
    ∷ whole (MN 5 ++ VW 1 5 ++ val 1 ++ val 7 ++ VW 2 6 ++ val 2 ++ val 7) 21 1 2
    -- pairs by i and then by j: 1 and 4 before 2 and 3; 21 of 1 and 2 before 23 of 1 and 3
    ∷ whole (MN 4 ++ VW 1 1 ++ val 1 ++ VW 2 3 ++ val 1 ++ val 2 ++ VW 3 5 ++ val 1 ++ val 3 ++ VW 4 8 ++ val 4) 21 1 4
    ∷ whole (MN 3 ++ VW 1 1 ++ val 1 ++ VW 2 2 ++ val 2 ++ VW 3 5 ++ val 5 ++ val 3) 21 1 2
    -- by process numbers and not by the order of the records
    ∷ whole (MN 4 ++ VW 4 8 ++ val 4 ++ VW 3 4 ++ val 3 ++ VW 2 2 ++ val 2 ++ VW 1 15 ++ val 1 ++ val 2 ++ val 3 ++ val 4) 21 2 3
    -- nested views, either inside the other, where one process sees the other, and equal views of two that see each other
    ∷ whole (MN 2 ++ VW 1 1 ++ val 7 ++ VW 2 3 ++ val 7 ++ val 9) 0 0 0
    ∷ whole (MN 2 ++ VW 1 3 ++ val 7 ++ val 9 ++ VW 2 2 ++ val 9) 0 0 0
    ∷ whole (MN 2 ++ VW 1 3 ++ val 7 ++ val 9 ++ VW 2 3 ++ val 7 ++ val 9) 0 0 0
    -- equal sets with different values
    ∷ whole (MN 2 ++ VW 1 3 ++ val 7 ++ val 9 ++ VW 2 3 ++ val 7 ++ val 8) 23 1 2
    -- 1:{1,2,3} and 2:{1,2,4} see each other and neither is inside the other: 21 before 22; 1:{1,2,3,4} and 2:{1,2,3}: 22, the other way round than P10
    ∷ whole (MN 4 ++ VW 1 7 ++ val 1 ++ val 2 ++ val 3 ++ VW 2 11 ++ val 1 ++ val 2 ++ val 4) 21 1 2
    ∷ whole (MN 4 ++ VW 1 15 ++ val 1 ++ val 2 ++ val 3 ++ val 4 ++ VW 2 7 ++ val 1 ++ val 2 ++ val 3) 22 1 2
    -- up to the last process, each number and its neighbour: 31 and 32 with {31,32}, of the same values and of different ones of 32
    ∷ whole (MN 32 ++ VW 31 3221225472 ++ val 1 ++ val 2 ++ VW 32 3221225472 ++ val 1 ++ val 2) 0 0 0
    ∷ whole (MN 32 ++ VW 31 3221225472 ++ val 1 ++ val 2 ++ VW 32 3221225472 ++ val 1 ++ val 3) 23 31 32
    -- 31:{31} and 32:{32}; 31:{31,32} and 32:{1,31,32}; 32:{31}
    ∷ whole (MN 32 ++ VW 31 1073741824 ++ val 1 ++ VW 32 2147483648 ++ val 2) 21 31 32
    ∷ whole (MN 32 ++ VW 31 3221225472 ++ val 1 ++ val 2 ++ VW 32 3221225473 ++ val 0 ++ val 1 ++ val 2) 22 31 32
    ∷ whole (MN 32 ++ VW 31 1073741824 ++ val 1 ++ VW 32 1073741824 ++ val 1) 20 32 0
    -- the file's own numbers first
    ∷ of (p9 ++ 86 ∷ []) 11 (length p9) 0 0
    ∷ of (p9 ++ ascii "VW") 24 58 0 0
    ∷ of (p10 ++ VW 4 8) 14 (length p10) 0 0
    ∷ of [] 9 0 0 0
    ∷ []

-- Every cut of P9's file, of 56 bytes: its first 0, 1, 2, .. bytes, and last the file.
abbrev pub P9Cuts : Type 0
P9Cuts =
    joined 0 57 (λ k. verdict_of (take k p9) ∷ [])
    ≡ map (λ c. unread c.number c.place) (header_cuts ++ record_cuts 3 15 ++ record_cuts 18 23 ++ record_cuts 41 15)
    ++ judged 56 (Some (found Apart 1 3)) ∷ []

abbrev agrees : FileVerdict → Example → Bool
agrees r e = eqb r.number e.number && eqb r.place e.place && eqb r.i e.i && eqb r.j e.j

unfoldable pub hold : List Example → Bool
hold [] = true
hold (e ∷ es) = agrees (verdict_of e.file) e && hold es

abbrev pub ExamplesHold : Type 0
ExamplesHold = hold examples ≡ true

-- "23 is a break of containment with a number of its own": of equal sets with different values 23, 21 and 22 all hold, and the first is given.
abbrev pub unequal : Views
unequal = (read_of (MN 2 ++ VW 1 3 ++ val 7 ++ val 9 ++ VW 2 3 ++ val 7 ++ val 8)).views

abbrev pub AllThreeFound : Type 0
AllThreeFound = findings unequal ≡ found Disagree 1 2 ∷ found Apart 1 2 ∷ found Unlike 1 2 ∷ []

-- "Only processes that have a view in the file are compared": of one of the two alone there is nothing to find, whatever stands where the other's was.
abbrev alone : ℕ → Views
alone own = record { n = 2; own = own; seen = unequal.seen; values = unequal.values }

abbrev pub NotCompared : Type 0
NotCompared = (check_of (alone 1) ≡ None) × (check_of (alone 2) ≡ None)

-- Document 01's error "Comparing a view only with the next process's view: P9 passes": of the pairs (i, i + 1) alone nothing is found.
abbrev next_only : Views → List Found
next_only v = of_ones v ++ joined 1 32 (λ i. of_pair v i (suc i))

abbrev pub P9PassesByNeighbours : Type 0
P9PassesByNeighbours = next_only (read_of p9).views ≡ []
