-- What else is promised of the checker, and of the verdict of a file.
use Rattle.std.specs.Prelude.{ℕ, ◌<◌, true, false, ◌≡◌, ◌⊎◌, ◌↔◌, ◌≢◌, List, length, Some, None, option_map}
use Rattle.formats.specs.declared.Views.{Views}
use Rattle.formats.specs.Numbers.{file_number, is_whole}
use Rattle.formats.specs.Views.{none_of}
use Rattle.formats.specs.Cuts.{EndsInMark, EndsInBody}
use Rattle.formats.specs.ViewFile.{read_of}
use Rattle.findings.specs.declared.Finding.{Finding}
use Rattle.findings.specs.declared.Found.{Found}
use Rattle.findings.specs.Findings.{finding_number, view_in, lacks, disagree, apart, unlike, check_of}
use Rattle.findings.specs.Verdict.{judged, unread, verdict_of}
use Rattle.findings.specs.Properties.{Has, Sees, Obeys, TwoValues, NeitherInside, SeeAndDiffer}

-- "No views at all is accepted": where no process has a view, and so of a file that has none.
pub record NoViewsAccepted : Type 0 where
  pub nobody : (v : Views) → ((i : ℕ) → ¬ Has v i) → check_of v ≡ None
  pub none : (n : ℕ) → check_of (none_of n) ≡ None

-- the tests of specs/Findings.antt are these
pub record TestsOfPairs : Type 0 where
  pub twenty : (v : Views) (i : ℕ) → (lacks (view_in v i) i ≡ true) ↔ (¬ Sees v i i)
  pub twenty_one : (v : Views) (i j : ℕ) → (apart (view_in v i) (view_in v j) ≡ true) ↔ NeitherInside v i j
  pub twenty_two : (v : Views) (i j : ℕ) → (unlike (view_in v i) (view_in v j) i j ≡ true) ↔ SeeAndDiffer v i j
  pub twenty_three : (v : Views) (i j : ℕ) → (disagree (view_in v i) (view_in v j) ≡ true) ↔ TwoValues v i j

-- "so 23 is a break of containment with a number of its own"
abbrev pub DisagreeIsApart : Type 0
DisagreeIsApart = (v : Views) (i j : ℕ) → TwoValues v i j → NeitherInside v i j

-- The verdict of a file: the file's own numbers first, and then the checker's answer, with the file's length as the place.
abbrev pub RefusedFirst : Type 0
RefusedFirst = (s : List ℕ) → is_whole (read_of s).answer ≡ false → verdict_of s ≡ unread (file_number (read_of s).answer) (read_of s).place

abbrev pub ReadThenChecked : Type 0
ReadThenChecked = (s : List ℕ) → is_whole (read_of s).answer ≡ true → verdict_of s ≡ judged (length s) (check_of (read_of s).views)

-- Each number exactly: one of 20 to 23 where the file is read and the checker finds it, and another where the reader gives it.
pub record VerdictNumbers (s : List ℕ) : Type 0 where
  pub finding : (k : Finding)
      → ((verdict_of s).number ≡ finding_number k)
      ↔ ((is_whole (read_of s).answer ≡ true) × (option_map (λ (f : Found). f.finding) (check_of (read_of s).views) ≡ Some k))
  pub refusal : (x : ℕ) → x ≢ 0 → (x < 20) ⊎ (23 < x) → ((verdict_of s).number ≡ x) ↔ (file_number (read_of s).answer ≡ x)

abbrev pub EveryVerdictNumbered : Type 0
EveryVerdictNumbered = (s : List ℕ) → VerdictNumbers s

-- Of a file that ends in a mark 11, of one that ends in a body 24, with their places (item 2 of document 02).
pub record CutsJudged (s : List ℕ) : Type 0 where
  pub eleven : (place : ℕ) → (((verdict_of s).number ≡ 11) × ((verdict_of s).place ≡ place)) ↔ EndsInMark s place
  pub twenty_four : (place : ℕ) → (((verdict_of s).number ≡ 24) × ((verdict_of s).place ≡ place)) ↔ (EndsInBody s × (place ≡ length s))

abbrev pub EveryCutJudged : Type 0
EveryCutJudged = (s : List ℕ) → CutsJudged s

-- 0 exactly for a file that is read and whose views obey the three properties
abbrev pub YesExactly : Type 0
YesExactly = (s : List ℕ) → ((verdict_of s).number ≡ 0) ↔ ((is_whole (read_of s).answer ≡ true) × Obeys (read_of s).views)
