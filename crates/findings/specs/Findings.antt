-- The checker: document 01, "Order of the checker's findings". "A view is a set of (process, value) pairs, so 23 is a break of containment with
-- a number of its own."
use Rattle.std.specs.Prelude.{ℕ, suc, ◌-◌, Bool, true, false, not, ◌&&◌, cond, List, [], ◌∷◌, ◌++◌, map, eqb, get_or, Option, slice_get}
use Rattle.sets.specs.Members.{has}
use Rattle.sets.specs.Sets.{every}
use Rattle.formats.specs.declared.Views.{Views}
use Rattle.formats.specs.Views.{owns, seen_by, cell}
use Rattle.text.specs.Parts.{joined}
use Rattle.findings.specs.declared.Finding.{Finding}
use Rattle.findings.specs.declared.Finding.TheVariants.{LacksItself, Apart, Unlike, Disagree}
use Rattle.findings.specs.declared.Found.{Found}

-- document 01's number for a finding
abbrev pub finding_number : Finding → ℕ
finding_number LacksItself = 20
finding_number Apart = 21
finding_number Unlike = 22
finding_number Disagree = 23

abbrev pub found : Finding → ℕ → ℕ → Found
found k i j = record { finding = k; i = i; j = j }

-- a finding where the test says so
abbrev pub only : Bool → Finding → List Finding
only true k = k ∷ []
only false k = []

-- a view: the processes that it names, and the value that it gives to each
pub record View : Type 0 where
  pub set : ℕ
  pub value : ℕ → ℕ

-- the view of process i that names the processes of w, with its values where a file's views have them
abbrev pub view : ℕ → List ℕ → ℕ → View
view w values i = record { set = w; value = λ j. get_or values (cell i j) 0 }

abbrev pub view_in : Views → ℕ → View
view_in v i = view (seen_by v i) v.values i

-- no process has different values in x and y
abbrev pub same_at : View → View → ℕ → Bool
same_at x y k = cond (has x.set k && has y.set k) (eqb (x.value k) (y.value k)) true

unfoldable pub agree : View → View → Bool
agree x y = every 32 (same_at x y)

-- each pair of x is in y
abbrev pub inside_at : View → View → ℕ → Bool
inside_at x y k = cond (has x.set k) (has y.set k && eqb (x.value k) (y.value k)) true

unfoldable pub inside : View → View → Bool
inside x y = every 32 (inside_at x y)

-- 20: "a view lacks its own process"
abbrev pub lacks : View → ℕ → Bool
lacks x i = not (has x.set i)

-- 23: "two views give one process different values"
abbrev pub disagree : View → View → Bool
disagree x y = not (agree x y)

-- 21: "two views, neither inside the other"
abbrev pub apart : View → View → Bool
apart x y = not (inside x y) && not (inside y x)

-- 22: "two processes see each other, views differ", for i with the view x and j with the view y
abbrev pub facing : View → View → ℕ → ℕ → Bool
facing x y i j = has x.set j && has y.set i

abbrev pub unlike : View → View → ℕ → ℕ → Bool
unlike x y i j = facing x y i j && not (inside x y && inside y x)

-- "each pair i < j .. tested for 23, 21, 22"
unfoldable pub breaks : View → View → ℕ → ℕ → List Finding
breaks x y i j = only (disagree x y) Disagree ++ only (apart x y) Apart ++ only (unlike x y i j) Unlike

-- "First 20 for the lowest process that has such a view, as i, with j = 0."
unfoldable pub of_one : Views → ℕ → List Found
of_one v i = map (λ k. found k i 0) (only (owns v i && lacks (view_in v i) i) LacksItself)

-- "Only processes that have a view in the file are compared; a view may name others."
unfoldable pub of_pair : Views → ℕ → ℕ → List Found
of_pair v i j = cond (owns v i && owns v j) (map (λ k. found k i j) (breaks (view_in v i) (view_in v j) i j)) []

-- the 20s of all processes, the lowest first
abbrev pub of_ones : Views → List Found
of_ones v = joined 1 32 (of_one v)

-- "Then each pair i < j, by i and then by j": those of i
abbrev pub of_pairs : Views → ℕ → List Found
of_pairs v i = joined (suc i) (32 - i) (of_pair v i)

-- all the findings
unfoldable pub findings : Views → List Found
findings v = of_ones v ++ joined 1 32 (of_pairs v)

-- the first of a list of findings, if there is one: of a pair's, and, which is the checker's answer, of all
abbrev pub first_finding : {A : Type 0} → List A → Option A
first_finding l = slice_get l 0

unfoldable pub check_of : Views → Option Found
check_of v = first_finding (findings v)
