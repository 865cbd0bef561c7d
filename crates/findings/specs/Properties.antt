-- The three properties of section 2.3 of document 002, of the views of a file as sets of (process, value) pairs, and what the checker promises.
use Rattle.std.specs.Prelude.{ℕ, ◌<◌, true, ◌≡◌, ◌↔◌, ◌⊎◌, ◌≢◌, [], Option, Some, None}
use Rattle.sets.specs.Members.{has}
use Rattle.sets.specs.Immediate.{Inside, Immediate}
use Rattle.formats.specs.declared.Views.{Views}
use Rattle.formats.specs.Views.{owns, seen_by, value_by}
use Rattle.findings.specs.declared.Finding.{Finding}
use Rattle.findings.specs.declared.Finding.TheVariants.{LacksItself, Apart, Unlike, Disagree}
use Rattle.findings.specs.Findings.{found, findings, check_of}

-- process i has a view
abbrev pub Has : Views → ℕ → Type 0
Has v i = owns v i ≡ true

-- the pair (j, x) is in i's view
pub record Pair (v : Views) (i j x : ℕ) : Type 0 where
  pub named : has (seen_by v i) j ≡ true
  pub holds : value_by v i j ≡ x

-- i sees j: a pair of j is in i's view
abbrev pub Sees : Views → ℕ → ℕ → Type 0
Sees v i j = (x : ℕ) × Pair v i j x

-- What i deposited is its value in its own view. Of a process that has no view the properties ask nothing.
abbrev pub own_value : Views → ℕ → ℕ
own_value v i = value_by v i i

-- self_inclusion, containment and simultaneity
abbrev pub Obeys : Views → Type 0
Obeys v = Immediate (Has v) (Pair v) (own_value v)

-- "The view checker says yes exactly when self_inclusion, containment and simultaneity hold": of any views, in range or not
abbrev pub AcceptsExactly : Type 0
AcceptsExactly = (v : Views) → (findings v ≡ []) ↔ Obeys v

-- a yes is the answer with no finding
abbrev pub YesIsNoFinding : Type 0
YesIsNoFinding = (v : Views) → (check_of v ≡ None) ↔ (findings v ≡ [])

-- Document 01's table, of views as sets of pairs. 20, "a view lacks its own process", is ¬ Sees v i i.
-- 23: "two views give one process different values"
pub record TwoValues (v : Views) (i j : ℕ) : Type 0 where
  pub process : ℕ
  pub one : ℕ
  pub other : ℕ
  pub here : Pair v i process one
  pub there : Pair v j process other
  pub differ : one ≢ other

-- 21: "two views, neither inside the other"
abbrev pub NeitherInside : Views → ℕ → ℕ → Type 0
NeitherInside v i j = (¬ Inside (Pair v i) (Pair v j)) × (¬ Inside (Pair v j) (Pair v i))

-- 22: "two processes see each other, views differ"
pub record SeeAndDiffer (v : Views) (i j : ℕ) : Type 0 where
  pub sees : Sees v i j
  pub seen : Sees v j i
  pub differ : ¬ (Inside (Pair v i) (Pair v j) × Inside (Pair v j) (Pair v i))

-- "and otherwise names the first break in the fixed order". First 20: i is the lowest process whose view lacks it.
pub record FirstAlone (v : Views) (i : ℕ) : Type 0 where
  pub owner : Has v i
  pub missing : ¬ Sees v i i
  pub before : (h : ℕ) → h < i → Has v h → Sees v h h

-- "tested for 23, 21, 22": the first that holds of the views of i and j, or nothing where none does
abbrev pub PairGives : Views → ℕ → ℕ → Option Finding → Type 0
PairGives v i j (Some Disagree) = TwoValues v i j
PairGives v i j (Some Apart) = (¬ TwoValues v i j) × NeitherInside v i j
PairGives v i j (Some Unlike) = (¬ TwoValues v i j) × (¬ NeitherInside v i j) × SeeAndDiffer v i j
PairGives v i j None = (¬ TwoValues v i j) × (¬ NeitherInside v i j) × (¬ SeeAndDiffer v i j)
PairGives v i j (Some LacksItself) = ⊥

-- the pair (g, h) stands before (i, j)
abbrev pub Before : ℕ → ℕ → ℕ → ℕ → Type 0
Before g h i j = (g < i) ⊎ ((g ≡ i) × (h < j))

-- Then the pairs: no view lacks its own process, and (i, j) is the first pair with a finding, which is k.
pub record FirstPair (v : Views) (k : Finding) (i j : ℕ) : Type 0 where
  pub selves : (h : ℕ) → Has v h → Sees v h h
  pub owner : Has v i
  pub other : Has v j
  pub order : i < j
  pub number : PairGives v i j (Some k)
  pub before : (g h : ℕ) → Before g h i j → g < h → Has v g → Has v h → PairGives v g h None

abbrev pub NamesTheFirst : Type 0
NamesTheFirst = (v : Views) (k : Finding) (i j : ℕ)
    → (check_of v ≡ Some (found k i j)) ↔ (((k ≡ LacksItself) × (j ≡ 0) × FirstAlone v i) ⊎ FirstPair v k i j)
