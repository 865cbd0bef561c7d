-- P1 to P10 of document 01, one table under one statement. An example is a run of the machine with what must hold then (those of crates/rules), or views with
-- what the checker finds in them.
use Rattle.std.specs.Prelude.{◌≡◌, Bool, true, ◌&&◌, List, [], ◌∷◌, ◌++◌, map, ℕ, ◌-◌, eqb, get_or, set}
use Rattle.sets.specs.Sets.{plus}
use Rattle.rules.specs.Examples.{Seen, ◌∶◌, table as machineTable, passes as runPasses}
use Rattle.rules.specs.Examples as Runs
use Rattle.formats.specs.declared.Views.{Views}
use Rattle.formats.specs.Views.{cell, none_of}
use Rattle.findings.specs.Findings.{check_of}
use Rattle.findings.specs.Verdict.{judged}

-- a view as it is written in document 01: a process and its pairs
pub data WrittenView : Type 0 where
  ◌sees◌ : ℕ → List Seen → WrittenView

infix 85 ◌sees◌
-- the views with the pair of j and x in i's
abbrev pub with_pair : Views → ℕ → Seen → Views
with_pair v i (j ∶ x) = record {
  n = v.n;
  own = plus v.own i;
  seen = set v.seen (i - 1) (plus (get_or v.seen (i - 1) 0) j);
  values = set v.values (cell i j) x;
}

unfoldable pub with_pairs : Views → ℕ → List Seen → Views
with_pairs v i [] = v
with_pairs v i (s ∷ ss) = with_pairs (with_pair v i s) i ss

unfoldable pub with_views : Views → List WrittenView → Views
with_views v [] = v
with_views v (i sees ss ∷ gs) = with_views (with_pairs v i ss) gs

pub data Example : Type 0 where
  -- a run of the machine passes
  runs : Runs.Example → Example
  -- of n processes with these views the checker finds this number for i and j
  finds : (n : ℕ) → List WrittenView → (number i j : ℕ) → Example

abbrev pub passes : Example → Bool
passes (runs r) = runPasses r
passes (finds n gs k i j) =
    let f = judged 0 (check_of (with_views (none_of n) gs)) in eqb f.number k && eqb f.i i && eqb f.j j

unfoldable pub all_pass : List Example → Bool
all_pass [] = true
all_pass (r ∷ rs) = passes r && all_pass rs

-- "P9 views 1:{1,4}, 2:{1,2,3,4}, 3:{3,4}, n = 4, values agreeing: 21 for 1 and 3."
abbrev pub p9 : Example
p9 =
    finds 4
    (1 sees (1 ∶ 10 ∷ 4 ∶ 40 ∷ []) ∷ 2 sees (1 ∶ 10 ∷ 2 ∶ 20 ∷ 3 ∶ 30 ∷ 4 ∶ 40 ∷ []) ∷ 3 sees (3 ∶ 30 ∷ 4 ∶ 40 ∷ []) ∷ [])
    21 1 3

-- "P10 views 1:{1,2}, 2:{1,2,3}, n = 3, values agreeing: 22 for 1 and 2."
abbrev pub p10 : Example
p10 = finds 3 (1 sees (1 ∶ 10 ∷ 2 ∶ 20 ∷ []) ∷ 2 sees (1 ∶ 10 ∷ 2 ∶ 20 ∷ 3 ∶ 30 ∷ []) ∷ []) 22 1 2

-- P1 to P8 and the other examples of machine calls, then P9 and P10
abbrev pub table : List Example
table = map runs machineTable ++ p9 ∷ p10 ∷ []

-- every example of the table holds of the definitions
abbrev pub EveryExample : Type 0
EveryExample = all_pass table ≡ true
