-- Every example of the table holds: the machine's by its own law, the views' by computation.
use mathlib.Core.Path.{◌≡◌, refl, ap, ap₂, ◌∙◌}
use mathlib.Core.Bool.{Bool, true, ◌&&◌, and_assoc}
use mathlib.Core.List.{List, [], ◌∷◌, ◌++◌, map}
use Rattle.sets.specs.Members.{has, count, size}
use Rattle.sets.specs.Sets.{plus, every, within}
use Rattle.rules.specs.Examples.{table as machineTable, passes as runPasses, all_pass as allRunsPass}
use Rattle.rules.specs.Examples as Runs
use Rattle.rules.proofs.Laws.Examples.{every_example_passes}
use Rattle.text.specs.Parts.{joined}
use Rattle.findings.specs.Findings.{agree, inside, breaks, of_one, of_pair, findings, check_of}
use Rattle.examples.specs.Table.{Example, runs, with_pairs, with_views, all_pass, p9, p10, EveryExample}

runs_then : (rs : List Runs.Example) (more : List Example) → all_pass (map runs rs ++ more) ≡ (allRunsPass rs && all_pass more)
unfolding all_pass allRunsPass
runs_then [] more = refl
runs_then (r ∷ rs) more =
    ap (λ (b : Bool). runPasses r && b) (runs_then rs more)
    ∙ assoc (runPasses r) (allRunsPass rs) (all_pass more)
  where
    assoc : (a b c : Bool) → (a && (b && c)) ≡ (a && b && c)
    assoc a b c = mathlib.Core.Path.sym (and_assoc a b c)

views_pass : all_pass (p9 ∷ p10 ∷ []) ≡ true
unfolding all_pass with_pairs with_views check_of findings of_one of_pair breaks agree inside joined has plus every count within size
views_pass = refl

pub every_example : EveryExample
every_example = runs_then machineTable (p9 ∷ p10 ∷ []) ∙ ap₂ ◌&&◌ every_example_passes views_pass
