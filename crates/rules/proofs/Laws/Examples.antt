-- Document 01's examples of the machine, computed of the definitions.
use mathlib.Core.Path.{◌≡◌, refl, ap, ◌∙◌}
use mathlib.Core.Bool.{Bool, true, false, ◌&&◌, cond, false≢true}
use mathlib.Core.List.{List, [], ◌∷◌, ◌++◌}
use Prim.Native.Nat.{ℕ}
use lib.Dec.{leb, lit≤, lit<}
use borrow.Author.Tests.{leb-true}
use Rattle.sets.specs.Members.{has, count, size}
use Rattle.sets.specs.Sets.{plus, first, every, within}
use Rattle.rules.specs.declared.Stage.TheVariants.{Running}
use Rattle.rules.specs.declared.Answer.TheVariants.{OutOfRange}
use Rattle.rules.specs.State.{wrote, with_register}
use Rattle.rules.specs.Shape.{Held, shaped, shaped_process, shaped_register}
use Rattle.rules.specs.Calls.{done, refused, fresh, new_of, reading, settle, access, row_values}
use Rattle.rules.specs.Statements.{Meets}
use Rattle.rules.specs.Examples.{Example, Start, new, state, started, calls_from, pairs_of, same_pairs, holds, hold, passes_by, all_pass, crowded, lonely}
use Rattle.rules.specs.Examples.{p1, p2, p3, p4, p5, p6, p7, p8, refusals, others, table, EveryExamplePasses}
use Rattle.rules.proofs.Laws.Small.{and_first, and_second}
use Rattle.rules.proofs.Laws.Shape.{shaped_record}
use Rattle.rules.proofs.Laws.Keeps.{meets_fresh, held_fresh, held_process, held_register}
use Rattle.rules.proofs.Clauses.{surely}
use Rattle.rules.proofs.Laws.Shapes.{surely_shaped}
use Rattle.rules.proofs.Laws.Bare.{bare_steps, bare_from, bare_to, bare_look, passes_bare}

-- P8's state is well shaped, by the test that is cheap to compute.
pub crowded-shaped : shaped crowded ≡ true
unfolding surely shaped_process shaped_register every within first has plus count size wrote
crowded-shaped = surely_shaped crowded refl

crowded_meets : Meets 2 crowded
crowded_meets =
    record {
      size = refl;
      held =
          held_process _ (held_process _ registers 1 (record { stage = Running 1 2 1; value = 7 }) (lit< tt)) 2
          (record { stage = Running 1 1 0; value = 9 }) (lit< tt);
      shape = shaped_record crowded crowded-shaped;
    }
  where
    registers : Held (with_register (with_register (with_register (with_register (fresh 2) 2 1 7) 2 2 9) 1 1 7) 1 2 9)
    registers = held_register _ (held_register _ (held_register _ (held_register _ (held_fresh 2) 2 1 7) 2 2 9) 1 1 7) 1 2 9

-- So is the one with a count of 0.
pub lonely-shaped : shaped lonely ≡ true
unfolding surely shaped_process shaped_register every within first has plus count size wrote
lonely-shaped = surely_shaped lonely refl

lonely_meets : Meets 2 lonely
lonely_meets =
    record {
      size = refl;
      held = held_process _ (held_register _ (held_register _ (held_fresh 2) 2 1 7) 1 1 7) 1 (record { stage = Running 1 2 0; value = 7 }) (lit< tt);
      shape = shaped_record lonely lonely-shaped;
    }

-- An example starts with a new machine, whatever its n, or with a state that is well shaped.
abbrev Ready : Start → Type 0
Ready (new n) = Unit {0}
Ready (state m) = (n : ℕ) × Meets n m

abbrev AllReady : List Example → Type 0
AllReady [] = Unit {0}
AllReady (r ∷ rs) = Ready r.start × AllReady rs

abbrev is_new : Start → Bool
is_new (new n) = true
is_new (state m) = false

new_ready : (s : Start) → is_new s ≡ true → Ready s
new_ready (new n) e = tt
new_ready (state m) e = absurd (false≢true e)

new_meets : (n : ℕ) → (k : ℕ) × Meets k (new_of n).machine
unfolding new_of
new_meets n = go (leb 1 n) (leb n 32) refl refl
  where
    go : (a b : Bool) → leb 1 n ≡ a → leb n 32 ≡ b → (k : ℕ) × Meets k (cond (a && b) (done (fresh n)) (refused OutOfRange (fresh 1))).machine
    go true true lo hi = (n, meets_fresh n (leb-true 1 n lo) (leb-true n 32 hi))
    go true false lo hi = (1, meets_fresh 1 (lit≤ tt) (lit≤ tt))
    go false b lo hi = (1, meets_fresh 1 (lit≤ tt) (lit≤ tt))

start_meets : (s : Start) → Ready s → (k : ℕ) × Meets k (started s).machine
start_meets (new n) r = new_meets n
start_meets (state m) r = r

unfoldable all_pass_bare : List Example → Bool
all_pass_bare [] = true
all_pass_bare (r ∷ rs) = passes_by bare_to bare_look r && all_pass_bare rs

all_bare : (rs : List Example) → AllReady rs → all_pass rs ≡ all_pass_bare rs
unfolding all_pass all_pass_bare
all_bare [] h = refl
all_bare (r ∷ rs) h =
    ap (λ b. b && all_pass rs) (passes_bare (start_meets r.start h.0).0 r (start_meets r.start h.0).1)
    ∙ ap (λ b. passes_by bare_to bare_look r && b) (all_bare rs h.1)

-- The bare run, by computation.
table_computes : all_pass_bare table ≡ true
unfolding all_pass_bare hold holds calls_from bare_to bare_look bare_from bare_steps new_of reading settle access row_values pairs_of same_pairs has plus count size
table_computes = refl

abbrev all_new : List Example → Bool
all_new [] = true
all_new (r ∷ rs) = is_new r.start && all_new rs

news_ready : (rs more : List Example) → all_new rs ≡ true → AllReady more → AllReady (rs ++ more)
news_ready [] more e h = h
news_ready (r ∷ rs) more e h =
    (new_ready r.start (and_first (is_new r.start) (all_new rs) e), news_ready rs more (and_second (is_new r.start) (all_new rs) e) h)

all_ready : AllReady table
all_ready =
    news_ready (p1 ++ p2 ++ p3 ++ p4 ++ p5 ++ p6 ++ p7) (p8 ++ refusals ++ others) refl
    ((2, crowded_meets), ((2, crowded_meets), ((2, lonely_meets), ((2, lonely_meets), news_ready (refusals ++ others) [] refl tt))))

pub every_example_passes : EveryExamplePasses
every_example_passes = all_bare table all_ready ∙ table_computes
