-- Two views that give no process different values: containment of the pairs is containment of the sets.
use Prim.Native.Nat.{ℕ}
use mathlib.Core.Bool.{Bool, true, false, not, ◌&&◌, cond}
use mathlib.Core.Path.{◌≡◌, refl, sym}
use mathlib.Core.List.{List, ◌++◌}
use Rattle.std.specs.Prelude.{Some}
use lib.Dec.{eqb}
use borrow.Author.Tests.{eq-eqb, eqb-true}
use Rattle.sets.specs.Members.{has}
use Rattle.sets.specs.Sets.{within}
use Rattle.sets.proofs.Laws.{every_true, true_every, every_ext}
use Rattle.findings.specs.declared.Finding.{Finding}
use Rattle.findings.specs.declared.Finding.TheVariants.{Apart, Unlike, Disagree}
use Rattle.findings.specs.Findings.{only, View, same_at, agree, inside_at, inside, facing, breaks, first_finding}

-- the tests of one process, by whether each view names it
as_set : (a b e : Bool) → cond (a && b) e true ≡ true → cond a (b && e) true ≡ cond a b true
as_set false b e h = refl
as_set true false e h = refl
as_set true true e h = h

turned_round : (a b : ℕ) → eqb a b ≡ true → eqb b a ≡ true
turned_round a b e = eq-eqb b a (sym (eqb-true a b e))

swapped : (a b : Bool) (p q : ℕ) → cond (a && b) (eqb p q) true ≡ true → cond (b && a) (eqb q p) true ≡ true
swapped false false p q h = refl
swapped false true p q h = refl
swapped true false p q h = refl
swapped true true p q h = turned_round p q h

pub agree_swapped : (x y : View) → agree x y ≡ true → agree y x ≡ true
unfolding agree
agree_swapped x y e =
    true_every 32 (same_at y x) (λ k a b. swapped (has x.set k) (has y.set k) (x.value k) (y.value k) (every_true 32 (same_at x y) e k a b))

-- where two views agree, the pairs of one are in the other exactly if its processes are
pub inside-within : (x y : View) → agree x y ≡ true → inside x y ≡ within x.set y.set
unfolding agree inside within
inside-within x y e =
    every_ext 32 (inside_at x y) (λ k. cond (has x.set k) (has y.set k) true)
    (λ k a b. as_set (has x.set k) (has y.set k) (eqb (x.value k) (y.value k)) (every_true 32 (same_at x y) e k a b))

-- the findings of a pair, from the test of 23 and the sets
abbrev pub nestings : Bool → Bool → Bool → List Finding
nestings one other facing = only (not one && not other) Apart ++ only (facing && not (one && other)) Unlike

pub breaks_agreeing : (x y : View) (i j : ℕ) → agree x y ≡ true
    → breaks x y i j ≡ nestings (within x.set y.set) (within y.set x.set) (facing x y i j)
unfolding breaks
breaks_agreeing x y i j e = rw (e, inside-within x y e, inside-within y x (agree_swapped x y e))

pub breaks_disagreeing : (x y : View) (i j : ℕ) → agree x y ≡ false → first_finding (breaks x y i j) ≡ Some Disagree
unfolding breaks
breaks_disagreeing x y i j e = rw e
