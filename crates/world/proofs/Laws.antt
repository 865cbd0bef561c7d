-- One list of calls after another; accepted and refused; after some prefix.
use mathlib.Core.Path.{◌≡◌, refl, sym, ap, ◌∙◌}
use mathlib.Core.Logic.{◌↔◌}
use mathlib.Core.Bool.{Bool, true, false, not, ◌||◌}
use mathlib.Core.List.{List, [], ◌∷◌, ◌++◌}
use Prim.Native.Nat.{◌+◌}
use native.Mathlib.Omega.{arith}
use lib.ListN.{length}
use Rattle.sets.specs.Members.{tick}
use Rattle.world.specs.Calls.{Call, Taker, leaves, counts, ever}
use Rattle.world.specs.Counts.{is_accepted, is_refused, AfterSome}
use Rattle.world.specs.Statements.{OfEveryTaker}

module _ {S : Type 0} (t : Taker S) where
  pub leaves-append : (s : S) (cs ds : List Call) → leaves t s (cs ++ ds) ≡ leaves t (leaves t s cs) ds
  unfolding leaves
  leaves-append s [] ds = refl
  leaves-append s (c ∷ cs) ds = leaves-append (t.after s c) cs ds

  -- one call more, at the end
  pub leaves_one : (s : S) (cs : List Call) (c : Call) → leaves t s (cs ++ (c ∷ [])) ≡ t.after (leaves t s cs) c
  unfolding leaves
  leaves_one s [] c = refl
  leaves_one s (d ∷ cs) c = leaves_one (t.after s d) cs c

  pub counts-append : (test : Call → Bool → Bool) (s : S) (cs ds : List Call)
      → counts t test s (cs ++ ds) ≡ counts t test s cs + counts t test (leaves t s cs) ds
  unfolding leaves counts
  counts-append test s [] ds = omega arith
  counts-append test s (c ∷ cs) ds = omega (arith, counts-append test (t.after s c) cs ds)

  both : (b : Bool) → tick b + tick (not b) ≡ 1
  both true = refl
  both false = refl

  pub accepted_or_refused : (s : S) (cs : List Call) → counts t is_accepted s cs + counts t is_refused s cs ≡ length cs
  unfolding counts
  accepted_or_refused s [] = refl
  accepted_or_refused s (c ∷ cs) = omega (arith, both (t.accepts s c), accepted_or_refused (t.after s c) cs)

  -- nothing before, or the first call before
  here : (test : S → Bool) (s : S) (cs : List Call) → test s ≡ true → AfterSome t test s cs
  unfolding leaves
  here test s cs e = record { before = []; rest = cs; whole = refl; there = e }

  later : (test : S → Bool) (s : S) (c : Call) (cs : List Call) → AfterSome t test (t.after s c) cs → AfterSome t test s (c ∷ cs)
  unfolding leaves
  later test s c cs a = record { before = c ∷ a.before; rest = a.rest; whole = ap (λ (l : List Call). c ∷ l) a.whole; there = a.there }

  ever_some : (test : S → Bool) (s : S) (cs : List Call) → ever t test s cs ≡ true → AfterSome t test s cs
  unfolding ever
  ever_some test s [] e = here test s [] e
  ever_some test s (c ∷ cs) e = go (test s) refl e (ever_some test (t.after s c) cs)
    where
      go : (b : Bool) → test s ≡ b → (b || ever t test (t.after s c) cs) ≡ true
          → (ever t test (t.after s c) cs ≡ true → AfterSome t test (t.after s c) cs) → AfterSome t test s (c ∷ cs)
      go true q r more = here test s (c ∷ cs) q
      go false q r more = later test s c cs (more r)

  ever-here : (test : S → Bool) (s : S) (cs : List Call) → test s ≡ true → ever t test s cs ≡ true
  unfolding ever
  ever-here test s [] e = e
  ever-here test s (c ∷ cs) e = ap (λ b. b || ever t test (t.after s c) cs) e

  or_true : (b : Bool) → (b || true) ≡ true
  or_true true = refl
  or_true false = refl

  ever_prefix : (test : S → Bool) (s : S) (before rest : List Call) → test (leaves t s before) ≡ true → ever t test s (before ++ rest) ≡ true
  unfolding ever leaves
  ever_prefix test s [] rest e = ever-here test s rest e
  ever_prefix test s (c ∷ cs) rest e = ap (λ b. test s || b) (ever_prefix test (t.after s c) cs rest e) ∙ or_true (test s)

  pub ever_is_after_some : (test : S → Bool) (s : S) (cs : List Call) → (ever t test s cs ≡ true) ↔ AfterSome t test s cs
  ever_is_after_some test s cs =
      (ever_some test s cs, λ a. ap (ever t test s) (sym a.whole) ∙ ever_prefix test s a.before a.rest a.there)

  pub of_every_taker : OfEveryTaker S t
  of_every_taker = record { state = leaves-append; counted = counts-append; calls = accepted_or_refused; prefix = ever_is_after_some }
