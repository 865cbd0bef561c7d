-- The tests of a pair of views, and the first number that they give, as what document 01's table says of sets of pairs.
use Prim.Native.Nat.{ℕ, zero, suc}
use mathlib.Core.Bool.{Bool, true, false, not, ◌&&◌, cond, true≢false, false≢true, and-eq-true_iff}
use mathlib.Core.Path.{◌≡◌, refl, sym, ap, ◌∙◌, subst}
use mathlib.Core.Logic.{◌↔◌, ◌≢◌, ⊎_elim}
use mathlib.Core.List.{[], ◌++◌}
use Rattle.std.specs.Prelude.{Option, Some, None}
use lib.Dec.{eqb}
use borrow.Author.Tests.{eqb-false}
use Rattle.sets.specs.Members.{has}
use Rattle.sets.specs.Sets.{every}
use Rattle.sets.specs.Immediate.{Inside}
use Rattle.sets.proofs.Laws.{either}
use Rattle.formats.specs.declared.Views.{Views}
use Rattle.formats.specs.Views.{seen_by, value_by}
use Rattle.findings.specs.declared.Finding.{Finding}
use Rattle.findings.specs.declared.Finding.TheVariants.{LacksItself, Apart, Unlike, Disagree}
use Rattle.findings.specs.Findings.{only, View, view_in, same_at, agree, inside, disagree, apart, unlike, breaks, first_finding}
use Rattle.findings.specs.Properties.{Pair, Sees, TwoValues, NeitherInside, SeeAndDiffer, PairGives}
use Rattle.findings.specs.Statements.{TestsOfPairs, DisagreeIsApart}
use Rattle.findings.proofs.First.{none_first}
use Rattle.findings.proofs.Accepts.{is_inside, inside_is, same_value}

-- Facts and the tests that say them.
refuted : {P : Type 0} (b : Bool) → (b ≡ true) ↔ P → (not b ≡ true) ↔ (¬ P)
refuted b e = (
  λ n p. false≢true (sym (ap not (e.1 p)) ∙ n),
  λ f. ⊎_elim (λ t. absurd (f (e.0 t))) (ap not) (either b),
)

fails : {P : Type 0} (b : Bool) → (b ≡ true) ↔ P → ¬ P → b ≡ false
fails b e f = ⊎_elim (λ t. absurd (f (e.0 t))) (λ n. n) (either b)

failed : {P : Type 0} (b : Bool) → (b ≡ true) ↔ P → b ≡ false → ¬ P
failed b e n p = true≢false (sym (e.1 p) ∙ n)

both : {P Q : Type 0} (a b : Bool) → (a ≡ true) ↔ P → (b ≡ true) ↔ Q → ((a && b) ≡ true) ↔ (P × Q)
both a b p q = (
  λ e. let t = (and-eq-true_iff a b).0 e in (p.0 t.0, q.0 t.1),
  λ f. (and-eq-true_iff a b).1 (p.1 f.0, q.1 f.1),
)

some_fails : (k : ℕ) (f : ℕ → Bool) → every k f ≡ false → (i : ℕ) × (f i ≡ false)
unfolding every
some_fails zero f e = absurd (true≢false e)
some_fails (suc k) f e =
    ⊎_elim (λ t. some_fails k f (sym (ap (λ (b : Bool). b && every k f) t) ∙ e)) (λ n. (suc k, n)) (either (f (suc k)))

-- One process that both views name, with different values.
two_by : (a b : Bool) (p q : ℕ) → cond (a && b) (eqb p q) true ≡ false → (a ≡ true) × (b ≡ true) × (p ≢ q)
two_by true true p q e = (refl, refl, eqb-false p q e)
two_by true false p q e = absurd (true≢false e)
two_by false b p q e = absurd (true≢false e)

module _ (v : Views) (i j : ℕ) where
  pub sees_exactly : (has (seen_by v i) j ≡ true) ↔ Sees v i j
  sees_exactly = (λ n. (value_by v i j, record { named = n; holds = refl }), λ s. s.1.named)

  inside_exactly : (inside (view_in v i) (view_in v j) ≡ true) ↔ Inside (Pair v i) (Pair v j)
  inside_exactly = (is_inside v i j, inside_is v i j)

  two_values : disagree (view_in v i) (view_in v j) ≡ true → TwoValues v i j
  unfolding agree
  two_values d =
      let n : agree (view_in v i) (view_in v j) ≡ false
      = ⊎_elim (λ t. absurd (false≢true (sym (ap not t) ∙ d))) (λ n. n) (either (agree (view_in v i) (view_in v j))) in
      let s = some_fails 32 (same_at (view_in v i) (view_in v j)) n in
      let k : ℕ = s.0 in
      let t = two_by (has (seen_by v i) k) (has (seen_by v j) k) (value_by v i k) (value_by v j k) s.1 in
      record {
        process = k;
        one = value_by v i k;
        other = value_by v j k;
        here = record { named = t.0; holds = refl };
        there = record { named = t.1; holds = refl };
        differ = t.2;
      }

  values_two : TwoValues v i j → disagree (view_in v i) (view_in v j) ≡ true
  values_two t =
      ⊎_elim
      (λ a. absurd (t.differ (sym t.here.holds
      ∙ same_value (view_in v i) (view_in v j) t.process a t.here.named t.there.named
      ∙ t.there.holds)))
      (ap not)
      (either (agree (view_in v i) (view_in v j)))

pub is_23 : (v : Views) (i j : ℕ) → (disagree (view_in v i) (view_in v j) ≡ true) ↔ TwoValues v i j
is_23 v i j = (two_values v i j, values_two v i j)

pub is_21 : (v : Views) (i j : ℕ) → (apart (view_in v i) (view_in v j) ≡ true) ↔ NeitherInside v i j
is_21 v i j = both _ _ (refuted _ (inside_exactly v i j)) (refuted _ (inside_exactly v j i))

pub is_22 : (v : Views) (i j : ℕ) → (unlike (view_in v i) (view_in v j) i j ≡ true) ↔ SeeAndDiffer v i j
is_22 v i j =
    let e = both _ _ (both _ _ (sees_exactly v i j) (sees_exactly v j i)) (refuted _ (both _ _ (inside_exactly v i j) (inside_exactly v j i))) in (
      λ t. let s = e.0 t in record { sees = s.0.0; seen = s.0.1; differ = s.1 },
      λ s. e.1 ((s.sees, s.seen), s.differ),
    )

pub tests_of_pairs : TestsOfPairs
tests_of_pairs = record { twenty = λ v i. refuted _ (sees_exactly v i i); twenty_one = is_21; twenty_two = is_22; twenty_three = is_23 }

-- 23 is a break of containment: a view inside another has its values.
pub disagree_is_apart : DisagreeIsApart
disagree_is_apart v i j t = (
  λ s. t.differ (sym (s t.process t.one t.here).holds ∙ t.there.holds),
  λ s. t.differ (sym t.here.holds ∙ (s t.process t.other t.there).holds),
)

-- The first number of a pair.
abbrev number : Bool → Bool → Bool → Option Finding
number a b c = cond a (Some Disagree) (cond b (Some Apart) (cond c (Some Unlike) None))

numbered : (a b c : Bool) → first_finding (only a Disagree ++ only b Apart ++ only c Unlike) ≡ number a b c
numbered true b c = refl
numbered false true c = refl
numbered false false true = refl
numbered false false false = refl

module _ (v : Views) (i j : ℕ) where
  abbrev x : View
  x = view_in v i

  abbrev y : View
  y = view_in v j

  first-number : first_finding (breaks x y i j) ≡ number (disagree x y) (apart x y) (unlike x y i j)
  unfolding breaks
  first-number = numbered (disagree x y) (apart x y) (unlike x y i j)

  tests_give : (a b c : Bool) → disagree x y ≡ a → apart x y ≡ b → unlike x y i j ≡ c → PairGives v i j (number a b c)
  tests_give true b c p q r = (is_23 v i j).0 p
  tests_give false true c p q r = (failed _ (is_23 v i j) p, (is_21 v i j).0 q)
  tests_give false false true p q r = (failed _ (is_23 v i j) p, failed _ (is_21 v i j) q, (is_22 v i j).0 r)
  tests_give false false false p q r = (failed _ (is_23 v i j) p, failed _ (is_21 v i j) q, failed _ (is_22 v i j) r)

  number_is : (k : Option Finding) → PairGives v i j k → number (disagree x y) (apart x y) (unlike x y i j) ≡ k
  number_is (Some Disagree) t = rw ((is_23 v i j).1 t)
  number_is (Some Apart) t = rw (fails _ (is_23 v i j) t.0, (is_21 v i j).1 t.1)
  number_is (Some Unlike) t = rw (fails _ (is_23 v i j) t.0, fails _ (is_21 v i j) t.1, (is_22 v i j).1 t.2)
  number_is None t = rw (fails _ (is_23 v i j) t.0, fails _ (is_21 v i j) t.1, fails _ (is_22 v i j) t.2)
  number_is (Some LacksItself) t = absurd t

  pub pair_gives : (k : Option Finding) → (first_finding (breaks x y i j) ≡ k) ↔ PairGives v i j k
  pair_gives k = (
    λ e. subst (PairGives v i j) (sym first-number ∙ e) (tests_give (disagree x y) (apart x y) (unlike x y i j) refl refl refl),
    λ t. first-number ∙ number_is k t,
  )

  pub none-given : (breaks x y i j ≡ []) ↔ PairGives v i j None
  none-given = (λ e. (pair_gives None).0 (ap first_finding e), λ t. none_first (breaks x y i j) ((pair_gives None).1 t))
