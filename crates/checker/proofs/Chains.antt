-- Chains of iterators over the processes of a range, whose closure answers a definition's value for each: `find_map` gives the first finding of the
-- parts, and `all` the test of every process.
use Rattle.std.proofs.Common.{◌≡◌, ℕ, ◌+◌, ◌-◌, ◌<◌, ◌≤◌, Bool, true, false, List, sym, ap, ◌∙◌, subst, arith}
use Rattle.std.specs.Prelude.{Option, Some, None, option_map, IfSome, MatchOption, IsTrue}
use Rattle.std.specs.Option.{IsSomeAnd}
use Rattle.std.specs.Bool.{MatchBool}
use Rattle.std.specs.Iterator.Runs.{Run, SomeRun, ItemsCountUp, CallKeepsClosure, AllItemsGive, AnyItemGives, IsFirstToGive}
use Rattle.std.specs.Range.{range_inclusive_start, range_inclusive_end, range_inclusive_exhausted}
use Rattle.std.specs.declared.ops.Range.{Range}
use Rattle.std.specs.declared.ops.RangeInclusive.{RangeInclusive}
use Rattle.std.proofs.iter.Yields.{nat_range_steps}
use Rattle.std.proofs.iter.runs.Sources.{nat_range_inclusive_steps, range_runs, inclusive_listed}
use Rattle.std.proofs.lemmas.Option.{none-some, same_Some}
use mathlib.Core.Logic.{⊎_elim}
use denote.Param.Members.{Mut, Called}
use Rattle.sets.specs.Sets.{every}
use Rattle.sets.proofs.Laws.{either, every_true, true_every}
use Rattle.text.specs.Parts.{joined}
use Rattle.findings.specs.Findings.{first_finding}
use Rattle.findings.proofs.First.{first_joined}

-- one test that fails is enough
pub every_fails : (n : ℕ) (f : ℕ → Bool) (k : ℕ) → 1 ≤ k → k ≤ n → f k ≡ false → every n f ≡ false
every_fails n f k a b h =
    ⊎_elim (λ t. let z : ◌≡◌ {A = Bool} true false = sym (every_true n f t k a b) ∙ h in t ∙ z) (λ e. e) (either (every n f))

-- what is said of an item, said of the process that it is
if_item : (o : Option ℕ) (i : ℕ) (P : ℕ → Type 0) → option_map (λ y. y) o ≡ Some i → IfSome o P → P i
if_item None i P e h = absurd (none-some i e)
if_item (Some x) i P e h = subst P (same_Some x i e) h

and_item : (o : Option ℕ) (i : ℕ) (P : ℕ → Type 0) → option_map (λ y. y) o ≡ Some i → IsSomeAnd o P → P i
and_item None i P e h = absurd h
and_item (Some x) i P e h = subst P (same_Some x i e) h

-- `a..=b` and `a..b` count the k processes from a on
abbrev Counts : {S : Type 0} → (S → Option ℕ → S → Type 0) → S → ℕ → ℕ → Type 0
Counts steps s a k = (p : Run steps) → p.from ≡ s → ItemsCountUp p a (a + k)

pub inclusive : {s : RangeInclusive ℕ} (a k : ℕ) → range_inclusive_exhausted s ≡ false → range_inclusive_start s ≡ a
    → range_inclusive_end s + 1 ≡ a + k → Counts nat_range_inclusive_steps s a k
inclusive a k unspent start end p o =
    let l = inclusive_listed p p.seen in
    let from : l.0 ≡ a = l.2 ∙ ap range_inclusive_start o ∙ start in
    let to : l.1 ≡ a + k = l.3 ∙ ap (λ r. range_inclusive_end r + 1) o ∙ end in
    subst (ItemsCountUp p a) to (subst (λ (x : ℕ). ItemsCountUp p x l.1) from (l.4 (ap range_inclusive_exhausted o ∙ unspent)).0)

pub half_open : (a k : ℕ) → Counts nat_range_steps (record { start = a; end = a + k }) a k
half_open a k p o = subst (λ (r : Range ℕ). ItemsCountUp p r.start r.end) o (range_runs p p.seen)

-- a run over k processes from a on
module _ {S : Type 0} {steps : S → Option ℕ → S → Type 0} {s : S} (a k : ℕ) (counts : Counts steps s a k) where
  item : (p : Run steps) → p.from ≡ s → (i : ℕ) → a ≤ i → i < a + p.len → option_map (λ y. y) (p.at (i - a)) ≡ Some i
  item p o i low high = let e : a + (i - a) ≡ i = omega arith in (counts p o).3 (i - a) (omega arith) ∙ ap Some e

  module _ {F A : Type 0} {g : Mut F (ℕ × Unit {0}) (Option A)} {f : F} (parts : ℕ → List A)
      (keeps : CallKeepsClosure g f) (answers : (x : ℕ) (q : Option A) → Called g f (x, tt) q f → q ≡ first_finding (parts x)) where
    pub finds : (r : Option A)
        → SomeRun steps s (λ p.
        MatchOption r (IsTrue p.whole × AllItemsGive p g f None) (λ y. (i : ℕ) × (i < p.len) × (p.len ≡ i + 1) × IsFirstToGive p g f (Some y) None i))
        → r ≡ first_finding (joined a k parts)
    finds None (p, o, h) =
        let whole : p.len ≡ k = (counts p o).1 h.0 ∙ omega arith in
        first_joined a k parts None
        (λ i low high. sym (answers i None
        (if_item (p.at (i - a)) i (λ x. Called g f (x, tt) None f) (item p o i low (omega arith)) (h.1 keeps (i - a)))))
    finds (Some y) (p, o, h) =
        let n : ℕ = h.0 in
        let q = h.3 keeps in
        let room : p.len ≤ a + k - a = (counts p o).0 in
        first_joined a k parts (Some y) (
          a + n,
          omega arith,
          omega (arith, h.1),
          sym (answers (a + n) (Some y) (and_item (p.at n) (a + n) (λ x. Called g f (x, tt) (Some y) f) ((counts p o).3 n h.1) q.0)),
          λ i low high. sym (answers i None
              (and_item (p.at (i - a)) i (λ x. Called g f (x, tt) None f) (item p o i low (omega (arith, h.1))) (q.1 (i - a) (omega arith)))),
        )

  module _ {F : Type 0} {g : Mut F (ℕ × Unit {0}) Bool} {f : F} (one : a ≡ 1) (test : ℕ → Bool)
      (keeps : CallKeepsClosure g f) (answers : (x : ℕ) (q : Bool) → Called g f (x, tt) q f → q ≡ test x) where
    pub checks : (r : Bool) → SomeRun steps s (λ p. MatchBool r (IsTrue p.whole × AllItemsGive p g f true) (AnyItemGives p g f false))
        → r ≡ every k test
    checks true (p, o, h) =
        let whole : p.len ≡ k = (counts p o).1 h.0 ∙ omega arith in
        sym (true_every k test
        (λ i low high. sym (answers i true
        (if_item (p.at (i - a)) i (λ x. Called g f (x, tt) true f) (item p o i (omega arith) (omega arith)) (h.1 keeps (i - a))))))
    checks false (p, o, h) =
        let q = h keeps in
        let n : ℕ = q.0 in
        let room : p.len ≤ a + k - a = (counts p o).0 in
        sym (every_fails k test (a + n) (omega arith) (omega (arith, q.1))
        (sym (answers (a + n) false (and_item (p.at n) (a + n) (λ x. Called g f (x, tt) false f) ((counts p o).3 n q.1) q.2))))
