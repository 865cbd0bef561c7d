-- The checker's answer names exactly the first break in document 01's order, and the first of its numbers.
use Prim.Native.Nat.{ℕ, zero, suc, ◌+◌, ◌-◌, ◌≤◌, ◌<◌}
use mathlib.Core.Bool.{Bool, true, false, not, ◌&&◌, cond, false≢true, and-eq-true_iff}
use mathlib.Core.Path.{◌≡◌, refl, sym, ap, ap₂, ◌∙◌, subst}
use mathlib.Core.Logic.{◌⊎◌, inl, inr, ⊎_elim}
use mathlib.Core.List.{List, [], ◌∷◌, ◌++◌, map}
use Rattle.std.specs.Prelude.{Some, None, option_map}
use Rattle.std.proofs.lemmas.Option.{none-some, same_Some}
use native.Mathlib.Nat.{eq-or-lt_of_le}
use native.Mathlib.Omega.{arith}
use Rattle.sets.specs.Members.{has}
use Rattle.sets.proofs.Laws.{either, has-known, has_zero}
use Rattle.formats.specs.declared.Views.{Views}
use Rattle.formats.specs.Views.{owns, seen_by, none_of}
use Rattle.text.specs.Parts.{joined}
use Rattle.findings.specs.declared.Finding.{Finding}
use Rattle.findings.specs.declared.Finding.TheVariants.{LacksItself}
use Rattle.findings.specs.declared.Found.{Found}
use Rattle.findings.specs.Findings.{found, only, view_in, breaks}
use Rattle.findings.specs.Findings.{of_one, of_pair, of_ones, of_pairs, findings, first_finding, check_of}
use Rattle.findings.specs.Properties.{Has, Sees, FirstAlone, FirstPair, YesIsNoFinding, NamesTheFirst}
use Rattle.findings.specs.Statements.{NoViewsAccepted}
use Rattle.findings.proofs.First.{first_here, at_found, first_later, first_or_none, first_map, none_first}
use Rattle.findings.proofs.Accepts.{joined_parts, joined_empty, pair_empty, empty_pair, one_has, has_one, not_found}
use Rattle.findings.proofs.Pairs.{sees_exactly, pair_gives, none-given}

pub yes_is_no_finding : YesIsNoFinding
unfolding check_of
yes_is_no_finding v = (none_first (findings v), ap first_finding)

nobody-accepted : (v : Views) → ((i : ℕ) → Has v i → ⊥) → check_of v ≡ None
nobody-accepted v n =
    (yes_is_no_finding v).1 (not_found v (record { selves = λ i a. absurd (n i a); pairs = λ i j _ a _. absurd (n i a) }))

pub no_views_accepted : NoViewsAccepted
no_views_accepted = record { nobody = nobody-accepted; none = λ n. nobody-accepted (none_of n) (λ i a. false≢true (sym (has_zero i) ∙ a)) }

-- The first of lists that are joined: which of them has it.
record At (a k : ℕ) (f : ℕ → List Found) (g : Found) : Type 0 where
  index : ℕ
  low : a ≤ index
  high : index < a + k
  here : first_finding (f index) ≡ Some g
  before : (i : ℕ) → a ≤ i → i < index → f i ≡ []

found_at : (a k : ℕ) (f : ℕ → List Found) (g : Found) → first_finding (joined a k f) ≡ Some g → At a k f g
unfolding joined
found_at a zero f g e = absurd (none-some g e)
found_at a (suc k) f g e =
    ⊎_elim
    (λ q. record {
      index = a;
      low = omega arith;
      high = omega arith;
      here = q.1 ∙ sym (first_here (f a) (joined (suc a) k f) q.0 q.1) ∙ e;
      before = λ i l h. absurd (omega arith);
    })
    (λ q. let s = found_at (suc a) k f g (sym (first_later (f a) (joined (suc a) k f) q) ∙ e) in
    record {
      index = s.index;
      low = omega (arith, s.low);
      high = omega (arith, s.high);
      here = s.here;
      before = λ i l h.
          ⊎_elim (λ z. subst (λ (x : ℕ). f x ≡ []) z (none_first (f a) q)) (λ z. s.before i z h) (eq-or-lt_of_le l);
    })
    (first_or_none (f a))

same_parts : (q k : Finding) (g i h j : ℕ) → Some (found q g h) ≡ Some (found k i j) → (q ≡ k) × (g ≡ i) × (h ≡ j)
same_parts q k g i h j e =
    let s = same_Some (found q g h) (found k i j) e in (ap (λ (f : Found). f.finding) s, ap (λ (f : Found). f.i) s, ap (λ (f : Found). f.j) s)

-- The finding of one process.
one_finding : (o l : Bool) (h i j : ℕ) (k : Finding)
    → first_finding (map (λ q. found q h 0) (only (o && not l) LacksItself)) ≡ Some (found k i j)
    → (o ≡ true) × (l ≡ false) × (k ≡ LacksItself) × (h ≡ i) × (j ≡ 0)
one_finding true false h i j k e = let s = same_parts LacksItself k h i 0 j e in (refl, refl, sym s.0, s.1, sym s.2)
one_finding true true h i j k e = absurd (none-some (found k i j) e)
one_finding false l h i j k e = absurd (none-some (found k i j) e)

-- The finding of a pair: the first of its numbers.
pair_finding : (o : Bool) (ks : List Finding) (g h i j : ℕ) (k : Finding)
    → first_finding (cond o (map (λ q. found q g h) ks) []) ≡ Some (found k i j)
    → (o ≡ true) × (first_finding ks ≡ Some k) × (g ≡ i) × (h ≡ j)
pair_finding true (q ∷ ks) g h i j k e = let s = same_parts q k g i h j e in (refl, ap Some s.0, s.1, s.2)
pair_finding true [] g h i j k e = absurd (none-some (found k i j) e)
pair_finding false ks g h i j k e = absurd (none-some (found k i j) e)

finding_pair : (o : Bool) (ks : List Finding) (i j : ℕ) (k : Finding) → o ≡ true → first_finding ks ≡ Some k
    → first_finding (cond o (map (λ q. found q i j) ks) []) ≡ Some (found k i j)
finding_pair true ks i j k o e = first_map (λ q. found q i j) ks ∙ ap (option_map (λ q. found q i j)) e
finding_pair false ks i j k o e = absurd (false≢true o)

-- From the answer to the break.
alone-first : (v : Views) (k : Finding) (i j : ℕ) → first_finding (of_ones v) ≡ Some (found k i j) → (k ≡ LacksItself) × (j ≡ 0) × FirstAlone v i
unfolding of_one
alone-first v k i j e =
    let s : At 1 32 (of_one v) (found k i j) = found_at 1 32 (of_one v) (found k i j) e in
    let h : ℕ = s.index in
    let p = one_finding (owns v h) (has (seen_by v h) h) h i j k s.here in
    let own : Has v i = subst (λ (x : ℕ). Has v x) p.3 p.0 in
    let gone : has (seen_by v i) i ≡ false = subst (λ (x : ℕ). has (seen_by v x) x ≡ false) p.3 p.1 in
    let before : (x : ℕ) → x < i → Has v x → Sees v x x
    = λ x l o. (sees_exactly v x x).0 (one_has v x (s.before x (has-known v.own x o).0 (omega (arith, p.3))) o) in
    (p.2, p.4, record { owner = own; missing = λ t. false≢true (sym gone ∙ (sees_exactly v i i).1 t); before = before })

pairs_first : (v : Views) (k : Finding) (i j : ℕ) → of_ones v ≡ []
    → first_finding (joined 1 32 (of_pairs v)) ≡ Some (found k i j) → FirstPair v k i j
unfolding of_pair
pairs_first v k i j none e =
    let s : At 1 32 (of_pairs v) (found k i j) = found_at 1 32 (of_pairs v) (found k i j) e in
    let g : ℕ = s.index in
    let u : At (suc g) (32 - g) (of_pair v g) (found k i j) = found_at (suc g) (32 - g) (of_pair v g) (found k i j) s.here in
    let h : ℕ = u.index in
    let p = pair_finding (owns v g && owns v h) (breaks (view_in v g) (view_in v h) g h) g h i j k u.here in
    let o = (and-eq-true_iff (owns v g) (owns v h)).0 p.0 in
    let eg : g ≡ i = p.2 in
    let eh : h ≡ j = p.3 in
    let first : first_finding (breaks (view_in v i) (view_in v j) i j) ≡ Some k
    = subst (λ (y : ℕ). first_finding (breaks (view_in v i) (view_in v y) i y) ≡ Some k) eh
    (subst (λ (x : ℕ). first_finding (breaks (view_in v x) (view_in v h) x h) ≡ Some k) eg p.1) in
    record {
      selves = λ x ox.
          let q = has-known v.own x ox in
          (sees_exactly v x x).0 (one_has v x (joined_parts 1 32 (of_one v) none x q.0 (omega arith)) ox);
      owner = subst (λ (x : ℕ). Has v x) eg o.0;
      other = subst (λ (x : ℕ). Has v x) eh o.1;
      order = omega (arith, u.low, eg, eh);
      number = (pair_gives v i j (Some k)).0 first;
      before = λ a b order l oa ob.
          let qa = has-known v.own a oa in
          let qb = has-known v.own b ob in
          (none-given v a b).0 (pair_empty v a b oa ob
          (⊎_elim
          (λ z. joined_parts (suc a) (32 - a) (of_pair v a) (s.before a qa.0 (omega (arith, eg))) b l (omega arith))
          (λ z. let inner : of_pair v g b ≡ [] = u.before b (omega (arith, eg)) (omega (arith, eh)) in
          subst (λ (x : ℕ). of_pair v x b ≡ []) (eg ∙ sym z.0) inner)
          order));
    }

-- From the break to the answer.
alone_answers : (v : Views) (i : ℕ) → FirstAlone v i → check_of v ≡ Some (found LacksItself i 0)
unfolding check_of findings of_one
alone_answers v i f =
    let q = has-known v.own i f.owner in
    let gone : has (seen_by v i) i ≡ false
    = ⊎_elim (λ s. absurd (f.missing ((sees_exactly v i i).0 s))) (λ n. n) (either (has (seen_by v i) i)) in
    let b : (owns v i && not (has (seen_by v i) i)) ≡ true = ap₂ (λ (x y : Bool). x && not y) f.owner gone in
    let g : Found = found LacksItself i 0 in
    let here : first_finding (of_one v i) ≡ Some g = ap (λ (x : Bool). first_finding (map (λ k. found k i 0) (only x LacksItself))) b in
    first_here (of_ones v) (joined 1 32 (of_pairs v)) g
    (at_found 1 32 (of_one v) i g q.0 (omega arith) here (λ h l m. has_one v h (λ o. (sees_exactly v h h).1 (f.before h m o))))

pair_answers : (v : Views) (k : Finding) (i j : ℕ) → FirstPair v k i j → check_of v ≡ Some (found k i j)
unfolding check_of findings of_pair
pair_answers v k i j f =
    let q = has-known v.own i f.owner in
    let r = has-known v.own j f.other in
    let g : Found = found k i j in
    let here : first_finding (of_pair v i j) ≡ Some g
    = finding_pair (owns v i && owns v j) (breaks (view_in v i) (view_in v j) i j) i j k (ap₂ ◌&&◌ f.owner f.other)
    ((pair_gives v i j (Some k)).1 f.number) in
    let row : first_finding (of_pairs v i) ≡ Some g
    = at_found (suc i) (32 - i) (of_pair v i) j g f.order (omega (arith, f.order)) here
    (λ h l m. empty_pair v i h (λ p q. (none-given v i h).1 (f.before i h (inr (refl, m)) l p q))) in
    let all : first_finding (joined 1 32 (of_pairs v)) ≡ Some g
    = at_found 1 32 (of_pairs v) i g q.0 (omega arith) row
    (λ x l m. joined_empty (suc x) (32 - x) (of_pair v x) (λ h a b. empty_pair v x h (λ p q. (none-given v x h).1 (f.before x h (inl m) a p q)))) in
    let none : of_ones v ≡ [] = joined_empty 1 32 (of_one v) (λ h l m. has_one v h (λ o. (sees_exactly v h h).1 (f.selves h o))) in
    ap (λ l. first_finding (l ++ joined 1 32 (of_pairs v))) none ∙ all

answered : (v : Views) (k : Finding) (i j : ℕ) → check_of v ≡ Some (found k i j)
    → ((k ≡ LacksItself) × (j ≡ 0) × FirstAlone v i) ⊎ FirstPair v k i j
unfolding check_of findings
answered v k i j e =
    ⊎_elim
    (λ q. inl (alone-first v k i j (q.1 ∙ sym (first_here (of_ones v) (joined 1 32 (of_pairs v)) q.0 q.1) ∙ e)))
    (λ q. inr (pairs_first v k i j (none_first (of_ones v) q) (sym (first_later (of_ones v) (joined 1 32 (of_pairs v)) q) ∙ e)))
    (first_or_none (of_ones v))

pub names_the_first : NamesTheFirst
names_the_first v k i j = (
  answered v k i j,
  ⊎_elim
      (λ p. alone_answers v i p.2 ∙ ap₂ (λ (x : Finding) (y : ℕ). Some (found x i y)) (sym p.0) (sym p.1))
      (pair_answers v k i j),
)
