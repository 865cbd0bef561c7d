-- The checker finds nothing exactly when the three properties hold of the views as sets of pairs.
use Prim.Native.Nat.{ℕ, zero, suc, ◌+◌, ◌-◌, ◌≤◌, ◌<◌}
use mathlib.Core.Bool.{Bool, true, false, not, ◌&&◌, cond, false≢true, and-eq-true_iff}
use mathlib.Core.Path.{◌≡◌, refl, sym, ap, ap₂, ◌∙◌, subst}
use mathlib.Core.Logic.{◌⊎◌, inl, inr, ⊎_elim}
use mathlib.Core.List.{List, [], ◌∷◌, ◌++◌, map}
use native.Mathlib.Nat.{eq-or-lt_of_le}
use native.Mathlib.Decide.{dec_lt}
use native.Mathlib.Omega.{arith}
use lib.Dec.{eqb}
use borrow.Author.Tests.{eq-eqb, eqb-true}
use Rattle.sets.specs.Members.{has}
use Rattle.sets.specs.Immediate.{Inside}
use Rattle.sets.proofs.Laws.{either, every_true, true_every, has-known}
use Rattle.formats.specs.declared.Views.{Views}
use Rattle.formats.specs.Views.{owns, seen_by, value_by}
use Rattle.text.specs.Parts.{joined}
use Rattle.findings.specs.declared.Finding.{Finding}
use Rattle.findings.specs.declared.Finding.TheVariants.{LacksItself, Apart, Unlike, Disagree}
use Rattle.findings.specs.declared.Found.{Found}
use Rattle.findings.specs.Findings.{found, only, View, view_in, same_at, agree, inside_at, inside, facing, breaks}
use Rattle.findings.specs.Findings.{of_one, of_pair, of_ones, of_pairs, findings}
use Rattle.findings.specs.Properties.{Has, Pair, Obeys, AcceptsExactly}
use Rattle.findings.proofs.Agreement.{agree_swapped}

-- Parts of an empty list are empty, and empty parts make an empty list.
pub empty_left : {A : Type 0} (l m : List A) → l ++ m ≡ [] → l ≡ []
empty_left [] m e = refl
empty_left (x ∷ xs) m e = cc

pub empty_right : {A : Type 0} (l m : List A) → l ++ m ≡ [] → m ≡ []
empty_right [] m e = e
empty_right (x ∷ xs) m e = cc

pub joined_parts : {A : Type 0} (a k : ℕ) (f : ℕ → List A) → joined a k f ≡ [] → (i : ℕ) → a ≤ i → i < a + k → f i ≡ []
unfolding joined
joined_parts a zero f e i l h = absurd (omega arith)
joined_parts a (suc k) f e i l h =
    ⊎_elim
    (λ q. subst (λ (x : ℕ). f x ≡ []) q (empty_left (f a) (joined (suc a) k f) e))
    (λ q. joined_parts (suc a) k f (empty_right (f a) (joined (suc a) k f) e) i q (omega arith))
    (eq-or-lt_of_le l)

pub joined_empty : {A : Type 0} (a k : ℕ) (f : ℕ → List A) → ((i : ℕ) → a ≤ i → i < a + k → f i ≡ []) → joined a k f ≡ []
unfolding joined
joined_empty a zero f h = refl
joined_empty a (suc k) f h =
    ap (λ l. l ++ joined (suc a) k f) (h a (omega arith) (omega arith))
    ∙ joined_empty (suc a) k f (λ i l m. h i (omega arith) (omega arith))

-- A view's own process.
one_empty : (o l : Bool) (i : ℕ) → map (λ k. found k i 0) (only (o && not l) LacksItself) ≡ [] → o ≡ true → l ≡ true
one_empty true true i e o = refl
one_empty true false i e o = cc
one_empty false l i e o = absurd (false≢true o)

empty_one : (o l : Bool) (i : ℕ) → (o ≡ true → l ≡ true) → map (λ k. found k i 0) (only (o && not l) LacksItself) ≡ []
empty_one false l i h = refl
empty_one true l i h = ap (λ (b : Bool). map (λ k. found k i 0) (only (not b) LacksItself)) (h refl)

-- The findings of a pair.
pub record Clean (x y : View) (i j : ℕ) : Type 0 where
  pub agreeing : agree x y ≡ true
  pub nested : (inside x y ≡ true) ⊎ (inside y x ≡ true)
  pub alike : facing x y i j ≡ true → (inside x y ≡ true) × (inside y x ≡ true)

clean_by : (a p q f : Bool) → only (not a) Disagree ++ only (not p && not q) Apart ++ only (f && not (p && q)) Unlike ≡ []
    → (a ≡ true) × ((p ≡ true) ⊎ (q ≡ true)) × (f ≡ true → (p ≡ true) × (q ≡ true))
clean_by false p q f e = absurd (cc)
clean_by true false false f e = absurd (cc)
clean_by true true true f e = (refl, inl refl, λ g. (refl, refl))
clean_by true true false true e = absurd (cc)
clean_by true true false false e = (refl, inl refl, λ g. absurd (false≢true g))
clean_by true false true true e = absurd (cc)
clean_by true false true false e = (refl, inr refl, λ g. absurd (false≢true g))

by_clean : (a p q f : Bool) → a ≡ true → ((p ≡ true) ⊎ (q ≡ true)) → (f ≡ true → (p ≡ true) × (q ≡ true))
    → only (not a) Disagree ++ only (not p && not q) Apart ++ only (f && not (p && q)) Unlike ≡ []
by_clean false p q f a n s = absurd (false≢true a)
by_clean true false false f a n s = ⊎_elim (λ e. absurd (false≢true e)) (λ e. absurd (false≢true e)) n
by_clean true true true true a n s = refl
by_clean true true true false a n s = refl
by_clean true true false true a n s = absurd (false≢true (s refl).1)
by_clean true true false false a n s = refl
by_clean true false true true a n s = absurd (false≢true (s refl).0)
by_clean true false true false a n s = refl

pub clean : (x y : View) (i j : ℕ) → breaks x y i j ≡ [] → Clean x y i j
unfolding breaks
clean x y i j e =
    let t = clean_by (agree x y) (inside x y) (inside y x) (facing x y i j) e in
    record { agreeing = t.0; nested = t.1; alike = t.2 }

pub unclean : (x y : View) (i j : ℕ) → Clean x y i j → breaks x y i j ≡ []
unfolding breaks
unclean x y i j c = by_clean (agree x y) (inside x y) (inside y x) (facing x y i j) c.agreeing c.nested c.alike

map_empty : {A B : Type 0} (f : A → B) (l : List A) → map f l ≡ [] → l ≡ []
map_empty f [] e = refl
map_empty f (x ∷ xs) e = cc

pub pair_empty : (v : Views) (i j : ℕ) → Has v i → Has v j → of_pair v i j ≡ [] → breaks (view_in v i) (view_in v j) i j ≡ []
unfolding of_pair
pair_empty v i j a b e =
    let both : (owns v i && owns v j) ≡ true = ap₂ ◌&&◌ a b in
    let m : Finding → Found = λ k. found k i j in
    map_empty m (breaks (view_in v i) (view_in v j) i j)
    (sym (ap (λ (t : Bool). cond t (map m (breaks (view_in v i) (view_in v j) i j)) []) both) ∙ e)

pub empty_pair : (v : Views) (i j : ℕ) → (Has v i → Has v j → breaks (view_in v i) (view_in v j) i j ≡ []) → of_pair v i j ≡ []
unfolding of_pair
empty_pair v i j h =
    let m : Finding → Found = λ k. found k i j in
    let l = breaks (view_in v i) (view_in v j) i j in
    ⊎_elim
    (λ e. let t = (and-eq-true_iff (owns v i) (owns v j)).0 e in
    ap (λ (b : Bool). cond b (map m l) []) e ∙ ap (map m) (h t.0 t.1))
    (λ e. ap (λ (b : Bool). cond b (map m l) []) e)
    (either (owns v i && owns v j))

pub one_has : (v : Views) (i : ℕ) → of_one v i ≡ [] → Has v i → has (seen_by v i) i ≡ true
unfolding of_one
one_has v i e o = one_empty (owns v i) (has (seen_by v i) i) i e o

pub has_one : (v : Views) (i : ℕ) → (Has v i → has (seen_by v i) i ≡ true) → of_one v i ≡ []
unfolding of_one
has_one v i h = empty_one (owns v i) (has (seen_by v i) i) i h

-- No finding, said of each process and of each pair.
pub record Fine (v : Views) : Type 0 where
  pub selves : (i : ℕ) → Has v i → has (seen_by v i) i ≡ true
  pub pairs : (i j : ℕ) → i < j → Has v i → Has v j → Clean (view_in v i) (view_in v j) i j

pub fine : (v : Views) → findings v ≡ [] → Fine v
unfolding findings
fine v e =
    let ones : of_ones v ≡ [] = empty_left (of_ones v) (joined 1 32 (of_pairs v)) e in
    let twos : joined 1 32 (of_pairs v) ≡ [] = empty_right (of_ones v) (joined 1 32 (of_pairs v)) e in
    record {
      selves = λ i o. let k = has-known v.own i o in one_has v i (joined_parts 1 32 (of_one v) ones i k.0 (omega arith)) o;
      pairs = λ i j l a b.
          let k = has-known v.own i a in
          let h = has-known v.own j b in
          let row : of_pairs v i ≡ [] = joined_parts 1 32 (of_pairs v) twos i k.0 (omega arith) in
          clean (view_in v i) (view_in v j) i j (pair_empty v i j a b (joined_parts (suc i) (32 - i) (of_pair v i) row j l (omega arith)));
    }

pub not_found : (v : Views) → Fine v → findings v ≡ []
unfolding findings
not_found v f =
    ap₂ ◌++◌
    (joined_empty 1 32 (of_one v) (λ i l m. has_one v i (f.selves i)))
    (joined_empty 1 32 (of_pairs v) (λ i l m. joined_empty (suc i) (32 - i) (of_pair v i)
    (λ j a b. empty_pair v i j (λ p q. unclean (view_in v i) (view_in v j) i j (f.pairs i j a p q)))))

-- One view inside another, as a test and as sets of pairs.
inside_by : (a b : Bool) (p q x : ℕ) → cond a (b && eqb p q) true ≡ true → a ≡ true → p ≡ x → (b ≡ true) × (q ≡ x)
inside_by true b p q x e h k =
    let t = (and-eq-true_iff b (eqb p q)).0 e in
    (t.0, sym (eqb-true p q t.1) ∙ k)
inside_by false b p q x e h k = absurd (false≢true h)

by_inside : (a b : Bool) (p q : ℕ) → (a ≡ true → (b ≡ true) × (q ≡ p)) → cond a (b && eqb p q) true ≡ true
by_inside false b p q h = refl
by_inside true b p q h = ap₂ ◌&&◌ (h refl).0 (eq-eqb p q (sym (h refl).1))

pub is_inside : (v : Views) (i j : ℕ) → inside (view_in v i) (view_in v j) ≡ true → Inside (Pair v i) (Pair v j)
unfolding inside
is_inside v i j e k x p =
    let h = has-known (seen_by v i) k p.named in
    let t = inside_by (has (seen_by v i) k) (has (seen_by v j) k) (value_by v i k) (value_by v j k) x
    (every_true 32 (inside_at (view_in v i) (view_in v j)) e k h.0 h.1) p.named p.holds in
    record { named = t.0; holds = t.1 }

pub inside_is : (v : Views) (i j : ℕ) → Inside (Pair v i) (Pair v j) → inside (view_in v i) (view_in v j) ≡ true
unfolding inside
inside_is v i j f =
    true_every 32 (inside_at (view_in v i) (view_in v j))
    (λ k a b. by_inside (has (seen_by v i) k) (has (seen_by v j) k) (value_by v i k) (value_by v j k)
    (λ n. let t = f k (value_by v i k) (record { named = n; holds = refl }) in (t.named, t.holds)))

-- One inside the other agrees with it.
agree_by : (a b e : Bool) → cond a (b && e) true ≡ true → cond (a && b) e true ≡ true
agree_by false b e h = refl
agree_by true false e h = refl
agree_by true true e h = h

inside-agrees : (x y : View) → inside x y ≡ true → agree x y ≡ true
unfolding inside agree
inside-agrees x y e =
    true_every 32 (same_at x y)
    (λ k a b. agree_by (has x.set k) (has y.set k) (eqb (x.value k) (y.value k)) (every_true 32 (inside_at x y) e k a b))

agree_at : (a b : Bool) (p q : ℕ) → cond (a && b) (eqb p q) true ≡ true → a ≡ true → b ≡ true → p ≡ q
agree_at true true p q e h k = eqb-true p q e
agree_at true false p q e h k = absurd (false≢true k)
agree_at false b p q e h k = absurd (false≢true h)

pub same_value : (x y : View) (k : ℕ) → agree x y ≡ true → has x.set k ≡ true → has y.set k ≡ true → x.value k ≡ y.value k
unfolding agree
same_value x y k e a b =
    let h = has-known x.set k a in
    agree_at (has x.set k) (has y.set k) (x.value k) (y.value k) (every_true 32 (same_at x y) e k h.0 h.1) a b

-- Either of two processes, or the two in order.
data Order (i j : ℕ) : Type 0 where
  below : i < j → Order i j
  equal : i ≡ j → Order i j
  above : j < i → Order i j

order : (i j : ℕ) → Order i j
order i j = go (dec_lt i j) (dec_lt j i)
  where
    go : Dec (i < j) → Dec (j < i) → Order i j
    go (yes l) e = below l
    go (no n) (yes l) = above l
    go (no n) (no m) = equal (omega arith)

obeys_nested : (v : Views) → Fine v → (i j : ℕ) → Has v i → Has v j → Order i j → Inside (Pair v i) (Pair v j) ⊎ Inside (Pair v j) (Pair v i)
obeys_nested v f i j a b (below l) = ⊎_elim (λ e. inl (is_inside v i j e)) (λ e. inr (is_inside v j i e)) (f.pairs i j l a b).nested
obeys_nested v f i j a b (equal e) = inl (subst (λ (k : ℕ). Inside (Pair v i) (Pair v k)) e (λ k x p. p))
obeys_nested v f i j a b (above l) = ⊎_elim (λ e. inr (is_inside v j i e)) (λ e. inl (is_inside v i j e)) (f.pairs j i l b a).nested

obeys_alike : (v : Views) → Fine v → (i j : ℕ) → Has v i → Has v j → has (seen_by v i) j ≡ true → has (seen_by v j) i ≡ true → Order i j
    → Inside (Pair v i) (Pair v j) × Inside (Pair v j) (Pair v i)
obeys_alike v f i j a b p q (below l) =
    let t = (f.pairs i j l a b).alike (ap₂ ◌&&◌ p q) in (is_inside v i j t.0, is_inside v j i t.1)
obeys_alike v f i j a b p q (equal e) =
    subst (λ (k : ℕ). Inside (Pair v i) (Pair v k) × Inside (Pair v k) (Pair v i)) e (λ k x r. r, λ k x r. r)
obeys_alike v f i j a b p q (above l) =
    let t = (f.pairs j i l b a).alike (ap₂ ◌&&◌ q p) in (is_inside v i j t.1, is_inside v j i t.0)

pub obeys : (v : Views) → Fine v → Obeys v
obeys v f =
    record {
      self_inclusion = λ i a. record { named = f.selves i a; holds = refl };
      containment = λ i j a b. obeys_nested v f i j a b (order i j);
      simultaneity = λ i j a b p q. obeys_alike v f i j a b p.named q.named (order i j);
    }

-- Nested views agree.
nested-agrees : (v : Views) (i j : ℕ) → Inside (Pair v i) (Pair v j) ⊎ Inside (Pair v j) (Pair v i) → agree (view_in v i) (view_in v j) ≡ true
nested-agrees v i j n =
    ⊎_elim
    (λ s. inside-agrees (view_in v i) (view_in v j) (inside_is v i j s))
    (λ s. agree_swapped (view_in v j) (view_in v i) (inside-agrees (view_in v j) (view_in v i) (inside_is v j i s)))
    n

pub obeyed : (v : Views) → Obeys v → Fine v
obeyed v o =
    let selves : (i : ℕ) → Has v i → has (seen_by v i) i ≡ true = λ i a. (o.self_inclusion i a).named in
    record {
      selves = selves;
      pairs = λ i j l a b.
          let x = view_in v i in
          let y = view_in v j in
          let n = o.containment i j a b in
          let g : agree x y ≡ true = nested-agrees v i j n in
          record {
            agreeing = g;
            nested = ⊎_elim (λ s. inl (inside_is v i j s)) (λ s. inr (inside_is v j i s)) n;
            alike = λ s.
                let t = (and-eq-true_iff (has (seen_by v i) j) (has (seen_by v j) i)).0 s in
                let both = o.simultaneity i j a b
                (record { named = t.0; holds = same_value x y j g t.0 (selves j b) })
                (record { named = t.1; holds = sym (same_value x y i g (selves i a) t.1) }) in
                (inside_is v i j both.0, inside_is v j i both.1);
          };
    }

pub accepts_exactly : AcceptsExactly
accepts_exactly v = (λ e. obeys v (fine v e), λ o. not_found v (obeyed v o))
