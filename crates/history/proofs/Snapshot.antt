-- The three properties: the view of a finished process is the row of its level, and rows nest.
use mathlib.Core.Path.{◌≡◌, refl, sym, ap, subst, ◌∙◌}
use mathlib.Core.Logic.{◌⊎◌, inl, inr}
use mathlib.Core.Bool.{true, false≢true}
use Prim.Native.Nat.{ℕ, ◌+◌, ◌-◌, ◌≤◌, ◌<◌}
use native.Mathlib.Omega.{arith}
use Rattle.sets.specs.Members.{has, count}
use Rattle.sets.specs.Sets.{within}
use Rattle.sets.specs.Immediate.{Inside, Immediate}
use Rattle.sets.proofs.Laws.{same_truth, has_zero, has-known, members_equal, count_mono, count_same, true_within}
use Rattle.rules.specs.declared.Stage.{Stage}
use Rattle.rules.specs.declared.Stage.TheVariants.{Absent, Running, Finished, Crashed}
use Rattle.rules.specs.declared.Machine.{Machine}
use Rattle.rules.specs.Stands.{stage_of, value_of, row_of, cell_of, entered}
use Rattle.rules.specs.State.{finished, level_of, found_of}
use Rattle.rules.specs.Shape.{Ended, ShapedStage, Shaped}
use Rattle.rules.proofs.Laws.Small.{not_both, at_most_or_above}
use Rattle.rules.proofs.Laws.Wrote.{lowest_row}
use Rattle.history.specs.Runs.{runs, given}
use Rattle.history.specs.Views.{Has, View}
use Rattle.history.specs.Theorems.{ThreeProperties, OfSets, ThreePropertiesOfSets, ViewsAreGiven}
use Rattle.history.proofs.Found.{row_upto, size_stands}
use Rattle.history.proofs.Invariant.{Inv, low32, in_row, row_in_lem, row_most, inv_runs}
use Rattle.history.proofs.Given.{value_given}

module _ (m : Machine) (I : Inv m) where
  abbrev sh : Shaped m
  sh = I.meets.shape

  -- what a finished process says of its level
  record Shows (i : ℕ) : Type 0 where
    low : 1 ≤ level_of (stage_of m i)
    high : level_of (stage_of m i) ≤ m.n
    came : entered (stage_of m i) ≡ true
    lowest : lowest_row m.n (stage_of m i) ≡ level_of (stage_of m i)
    row : (j : ℕ) → 1 ≤ j → j ≤ m.n → has (found_of (stage_of m i)) j ≡ has (row_of m (level_of (stage_of m i))) j

  -- its view has x members, all in row x, which has at most x
  whole_row : (x w : ℕ) → Ended m.n (row_of m) x w → (j : ℕ) → 1 ≤ j → j ≤ m.n → has w j ≡ has (row_of m x) j
  whole_row x w e j lj hj =
      same_truth (has w j) (has (row_of m x) j) (e.stands j)
      (count_same (has w) (has (row_of m x)) m.n (λ i _ _ t. e.stands i t) equal j lj hj)
    where
      equal : count (has w) m.n ≡ count (has (row_of m x)) m.n
      equal =
          omega (
            arith,
            count_mono (has w) (has (row_of m x)) m.n (λ i _ _ t. e.stands i t),
            row_most m I x e.low e.high,
            size_stands m sh x e.low e.high w e.stands,
            e.count,
          )

  shows : (i : ℕ) → Has m i → Shows i
  shows i h = go (stage_of m i) refl h.ended
    where
      go : (s : Stage) → stage_of m i ≡ s → finished s ≡ true → Shows i
      go Absent e t = absurd (false≢true t)
      go (Running x k f) e t = absurd (false≢true t)
      go (Crashed x k f) e t = absurd (false≢true t)
      go (Finished x w) e t =
          record {
            low = subst (λ s. 1 ≤ level_of s) (sym e) ended.low;
            high = subst (λ s. level_of s ≤ m.n) (sym e) ended.high;
            came = ap entered e;
            lowest = subst (λ s. lowest_row m.n s ≡ level_of s) (sym e) last;
            row = subst (λ s. (j : ℕ) → 1 ≤ j → j ≤ m.n → has (found_of s) j ≡ has (row_of m (level_of s)) j) (sym e) (whole_row x w ended);
          }
        where
          ended : Ended m.n (row_of m) x w
          ended = subst (ShapedStage m.n (row_of m)) e (sh.process i h.low (low32 m sh i h.high)).stage

          last : x + (1 - (m.n + 1)) ≡ x
          last = omega arith

  -- what stands in a row is its process's value
  value_there : (x j : ℕ) → 1 ≤ x → x ≤ m.n → 1 ≤ j → j ≤ m.n → has (row_of m x) j ≡ true → cell_of m x j ≡ value_of m j
  value_there x j lx hx lj hj t = (sh.register x j lx (low32 m sh x hx) lj (low32 m sh j hj)).value t

  pub view_value : (i j v : ℕ) → Has m i → View m i j v → v ≡ value_of m j
  view_value i j v h s =
      let r : Shows i = shows i h in
      sym s.held ∙ value_there _ j r.low r.high s.low s.high (sym (r.row j s.low s.high) ∙ s.seen)

  -- what i sees is a process of 1 to n
  seen_upto : (i : ℕ) → Has m i → (k : ℕ) → has (found_of (stage_of m i)) k ≡ true → (1 ≤ k) × (k ≤ m.n)
  seen_upto i h k t =
      ((has-known _ k t).0, upto (stage_of m i) (sh.process i h.low (low32 m sh i h.high)).stage k t)
    where
      upto : (s : Stage) → ShapedStage m.n (row_of m) s → (k : ℕ) → has (found_of s) k ≡ true → k ≤ m.n
      upto Absent g k t = not_both (has 0 k) t (has_zero k)
      upto (Running x j f) g k t = row_upto m sh x g.low g.high k (g.stands k t)
      upto (Finished x w) g k t = row_upto m sh x g.low g.high k (g.stands k t)
      upto (Crashed x j f) g k t = row_upto m sh x g.low g.high k (g.stands k t)

  -- rows nest, and so do views
  row_nests : (i j : ℕ) → Has m i → Has m j → level_of (stage_of m i) ≤ level_of (stage_of m j) → (k : ℕ) → 1 ≤ k → k ≤ m.n
      → has (found_of (stage_of m i)) k ≡ true → has (row_of m (level_of (stage_of m j))) k ≡ true
  row_nests i j hi hj le k lk hk t =
      let a : Shows i = shows i hi in
      let b : Shows j = shows j hj in
      let r = row_in_lem m sh _ k a.low a.high lk hk (sym (a.row k lk hk) ∙ t) in
      in_row m sh _ k b.low b.high lk hk r.0 (omega (arith, r.1))

  set_nests : (i j : ℕ) → Has m i → Has m j → level_of (stage_of m i) ≤ level_of (stage_of m j) → (k : ℕ)
      → has (found_of (stage_of m i)) k ≡ true → has (found_of (stage_of m j)) k ≡ true
  set_nests i j hi hj le k t =
      let in-n = seen_upto i hi k t in
      (shows j hj).row k in-n.0 in-n.1 ∙ row_nests i j hi hj le k in-n.0 in-n.1 t

  nest : (i j : ℕ) → Has m i → Has m j → level_of (stage_of m i) ≤ level_of (stage_of m j) → Inside (View m i) (View m j)
  nest i j hi hj le k v s =
      let b : Shows j = shows j hj in
      let there = row_nests i j hi hj le k s.low s.high s.seen in
      record {
        low = s.low;
        high = s.high;
        seen = b.row k s.low s.high ∙ there;
        held = value_there _ k b.low b.high s.low s.high there ∙ sym (view_value i k v hi s);
      }

  -- whom i sees has come down to i's level
  seen_below : (i j : ℕ) → Has m i → has (found_of (stage_of m i)) j ≡ true → level_of (stage_of m j) ≤ level_of (stage_of m i)
  seen_below i j h t =
      let a : Shows i = shows i h in
      let in-n = seen_upto i h j t in
      let r = row_in_lem m sh _ j a.low a.high in-n.0 in-n.1 (sym (a.row j in-n.0 in-n.1) ∙ t) in
      omega (arith, r.1)

  own_row : (i : ℕ) → Has m i → has (row_of m (level_of (stage_of m i))) i ≡ true
  own_row i h =
      let a : Shows i = shows i h in in_row m sh _ i a.low a.high h.low h.high a.came (omega (arith, a.lowest))

  pub properties : (own : ℕ → ℕ) → ((j : ℕ) → 1 ≤ j → j ≤ m.n → value_of m j ≡ own j) → Immediate (Has m) (View m) own
  properties own is =
      record {
        self_inclusion = λ i h.
            let a : Shows i = shows i h in
            record {
              low = h.low;
              high = h.high;
              seen = a.row i h.low h.high ∙ own_row i h;
              held = value_there _ i a.low a.high h.low h.high (own_row i h) ∙ is i h.low h.high;
            };
        containment = λ i j hi hj. either i j hi hj (at_most_or_above (level_of (stage_of m i)) (level_of (stage_of m j)));
        simultaneity = λ i j hi hj s t.
            (nest i j hi hj (seen_below j i hj t.seen), nest j i hj hi (seen_below i j hi s.seen));
      }
    where
      either : (i j : ℕ) → Has m i → Has m j
          → (level_of (stage_of m i) ≤ level_of (stage_of m j)) ⊎ (level_of (stage_of m j) < level_of (stage_of m i))
          → Inside (View m i) (View m j) ⊎ Inside (View m j) (View m i)
      either i j hi hj (inl le) = inl (nest i j hi hj le)
      either i j hi hj (inr lt) = inr (nest j i hj hi (omega arith))

  -- The same of the sets alone.
  pub of_sets : OfSets m
  of_sets =
      record {
        self_inclusion = λ i h. (shows i h).row i h.low h.high ∙ own_row i h;
        containment = λ i j hi hj. either i j hi hj (at_most_or_above (level_of (stage_of m i)) (level_of (stage_of m j)));
        simultaneity = λ i j hi hj s t.
            members_equal _ _ (I.meets.held.found i) (I.meets.held.found j) (λ k.
            same_truth _ _ (set_nests i j hi hj (seen_below j i hj t) k) (set_nests j i hj hi (seen_below i j hi s) k));
      }
    where
      either : (i j : ℕ) → Has m i → Has m j
          → (level_of (stage_of m i) ≤ level_of (stage_of m j)) ⊎ (level_of (stage_of m j) < level_of (stage_of m i))
          → (within (found_of (stage_of m i)) (found_of (stage_of m j)) ≡ true) ⊎ (within (found_of (stage_of m j)) (found_of (stage_of m i)) ≡ true)
      either i j hi hj (inl le) = inl (true_within _ _ (set_nests i j hi hj le))
      either i j hi hj (inr lt) = inr (true_within _ _ (set_nests j i hj hi (omega arith)))

pub three_properties_of_sets : ThreePropertiesOfSets
three_properties_of_sets n lo hi cs = of_sets (runs n cs) (inv_runs n lo hi cs)

pub three_properties : ThreeProperties
three_properties n lo hi cs =
    let I : Inv (runs n cs) = inv_runs n lo hi cs in
    properties (runs n cs) I (given n cs) (λ j lj hj. value_given n lo hi cs j lj (low32 (runs n cs) I.meets.shape j hj))

pub views_are_given : ViewsAreGiven
views_are_given n lo hi cs i j v h s =
    let I : Inv (runs n cs) = inv_runs n lo hi cs in
    view_value (runs n cs) I i j v h s ∙ value_given n lo hi cs j s.low (low32 (runs n cs) I.meets.shape j s.high)
