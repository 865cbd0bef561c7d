-- What the writer writes reads back as the same views: the views of a well shaped machine are views that a file can carry.
use Prim.Native.Nat.{ℕ, ◌^◌, ◌≤◌, ◌<◌}
use mathlib.Core.Bool.{Bool, true, false, cond, true≢false}
use mathlib.Core.Path.{◌≡◌, refl, sym, ap, ◌∙◌}
use mathlib.Core.Logic.{⊎_elim}
use mathlib.Core.List.{[], ◌∷◌}
use native.Mathlib.Omega.{arith}
use Rattle.sets.specs.Members.{has}
use Rattle.sets.proofs.Laws.{either, has_zero, has-known, set_of-below}
use Rattle.rules.specs.declared.Stage.{Stage}
use Rattle.rules.specs.declared.Stage.TheVariants.{Absent, Running, Finished, Crashed}
use Rattle.rules.specs.declared.Machine.{Machine}
use Rattle.rules.specs.Stands.{stage_of, value_of, row_of, cell_of, entered}
use Rattle.rules.specs.State.{finished, level_of, found_of}
use Rattle.rules.specs.Shape.{Held, Words, Shaped, ShapedStage}
use Rattle.rules.specs.Calls.{view_of}
use Rattle.rules.proofs.Laws.Small.{at_most_or_above}
use Rattle.rules.proofs.Laws.Shape.{shaped_record}
use Rattle.formats.specs.Views.{owns, seen_by, value_by}
use Rattle.formats.specs.Range.{InRange}
use Rattle.text.specs.Parts.{joined}
use Rattle.formats.proofs.RoundTrip as files
use Rattle.replays.specs.Writes.{value_in, views_of, bytes_of}
use Rattle.replays.specs.Promises.{WrittenReadsBack, WritesBytes}
use Rattle.text.proofs.Parts.{joined_length}
use Rattle.replays.proofs.Views.{owned, seen, valued}

-- What a stage's view says.
pub finished-entered : (s : Stage) → finished s ≡ true → entered s ≡ true
finished-entered Absent e = e
finished-entered (Running x k f) e = refl
finished-entered (Finished x w) e = e
finished-entered (Crashed x k f) e = refl

pub view-found : (s : Stage) → finished s ≡ true → view_of s ≡ found_of s
view-found Absent e = refl
view-found (Running x k f) e = absurd (true≢false (sym e))
view-found (Finished x w) e = refl
view-found (Crashed x k f) e = absurd (true≢false (sym e))

no_view : (s : Stage) → finished s ≡ false → view_of s ≡ 0
no_view Absent e = refl
no_view (Running x k f) e = refl
no_view (Finished x w) e = absurd (true≢false e)
no_view (Crashed x k f) e = refl

view-below : (s : Stage) → found_of s < 2 ^ 32 → view_of s < 2 ^ 32
view-below Absent e = e
view-below (Running x k f) e = omega arith
view-below (Finished x w) e = e
view-below (Crashed x k f) e = omega arith

-- a process that a view names stands in the row of its level
pub record Stands (n : ℕ) (row : ℕ → ℕ) (s : Stage) (j : ℕ) : Type 0 where
  pub low : 1 ≤ level_of s
  pub high : level_of s ≤ n
  pub there : has (row (level_of s)) j ≡ true

unseen : {A : Type 0} (j : ℕ) → has 0 j ≡ true → A
unseen j h = absurd (true≢false (sym h ∙ has_zero j))

stands : (n : ℕ) (row : ℕ → ℕ) (s : Stage) (j : ℕ) → ShapedStage n row s → has (view_of s) j ≡ true → Stands n row s j
stands n row Absent j e h = unseen j h
stands n row (Running x k f) j e h = unseen j h
stands n row (Finished x w) j e h = record { low = e.low; high = e.high; there = e.stands j h }
stands n row (Crashed x k f) j e h = unseen j h

module _ (m : Machine) (S : Shaped m) where
  -- those who have a view are processes 1 to n
  pub owner_known : (i : ℕ) → owns (views_of m) i ≡ true → (1 ≤ i) × (i ≤ 32)
  owner_known i h = has-known (views_of m).own i h

  pub owner_finished : (i : ℕ) → owns (views_of m) i ≡ true → finished (stage_of m i) ≡ true
  owner_finished i h = let k = owner_known i h in sym (owned m i k.0 k.1) ∙ h

  pub owner_below : (i : ℕ) → owns (views_of m) i ≡ true → i ≤ m.n
  owner_below i h =
      let k = owner_known i h in
      ⊎_elim (λ l. l)
      (λ l. absurd (true≢false (sym (finished-entered (stage_of m i) (owner_finished i h)) ∙ (S.process i k.0 k.1).above l)))
      (at_most_or_above i m.n)

  module _ (i : ℕ) (low : 1 ≤ i) (high : i ≤ 32) (j : ℕ) where
    named : has (seen_by (views_of m) i) j ≡ true → has (view_of (stage_of m i)) j ≡ true
    named h = ap (λ (w : ℕ). has w j) (sym (seen m i low high)) ∙ h

    pub named_stands : has (view_of (stage_of m i)) j ≡ true → Stands m.n (row_of m) (stage_of m i) j
    named_stands h = stands m.n (row_of m) (stage_of m i) j (S.process i low high).stage h

    pub named_below : has (view_of (stage_of m i)) j ≡ true → j ≤ m.n
    named_below h =
        let t = named_stands h in
        let k = has-known (view_of (stage_of m i)) j h in
        ⊎_elim (λ l. l)
        (λ l.
        let r = S.register (level_of (stage_of m i)) j t.low (omega (arith, t.high, S.most)) k.0 k.1 in
        absurd (true≢false (sym t.there ∙ r.slot_above l)))
        (at_most_or_above j m.n)

    -- the value beside a process that is named, and beside one that is not
    pub value_named : has (view_of (stage_of m i)) j ≡ true → value_by (views_of m) i j ≡ cell_of m (level_of (stage_of m i)) j
    value_named h =
        let k = has-known (view_of (stage_of m i)) j h in
        valued m i low high j k.0 k.1 ∙ ap (λ (b : Bool). cond b (cell_of m (level_of (stage_of m i)) j) 0) h

    value_unnamed : 1 ≤ j → j ≤ 32 → has (view_of (stage_of m i)) j ≡ false → value_by (views_of m) i j ≡ 0
    value_unnamed below above h = valued m i low high j below above ∙ ap (λ (b : Bool). cond b (cell_of m (level_of (stage_of m i)) j) 0) h

    value_fits : Words m → 1 ≤ j → j ≤ 32 → value_by (views_of m) i j < 2 ^ 32
    value_fits W below above =
        ⊎_elim
        (λ h. let t = named_stands h in
        let e : cell_of m (level_of (stage_of m i)) j ≡ value_of m j
        = (S.register (level_of (stage_of m i)) j t.low (omega (arith, t.high, S.most)) below above).value t.there in
        omega (arith, value_named h, e, W j below above))
        (λ h. omega (arith, value_unnamed below above h))
        (either (has (view_of (stage_of m i)) j))

  pub in_range_lem : Held m → Words m → InRange (views_of m)
  unfolding views_of
  in_range_lem H W =
      record {
        some = S.some;
        most = S.most;
        seats = joined_length 1 1 32 (λ i. view_of (stage_of m i) ∷ []) (λ i. refl);
        cells = joined_length 32 1 32 (λ i. joined 1 32 (λ j. value_in m i j ∷ [])) (λ i. joined_length 1 1 32 (λ j. value_in m i j ∷ []) (λ j. refl));
        own_fits = set_of-below (λ i. finished (stage_of m i)) 32;
        seen_fits = λ i low high. omega (arith, seen m i low high, view-below (stage_of m i) (H.found i));
        value_fits = λ i j low high below above. value_fits i low high j W below above;
        owner = owner_below;
        member = λ i j low high h. named_below i low high j (named i low high j h);
        no_view = λ i low high h. seen m i low high ∙ no_view (stage_of m i) (sym (owned m i low high) ∙ h);
        no_member = λ i j low high below above h. value_unnamed i low high j below above (ap (λ (w : ℕ). has w j) (sym (seen m i low high)) ∙ h);
      }

pub written_reads_back : WrittenReadsBack
unfolding bytes_of
written_reads_back m H W e = files.reads_back (views_of m) (in_range_lem m (shaped_record m e) H W)

pub writes_bytes : WritesBytes
unfolding bytes_of
writes_bytes m H W e = files.writes_bytes (views_of m) (in_range_lem m (shaped_record m e) H W)
