-- The test of shape and the record of shape agree.
use mathlib.Core.Path.{◌≡◌, refl, sym, ap, ◌∙◌}
use mathlib.Core.Logic.{◌⊎◌, inl, inr}
use mathlib.Core.Bool.{Bool, true, false, ◌&&◌, cond, true≢false}
use Prim.Native.Nat.{ℕ, ◌-◌, ◌≤◌, ◌<◌}
use native.Mathlib.Omega.{arith}
use lib.Dec.{leb, eqb}
use borrow.Author.Tests.{eqb-true, leb-true, leb-false, le-leb, lt-leb, eq-eqb}
use Rattle.sets.specs.Members.{known, has, size}
use Rattle.sets.specs.Sets.{first, every, within, same}
use Rattle.sets.proofs.Laws.{every_true, true_every, true_known, has-known, has_first, within_true, true_within}
use Rattle.rules.specs.declared.Stage.{Stage}
use Rattle.rules.specs.declared.Stage.TheVariants.{Absent, Running, Finished, Crashed}
use Rattle.rules.specs.declared.Process.{Process}
use Rattle.rules.specs.declared.Machine.{Machine}
use Rattle.rules.specs.Stands.{process_of, stage_of, value_of, row_of, cell_of, entered}
use Rattle.rules.specs.State.{wrote}
use Rattle.rules.specs.Shape.{Going, Ended, ShapedStage, ShapedProcess, ShapedRegister, Shaped, goes, ends, shaped_stage, shaped_process}
use Rattle.rules.specs.Shape.{shaped_register, shaped}
use Rattle.rules.specs.Statements.{ShapeIsTested}
use Rattle.rules.proofs.Laws.Small.{and_first, and_second, both, not_both, is_false, cond-true, cond-false, at_most_or_above}

same_true : (a b : Bool) → same a b ≡ true → a ≡ b
same_true true true e = refl
same_true true false e = sym e
same_true false true e = e
same_true false false e = refl

true_same : (a b : Bool) → a ≡ b → same a b ≡ true
true_same true b e = sym e
true_same false true e = e
true_same false false e = refl

-- the members of the first k
first_true : (k i : ℕ) → has (first k) i ≡ true → i ≤ k
first_true k i h = leb-true i k (and_second (known i) (leb i k) (sym (has_first k i) ∙ h))

true_first : (k i : ℕ) → 1 ≤ i → i ≤ 32 → i ≤ k → has (first k) i ≡ true
true_first k i lo hi h = has_first k i ∙ both (known i) (leb i k) (true_known i lo hi) (le-leb i k h)

-- five tests, four tests, taken apart
going : (n : ℕ) (row : ℕ → ℕ) (x k f : ℕ) → goes n row x k f ≡ true → Going n row x k f
going n row x k f e =
    let e₄ : (leb 1 x && leb x n && leb k n && within f (first (k - 1))) ≡ true = and_first _ _ e in
    let e₃ : (leb 1 x && leb x n && leb k n) ≡ true = and_first (leb 1 x && leb x n && leb k n) _ e₄ in
    let e₂ : (leb 1 x && leb x n) ≡ true = and_first (leb 1 x && leb x n) _ e₃ in
    record {
      low = leb-true 1 x (and_first (leb 1 x) _ e₂);
      high = leb-true x n (and_second (leb 1 x) _ e₂);
      accesses = leb-true k n (and_second (leb 1 x && leb x n) _ e₃);
      read =
          λ i h. below k i (has-known f i h).0
          (first_true (k - 1) i (within_true f (first (k - 1)) (and_second (leb 1 x && leb x n && leb k n) _ e₄) i h));
      stands = within_true f (row x) (and_second (leb 1 x && leb x n && leb k n && within f (first (k - 1))) _ e);
    }
  where
    below : (k i : ℕ) → 1 ≤ i → i ≤ k - 1 → i < k
    below k i lo h = omega arith

goes_true : (n : ℕ) (row : ℕ → ℕ) (x k f : ℕ) → Going n row x k f → goes n row x k f ≡ true
goes_true n row x k f g =
    both _ _ (both (leb 1 x && leb x n && leb k n) _
    (both (leb 1 x && leb x n) _ (both (leb 1 x) _ (le-leb 1 x g.low) (le-leb x n g.high)) (le-leb k n g.accesses))
    (true_within f (first (k - 1)) λ i h. true_first (k - 1) i (has-known f i h).0 (has-known f i h).1 (below i (g.read i h))))
    (true_within f (row x) g.stands)
  where
    below : (i : ℕ) → i < k → i ≤ k - 1
    below i h = omega arith

ended : (n : ℕ) (row : ℕ → ℕ) (x w : ℕ) → ends n row x w ≡ true → Ended n row x w
ended n row x w e =
    let e₃ : (leb 1 x && leb x n && eqb (size w) x) ≡ true = and_first (leb 1 x && leb x n && eqb (size w) x) _ e in
    let e₂ : (leb 1 x && leb x n) ≡ true = and_first (leb 1 x && leb x n) _ e₃ in
    record {
      low = leb-true 1 x (and_first (leb 1 x) _ e₂);
      high = leb-true x n (and_second (leb 1 x) _ e₂);
      count = eqb-true (size w) x (and_second (leb 1 x && leb x n) _ e₃);
      stands = within_true w (row x) (and_second (leb 1 x && leb x n && eqb (size w) x) _ e);
    }

ends_true : (n : ℕ) (row : ℕ → ℕ) (x w : ℕ) → Ended n row x w → ends n row x w ≡ true
ends_true n row x w g =
    both (leb 1 x && leb x n && eqb (size w) x) _
    (both (leb 1 x && leb x n) _ (both (leb 1 x) _ (le-leb 1 x g.low) (le-leb x n g.high)) (eq-eqb (size w) x g.count))
    (true_within w (row x) g.stands)

pub stage_record : (n : ℕ) (row : ℕ → ℕ) (s : Stage) → shaped_stage n row s ≡ true → ShapedStage n row s
stage_record n row Absent e = tt
stage_record n row (Running x k f) e = going n row x k f e
stage_record n row (Finished x w) e = ended n row x w e
stage_record n row (Crashed x k f) e = going n row x k f e

pub record_stage : (n : ℕ) (row : ℕ → ℕ) (s : Stage) → ShapedStage n row s → shaped_stage n row s ≡ true
record_stage n row Absent h = refl
record_stage n row (Running x k f) h = goes_true n row x k f h
record_stage n row (Finished x w) h = ends_true n row x w h
record_stage n row (Crashed x k f) h = goes_true n row x k f h

process_record : (n : ℕ) (row : ℕ → ℕ) (i : ℕ) (P : Process) → shaped_process n row i P ≡ true → ShapedProcess n row i P
unfolding shaped_process
process_record n row i P e =
    record {
      above =
          λ h. is_false (entered P.stage) λ t. not_both (leb i n) (sym (cond-true (entered P.stage) (leb i n) (eqb P.value 0) t) ∙ slot)
          (lt-leb i n h);
      absent = λ a. eqb-true P.value 0 (sym (cond-false (entered P.stage) (leb i n) (eqb P.value 0) a) ∙ slot);
      stage = stage_record n row P.stage (and_second (cond (entered P.stage) (leb i n) (eqb P.value 0)) _ e);
    }
  where
    slot : cond (entered P.stage) (leb i n) (eqb P.value 0) ≡ true
    slot = and_first (cond (entered P.stage) (leb i n) (eqb P.value 0)) _ e

record_process : (n : ℕ) (row : ℕ → ℕ) (i : ℕ) (P : Process) → ShapedProcess n row i P → shaped_process n row i P ≡ true
unfolding shaped_process
record_process n row i P h =
    both (cond (entered P.stage) (leb i n) (eqb P.value 0)) _ (slot (entered P.stage) refl) (record_stage n row P.stage h.stage)
  where
    slot : (b : Bool) → entered P.stage ≡ b → cond b (leb i n) (eqb P.value 0) ≡ true
    slot true e = elim (at_most_or_above i n) [ inl le ↦ le-leb i n le | inr gt ↦ not_both (entered P.stage) e (h.above gt) ]
    slot false e = eq-eqb P.value 0 (h.absent e)

-- an absent process has written nothing
pub absent_wrote : (n : ℕ) (s : Stage) (x : ℕ) → entered s ≡ false → wrote n s x ≡ false
unfolding wrote
absent_wrote n Absent x e = refl
absent_wrote n (Running y k f) x e = absurd (true≢false e)
absent_wrote n (Finished y w) x e = absurd (true≢false e)
absent_wrote n (Crashed y k f) x e = absurd (true≢false e)

register_record : (m : Machine) (x i : ℕ) → ShapedProcess m.n (row_of m) i (process_of m i) → shaped_register m x i ≡ true → ShapedRegister m x i
unfolding shaped_register
register_record m x i P e =
    record {
      row_above = λ h. filled ∙ ap (λ b. b && wrote m.n (stage_of m i) x) (lt-leb x m.n h);
      slot_above = λ h. filled ∙ ap (λ b. leb x m.n && b) (absent_wrote m.n (stage_of m i) x (P.above h)) ∙ and_none (leb x m.n);
      beside = λ h. cell ∙ cond-false (has (row_of m x) i) (value_of m i) 0 h;
      exactly = λ h _. filled ∙ ap (λ b. b && wrote m.n (stage_of m i) x) (le-leb x m.n h);
      value = λ h. cell ∙ cond-true (has (row_of m x) i) (value_of m i) 0 h;
    }
  where
    filled : has (row_of m x) i ≡ (leb x m.n && wrote m.n (stage_of m i) x)
    filled =
        same_true (has (row_of m x) i) (leb x m.n && wrote m.n (stage_of m i) x)
        (and_first (same (has (row_of m x) i) (leb x m.n && wrote m.n (stage_of m i) x)) _ e)

    cell : cell_of m x i ≡ cond (has (row_of m x) i) (value_of m i) 0
    cell =
        eqb-true (cell_of m x i) (cond (has (row_of m x) i) (value_of m i) 0)
        (and_second (same (has (row_of m x) i) (leb x m.n && wrote m.n (stage_of m i) x)) _ e)

    and_none : (b : Bool) → (b && false) ≡ false
    and_none true = refl
    and_none false = refl

record_register : (m : Machine) (x i : ℕ) → ShapedProcess m.n (row_of m) i (process_of m i) → ShapedRegister m x i → shaped_register m x i ≡ true
unfolding shaped_register
record_register m x i P r =
    both (same (has (row_of m x) i) (leb x m.n && wrote m.n (stage_of m i) x)) _ (true_same (has (row_of m x) i) _ (filled (leb x m.n) refl))
    (eq-eqb (cell_of m x i) _ (cell (has (row_of m x) i) refl))
  where
    slot : x ≤ m.n → (i ≤ m.n) ⊎ (m.n < i) → has (row_of m x) i ≡ wrote m.n (stage_of m i) x
    slot h (inl le) = r.exactly h le
    slot h (inr gt) = r.slot_above gt ∙ sym (absent_wrote m.n (stage_of m i) x (P.above gt))

    filled : (b : Bool) → leb x m.n ≡ b → has (row_of m x) i ≡ (b && wrote m.n (stage_of m i) x)
    filled true e = slot (leb-true x m.n e) (at_most_or_above i m.n)
    filled false e = r.row_above (leb-false x m.n e)

    cell : (b : Bool) → has (row_of m x) i ≡ b → cell_of m x i ≡ cond b (value_of m i) 0
    cell true e = r.value e
    cell false e = r.beside e

abbrev tests : Machine → Bool
tests m = leb 1 m.n && leb m.n 32 && every 32 (λ i. shaped_process m.n (row_of m) i (process_of m i))

pub shaped_record : (m : Machine) → shaped m ≡ true → Shaped m
unfolding shaped
shaped_record m e =
    record {
      some = leb-true 1 m.n (and_first (leb 1 m.n) _ e₂);
      most = leb-true m.n 32 (and_second (leb 1 m.n) _ e₂);
      process = process;
      register = λ x i lx hx li hi.
          register_record m x i (process i li hi)
          (every_true 32 (λ i. shaped_register m x i)
          (every_true 32 (λ x. every 32 (λ i. shaped_register m x i)) (and_second (tests m) _ e) x lx hx) i li hi);
    }
  where
    e₃ : tests m ≡ true
    e₃ = and_first (tests m) _ e

    e₂ : (leb 1 m.n && leb m.n 32) ≡ true
    e₂ = and_first (leb 1 m.n && leb m.n 32) _ e₃

    process : (i : ℕ) → 1 ≤ i → i ≤ 32 → ShapedProcess m.n (row_of m) i (process_of m i)
    process i li hi =
        process_record m.n (row_of m) i (process_of m i)
        (every_true 32 (λ i. shaped_process m.n (row_of m) i (process_of m i)) (and_second (leb 1 m.n && leb m.n 32) _ e₃) i li hi)

pub record_shaped : (m : Machine) → Shaped m → shaped m ≡ true
unfolding shaped
record_shaped m h =
    both (tests m) _
    (both (leb 1 m.n && leb m.n 32) _ (both (leb 1 m.n) _ (le-leb 1 m.n h.some) (le-leb m.n 32 h.most))
    (true_every 32 (λ i. shaped_process m.n (row_of m) i (process_of m i)) λ i li hi.
    record_process m.n (row_of m) i (process_of m i) (h.process i li hi)))
    (true_every 32 (λ x. every 32 (λ i. shaped_register m x i)) λ x lx hx.
    true_every 32 (λ i. shaped_register m x i) λ i li hi. record_register m x i (h.process i li hi) (h.register x i lx hx li hi))

pub shape_is_tested : ShapeIsTested
shape_is_tested m = (shaped_record m, record_shaped m)
