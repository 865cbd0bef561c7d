-- What no later call changes: the record of a process that has crashed or finished, what has been written, and a list once told.
use mathlib.Core.Path.{◌≡◌, refl, sym, ap, ap₂, subst, ◌∙◌}
use mathlib.Core.Logic.{◌⊎◌, inl, inr, ◌≢◌}
use mathlib.Core.Bool.{Bool, true, false, cond}
use mathlib.Core.List.{List, [], ◌∷◌}
use Prim.Native.Nat.{ℕ, ◌≤◌}
use native.Mathlib.Omega.{arith}
use Rattle.sets.specs.Members.{has}
use Rattle.rules.specs.declared.Machine.{Machine}
use Rattle.rules.specs.declared.Process.{Process}
use Rattle.rules.specs.declared.Stage.{Stage}
use Rattle.rules.specs.declared.Stage.TheVariants.{Absent, Running, Finished, Crashed}
use Rattle.rules.specs.declared.Called.{Called}
use Rattle.rules.specs.Stands.{process_of, stage_of, value_of, row_of, cell_of}
use Rattle.rules.specs.State.{finished, crashed, level_of, made_of, found_of}
use Rattle.rules.specs.Shape.{ShapedStage}
use Rattle.rules.specs.Calls.{accepted, fresh, enter_of, step_of, crash_of}
use Rattle.rules.specs.Statements.{Meets, StepEffect}
use Rattle.rules.proofs.Laws.Small.{not_both, equal_or_not}
use Rattle.rules.proofs.Laws.Did.{what_calls_did}
use Rattle.rules.proofs.Laws.Refused.{refused_hands_back}
use Rattle.rules.proofs.Laws.Effects.{effects_of_calls}
use Rattle.history.specs.Runs.{Call, enters, steps, crashes, after, machine_taker, from, runs}
use Rattle.world.specs.Programs.{empty, holds}
use Rattle.history.specs.AsWorld.{register}
use Rattle.history.specs.Views.{Has}
use Rattle.history.specs.Theorems.{CrashedStays, WrittenStays, SameList, FinishedStays}
use Rattle.world.proofs.Laws.{leaves-append}
use Rattle.history.proofs.Moves.{meets_after, meets_from, every_state_shaped, Stepped, writing, finding, ending, falling, stepped, by_call}
use Rattle.history.proofs.Figure.{register_stays, enter_is_start, crash_is_end}
use Rattle.world.specs.Calls.{leaves}

-- Who enters is absent, and who steps or crashes runs. So no call changes the record of a process that does neither.
module _ (test : Stage → Bool) (absent : test Absent ≡ false) (running : (x k f : ℕ) → test (Running x k f) ≡ false) where
  not_moved : (m m' : Machine) (p : ℕ) → Stepped m m' p → test (stage_of m p) ≡ false
  not_moved m m' p (writing x f was now) = ap test was ∙ running _ _ _
  not_moved m m' p (finding x k f was lo hi now) = ap test was ∙ running _ _ _
  not_moved m m' p (ending x f was e now) = ap test was ∙ running _ _ _
  not_moved m m' p (falling x f was ne two now) = ap test was ∙ running _ _ _

  holds_still : (n : ℕ) (m : Machine) → Meets n m → (p : ℕ) → 1 ≤ p → test (stage_of m p) ≡ true → (c : Call)
      → process_of (after m c) p ≡ process_of m p
  holds_still n m M p lp t =
      by_call m M.held p lp (λ c. process_of (after m c) p ≡ process_of m p)
      (λ c e _ _. e)
      (λ v a. not_both (test (stage_of m p)) t (ap test (what_calls_did.enter m p v a).1.was ∙ absent))
      (λ a. not_both (test (stage_of m p)) t (not_moved m (step_of m p).machine p (stepped m M.held p a)))
      (λ a. not_both (test (stage_of m p)) t (ap test (what_calls_did.crash m p a).1.was ∙ running _ _ _))

  still_from : (n : ℕ) (m : Machine) → Meets n m → (p : ℕ) → 1 ≤ p → test (stage_of m p) ≡ true → (cs : List Call)
      → process_of (from m cs) p ≡ process_of m p
  unfolding leaves
  still_from n m M p lp t [] = refl
  still_from n m M p lp t (c ∷ cs) =
      let e = holds_still n m M p lp t c in
      still_from n (after m c) (meets_after n m M c) p lp (ap (λ P. test P.stage) e ∙ t) cs ∙ e

pub crashed_stays : CrashedStays
crashed_stays n lo hi cs p lp t ds =
    ap (λ m. process_of m p) (leaves-append machine_taker (fresh n) cs ds)
    ∙ still_from crashed refl (λ x k f. refl) n (runs n cs) (every_state_shaped n lo hi cs) p lp t ds

pub finished_from : (n : ℕ) (m : Machine) → Meets n m → (p : ℕ) → 1 ≤ p → finished (stage_of m p) ≡ true → (cs : List Call)
    → process_of (from m cs) p ≡ process_of m p
finished_from = still_from finished refl (λ x k f. refl)

-- A filled register, by its row and its cell.
filled : (b : Bool) (c v : ℕ) → cond b (holds c) empty ≡ holds v → (b ≡ true) × (c ≡ v)
filled true c v e = (refl, cc)
filled false c v e = absurd (let z : ◌≡◌ {A = ℕ} 0 1 = cc in omega arith)

fill : (b : Bool) (c v : ℕ) → b ≡ true → c ≡ v → cond b (holds c) empty ≡ holds v
fill true c v t e = ap holds e
fill false c v t e = not_both false t refl

module _ (n : ℕ) (m : Machine) (M : Meets n m) (x i v : ℕ) (lx : 1 ≤ x) (hx : x ≤ 32) (li : 1 ≤ i) (hi : i ≤ 32) (t : register m x i ≡ holds v) where
  -- A step writes the register of its own process at its level, or nothing; there it writes what stood there.
  after-step : (m' : Machine) (p : ℕ) → StepEffect m m' p → register m' x i ≡ holds v
  after-step m' p s = go (equal_or_not x (level_of (stage_of m p))) (equal_or_not i p)
    where
      away : (x ≢ level_of (stage_of m p)) ⊎ (i ≢ p) → register m' x i ≡ holds v
      away ne = let r = s.elsewhere x i lx hx li hi ne in ap₂ (λ b c. cond b (holds c) empty) r.0 r.1 ∙ t

      here : x ≡ level_of (stage_of m p) → i ≡ p → (made_of m.n (stage_of m p) ≡ 0) ⊎ (made_of m.n (stage_of m p) ≢ 0) → register m' x i ≡ holds v
      here e q (inr later) = register_stays m m' (s.later later) x i ∙ t
      here e q (inl first) =
          let o = filled (has (row_of m x) i) (cell_of m x i) v t in
          let r = s.first first in
          fill (has (row_of m' x) i) (cell_of m' x i) v (ap₂ (λ y j. has (row_of m' y) j) e q ∙ r.0)
          (ap₂ (λ y j. cell_of m' y j) e q ∙ r.1 ∙ sym (ap (λ j. value_of m j) q) ∙ sym ((M.shape.register x i lx hx li hi).value o.0) ∙ o.1)

      go : (x ≡ level_of (stage_of m p)) ⊎ (x ≢ level_of (stage_of m p)) → (i ≡ p) ⊎ (i ≢ p) → register m' x i ≡ holds v
      go (inl e) (inl q) = here e q (equal_or_not (made_of m.n (stage_of m p)) 0)
      go (inl e) (inr ne) = away (inr ne)
      go (inr ne) q = away (inl ne)

  unless_refused : (c : Called) → (accepted c ≡ false → c.machine ≡ m) → (accepted c ≡ true → register c.machine x i ≡ holds v)
      → register c.machine x i ≡ holds v
  unless_refused c back does = go (accepted c) refl
    where
      go : (b : Bool) → accepted c ≡ b → register c.machine x i ≡ holds v
      go true a = does a
      go false a = ap (λ m'. register m' x i) (back a) ∙ t

  holds_on : (c : Call) → register (after m c) x i ≡ holds v
  holds_on (enters p w) =
      unless_refused (enter_of m p w) (refused_hands_back.enter m p w) (λ a. (enter_is_start m M.held p w a).1.registers x i ∙ t)
  holds_on (steps p) =
      unless_refused (step_of m p) (refused_hands_back.step m p) (λ a. after-step (step_of m p).machine p (effects_of_calls.step m M.held p a))
  holds_on (crashes p) = unless_refused (crash_of m p) (refused_hands_back.crash m p) (λ a. (crash_is_end m M.held p a).1.registers x i ∙ t)

written_from : (n : ℕ) (m : Machine) → Meets n m → (x i v : ℕ) → 1 ≤ x → x ≤ 32 → 1 ≤ i → i ≤ 32 → register m x i ≡ holds v → (cs : List Call)
    → register (from m cs) x i ≡ holds v
unfolding leaves
written_from n m M x i v lx hx li hi t [] = t
written_from n m M x i v lx hx li hi t (c ∷ cs) =
    written_from n (after m c) (meets_after n m M c) x i v lx hx li hi (holds_on n m M x i v lx hx li hi t c) cs

pub written_stays : WrittenStays
written_stays n lo hi cs x i v lx hx li hi' t ds =
    ap (λ m. register m x i) (leaves-append machine_taker (fresh n) cs ds)
    ∙ written_from n (runs n cs) (every_state_shaped n lo hi cs) x i v lx (omega arith) li (omega arith) t ds

-- A list once told: its pairs are in registers that stay.
module _ (n : ℕ) (m : Machine) (M : Meets n m) (p : ℕ) (h : Has m p) (cs : List Call) where
  same : process_of (from m cs) p ≡ process_of m p
  same = finished_from n m M p h.low h.ended cs

  cell_stays : (s : Stage) → ShapedStage m.n (row_of m) s → finished s ≡ true → (j : ℕ) → 1 ≤ j → j ≤ 32 → has (found_of s) j ≡ true
      → cell_of (from m cs) (level_of s) j ≡ cell_of m (level_of s) j
  cell_stays Absent g t j lj hj o = not_both false t refl
  cell_stays (Running x k f) g t j lj hj o = not_both false t refl
  cell_stays (Finished x w) g t j lj hj o =
      (filled (has (row_of (from m cs) x) j) (cell_of (from m cs) x j) (cell_of m x j)
      (written_from n m M x j (cell_of m x j) g.low (omega (arith, g.high, M.shape.most)) lj hj
      (fill (has (row_of m x) j) (cell_of m x j) (cell_of m x j) (g.stands j o) refl) cs)).1
  cell_stays (Crashed x k f) g t j lj hj o = not_both false t refl

  held_stays : (j : ℕ) → 1 ≤ j → j ≤ m.n → has (found_of (stage_of m p)) j ≡ true
      → cell_of (from m cs) (level_of (stage_of (from m cs) p)) j ≡ cell_of m (level_of (stage_of m p)) j
  held_stays j lj hj o =
      ap (λ (P : Process). cell_of (from m cs) (level_of P.stage) j) same
      ∙ cell_stays (stage_of m p) (M.shape.process p h.low (omega (arith, h.high, M.shape.most))).stage h.ended j lj
      (omega (arith, hj, M.shape.most)) o

  one_size : (from m cs).n ≡ m.n
  one_size = (meets_from n m M cs).size ∙ sym M.size

  same_list : SameList m (from m cs) p
  same_list = record {
    process = same;
    pairs = λ j v. (
      λ w. record {
        low = w.low;
        high = omega (arith, w.high, one_size);
        seen = ap (λ (P : Process). has (found_of P.stage) j) same ∙ w.seen;
        held = held_stays j w.low w.high w.seen ∙ w.held;
      },
      λ w. (
          let hj : j ≤ m.n = omega (arith, w.high, one_size) in
          let o : has (found_of (stage_of m p)) j ≡ true = sym (ap (λ (P : Process). has (found_of P.stage) j) same) ∙ w.seen in
          record { low = w.low; high = hj; seen = o; held = sym (held_stays j w.low hj o) ∙ w.held }
          ),
    );
  }

pub finished_stays : FinishedStays
finished_stays n lo hi cs p h ds =
    subst (λ m. SameList (runs n cs) m p) (sym (leaves-append machine_taker (fresh n) cs ds)) (same_list n (runs n cs) (every_state_shaped n lo hi cs) p h ds)
