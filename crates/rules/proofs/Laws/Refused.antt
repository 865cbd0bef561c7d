-- A refused call hands back the state that it was given.
use mathlib.Core.Path.{◌≡◌, refl, sym, ◌∙◌}
use mathlib.Core.Logic.{◌≢◌}
use mathlib.Core.Bool.{Bool, true, false, ◌&&◌, cond, true≢false}
use Prim.Native.Nat.{ℕ, ◌+◌, ◌-◌}
use lib.Dec.{leb, ltb, eqb}
use Rattle.sets.specs.Members.{size}
use Rattle.rules.specs.declared.Stage.{Stage}
use Rattle.rules.specs.declared.Stage.TheVariants.{Absent, Running, Finished, Crashed}
use Rattle.rules.specs.declared.Machine.{Machine}
use Rattle.rules.specs.declared.Answer.TheVariants.{NotShaped, NoProcess, NoLevelBelow, OutOfRange}
use Rattle.rules.specs.declared.Called.{Called}
use Rattle.rules.specs.declared.Standing.{Standing}
use Rattle.rules.specs.declared.Sight.{Sight}
use Rattle.rules.specs.Stands.{stage_of, row_of}
use Rattle.rules.specs.State.{with_stage}
use Rattle.rules.specs.Shape.{shaped}
use Rattle.rules.specs.Calls.{number_of, accepted, done, refused, fresh, new_of, tested, enter_at, enter_of, crash_at, crash_of, reading}
use Rattle.rules.specs.Calls.{write, settle, access, step_at, step_of, finish_from, or_as_at_entry, finish_at, finish_of, looked, unseen, look_of}
use Rattle.rules.specs.Statements.{no_view, RefusedHandsBack}

-- what a call leaves of m if it is refused
abbrev HandsBack : Machine → Called → Type 0
HandsBack m c = accepted c ≡ false → c.machine ≡ m

hands_tested : (m : Machine) (p : ℕ) (c : Called) → HandsBack m c → HandsBack m (tested m p c)
hands_tested m p c h = go (shaped m) (leb 1 p && leb p m.n)
  where
    go : (s r : Bool) → HandsBack m (cond s (cond r c (refused NoProcess m)) (refused NotShaped m))
    go true true = h
    go true false = λ _. refl
    go false r = λ _. refl

hands_enter : (s : Stage) (m : Machine) (p v : ℕ) → HandsBack m (enter_at s m p v)
hands_enter Absent m p v a = absurd (true≢false a)
hands_enter (Running x k f) m p v a = refl
hands_enter (Finished x w) m p v a = refl
hands_enter (Crashed x k f) m p v a = refl

hands_crash : (s : Stage) (m : Machine) (p : ℕ) → HandsBack m (crash_at s m p)
hands_crash Absent m p a = refl
hands_crash (Running x k f) m p a = absurd (true≢false a)
hands_crash (Finished x w) m p a = refl
hands_crash (Crashed x k f) m p a = refl

hands_settle : (m : Machine) (p x f : ℕ) → HandsBack m (settle m p x f)
unfolding settle
hands_settle m p x f = go (eqb (size f) x) (eqb x 1)
  where
    go : (s o : Bool)
        → HandsBack m (cond s (done (with_stage m p (Finished x f))) (cond o (refused NoLevelBelow m) (done (with_stage m p (Running (x - 1) 0 0)))))
    go true o a = absurd (true≢false a)
    go false true a = refl
    go false false a = absurd (true≢false a)

hands_access : (m : Machine) (p x k f : ℕ) → HandsBack m (access m p x k f)
unfolding access
hands_access m p x k f = go (eqb k 0) (ltb k m.n)
  where
    go : (z l : Bool)
        → HandsBack m (cond z (done (write m p x f))
        (cond l (done (with_stage m p (Running x (k + 1) (reading (row_of m x) k f)))) (settle m p x (reading (row_of m x) k f))))
    go true l a = absurd (true≢false a)
    go false true a = absurd (true≢false a)
    go false false a = hands_settle m p x (reading (row_of m x) k f) a

hands_step : (s : Stage) (m : Machine) (p : ℕ) → HandsBack m (step_at s m p)
hands_step Absent m p a = refl
hands_step (Running x k f) m p a = hands_access m p x k f a
hands_step (Finished x w) m p a = refl
hands_step (Crashed x k f) m p a = refl

hands_entry : (m : Machine) (c : Called) → HandsBack m (or_as_at_entry m c)
hands_entry m c = go (accepted c) refl
  where
    go : (b : Bool) → accepted c ≡ b → HandsBack m (cond b c (refused c.answer m))
    go true e a = absurd (true≢false (sym e ∙ a))
    go false e a = refl

hands_finish : (s : Stage) (m : Machine) (p : ℕ) → HandsBack m (finish_at s m p)
hands_finish Absent m p a = refl
hands_finish (Running x k f) m p a = hands_entry m (finish_from x m p) a
hands_finish (Finished x w) m p a = refl
hands_finish (Crashed x k f) m p a = refl

enter_back : (m : Machine) (p v : ℕ) → HandsBack m (enter_of m p v)
unfolding enter_of
enter_back m p v = hands_tested m p (enter_at (stage_of m p) m p v) (hands_enter (stage_of m p) m p v)

step_back : (m : Machine) (p : ℕ) → HandsBack m (step_of m p)
unfolding step_of
step_back m p = hands_tested m p (step_at (stage_of m p) m p) (hands_step (stage_of m p) m p)

crash_back : (m : Machine) (p : ℕ) → HandsBack m (crash_of m p)
unfolding crash_of
crash_back m p = hands_tested m p (crash_at (stage_of m p) m p) (hands_crash (stage_of m p) m p)

finish_back : (m : Machine) (p : ℕ) → HandsBack m (finish_of m p)
unfolding finish_of
finish_back m p = hands_tested m p (finish_at (stage_of m p) m p) (hands_finish (stage_of m p) m p)

new_back : (n : ℕ) → accepted (new_of n) ≡ false → (new_of n).machine ≡ fresh 1
unfolding new_of
new_back n = go (leb 1 n && leb n 32)
  where
    go : (b : Bool) → accepted (cond b (done (fresh n)) (refused OutOfRange (fresh 1))) ≡ false
        → (cond b (done (fresh n)) (refused OutOfRange (fresh 1))).machine ≡ fresh 1
    go true a = absurd (true≢false a)
    go false a = refl

look_back : (m : Machine) (p : ℕ) → number_of (look_of m p).answer ≢ 0 → look_of m p ≡ no_view (look_of m p).answer Standing.Absent 0 0
unfolding look_of
look_back m p = go (shaped m) (leb 1 p && leb p m.n)
  where
    at : Bool → Bool → Sight
    at s r = cond s (cond r (looked m (stage_of m p)) (unseen NoProcess)) (unseen NotShaped)

    go : (s r : Bool) → number_of (at s r).answer ≢ 0 → at s r ≡ no_view (at s r).answer Standing.Absent 0 0
    go true true ne = absurd (ne refl)
    go true false ne = refl
    go false r ne = refl

pub refused_hands_back : RefusedHandsBack
refused_hands_back = record { enter = enter_back; step = step_back; crash = crash_back; finish = finish_back; new = new_back; look = look_back }
