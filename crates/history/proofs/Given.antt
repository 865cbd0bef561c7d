-- The value of a process is the one that the list of calls gave it at its accepted enter, and it has entered exactly if there was one.
use mathlib.Core.Path.{◌≡◌, refl, sym, ap, ◌∙◌}
use mathlib.Core.Bool.{Bool, true, false, ◌&&◌, ◌||◌, cond, or-true, or-false, or_assoc}
use mathlib.Core.List.{List, [], ◌∷◌}
use Prim.Native.Nat.{ℕ, suc, ◌≤◌}
use native.Mathlib.Omega.{arith}
use lib.Dec.{eqb}
use borrow.Author.Tests.{eq-eqb}
use Rattle.rules.specs.declared.Machine.{Machine}
use Rattle.rules.specs.Stands.{stage_of, value_of, entered}
use Rattle.rules.specs.Calls.{accepted, fresh, enter_of, step_of, crash_of}
use Rattle.rules.specs.Statements.{Meets}
use Rattle.rules.proofs.Laws.Small.{not_both}
use Rattle.rules.proofs.Laws.Did.{what_calls_did}
use Rattle.rules.proofs.Laws.Keeps.{every_state_meets}
use Rattle.rules.proofs.Laws.Effects.{effects_of_calls}
use Rattle.history.specs.Runs.{Call, enters, steps, crashes, answer, after, from, runs, given, is_enter_of, entered_from}
use Rattle.history.specs.Theorems.{EnteredByCall}
use Rattle.history.proofs.Moves.{gives, given_from, nobody_yet, meets_after, stepped, by_call}
use Rattle.history.proofs.Levels.{step_falls, crashed-entered}
use Rattle.world.specs.Calls.{leaves, deposits}
use Rattle.world.specs.Counts.{admits}

-- whoever has entered keeps its value
keeps : (n : ℕ) (m : Machine) → Meets n m → (p : ℕ) → 1 ≤ p → entered (stage_of m p) ≡ true → (c : Call)
    → (entered (stage_of (after m c) p) ≡ true) × (value_of (after m c) p ≡ value_of m p)
keeps n m M p lp was =
    by_call m M.held p lp (λ c. (entered (stage_of (after m c) p) ≡ true) × (value_of (after m c) p ≡ value_of m p))
    (λ c e _ _. (ap (λ P. entered P.stage) e ∙ was, ap (λ P. P.value) e))
    (λ v a. not_both (entered (stage_of m p)) was (ap entered (what_calls_did.enter m p v a).1.was))
    (λ a. ((step_falls m (step_of m p).machine p (stepped m M.held p a)).1, (effects_of_calls.step m M.held p a).value))
    (λ a. let e = effects_of_calls.crash m M.held p a in (crashed-entered (stage_of (crash_of m p).machine p) e.never_moves, e.value))

pub kept_from : (n : ℕ) (m : Machine) → Meets n m → (p : ℕ) → 1 ≤ p → entered (stage_of m p) ≡ true → (cs : List Call)
    → (entered (stage_of (from m cs) p) ≡ true) × (value_of (from m cs) p ≡ value_of m p)
unfolding leaves
kept_from n m M p lp was [] = (was, refl)
kept_from n m M p lp was (c ∷ cs) =
    let k = keeps n m M p lp was c in
    let r = kept_from n (after m c) (meets_after n m M c) p lp k.0 cs in
    (r.0, r.1 ∙ k.1)

given-from : (n : ℕ) (m : Machine) → Meets n m → (p : ℕ) → 1 ≤ p → p ≤ 32 → entered (stage_of m p) ≡ false → (cs : List Call)
    → value_of (from m cs) p ≡ given_from m cs p
unfolding leaves deposits
given-from n m M p lp hp none [] = (M.shape.process p lp hp).absent none
given-from n m M p lp hp none (c ∷ cs) =
    by_call m M.held p lp (λ c. value_of (from (after m c) cs) p ≡ gives m c p (given_from (after m c) cs p))
    (λ c e _ o.
    given-from n (after m c) (meets_after n m M c) p lp hp (ap (λ P. entered P.stage) e ∙ none) cs ∙ sym (o (given_from (after m c) cs p)))
    (λ v a.
    let e = effects_of_calls.enter m M.held p v a in
    (kept_from n (after m (enters p v)) (meets_after n m M (enters p v)) p lp (ap entered e.stage) cs).1 ∙ e.value
    ∙ sym (ap (λ b. cond (b && accepted (enter_of m p v)) v (given_from (after m (enters p v)) cs p)) (eq-eqb p p refl)
    ∙ ap (λ b. cond b v (given_from (after m (enters p v)) cs p)) a))
    (λ a. not_both (entered (stage_of m p)) (step_falls m (step_of m p).machine p (stepped m M.held p a)).0 none)
    (λ a. not_both (entered (stage_of m p)) (ap entered (what_calls_did.crash m p a).1.was) none) c

pub value_given : (n : ℕ) → 1 ≤ n → n ≤ 32 → (cs : List Call) (p : ℕ) → 1 ≤ p → p ≤ 32 → value_of (runs n cs) p ≡ given n cs p
value_given n lo hi cs p lp hp =
    given-from n (fresh n) (every_state_meets.starts n lo hi) p lp hp (ap (λ P. entered P.stage) (nobody_yet n p)) cs

-- a call that gives p no value is no accepted enter of p
no_enter : (b : Bool) (v : ℕ) → cond b v (suc v) ≡ suc v → b ≡ false
no_enter true v e = absurd (omega arith)
no_enter false v e = refl

not_entering : (m : Machine) (p : ℕ) (c : Call) → ((o : ℕ) → gives m c p o ≡ o) → (is_enter_of p c && accepted (answer m c)) ≡ false
not_entering m p (enters q v) h = no_enter (eqb q p && accepted (enter_of m q v)) v (h (suc v))
not_entering m p (steps q) h = refl
not_entering m p (crashes q) h = refl

enters_once : (n : ℕ) (m : Machine) → Meets n m → (p : ℕ) → 1 ≤ p → (c : Call)
    → entered (stage_of (after m c) p) ≡ (entered (stage_of m p) || is_enter_of p c && accepted (answer m c))
enters_once n m M p lp =
    by_call m M.held p lp (λ c. entered (stage_of (after m c) p) ≡ (entered (stage_of m p) || is_enter_of p c && accepted (answer m c)))
    (λ c e _ o.
    ap (λ P. entered P.stage) e ∙ sym (ap (λ b. entered (stage_of m p) || b) (not_entering m p c o) ∙ or-false (entered (stage_of m p))))
    (λ v a.
    ap entered (effects_of_calls.enter m M.held p v a).stage
    ∙ sym (ap (λ b. entered (stage_of m p) || b) (ap (λ b. b && accepted (enter_of m p v)) (eq-eqb p p refl) ∙ a) ∙ or-true (entered (stage_of m p))))
    (λ a. let f = step_falls m (step_of m p).machine p (stepped m M.held p a) in f.1 ∙ sym (ap (λ b. b || false) f.0))
    (λ a.
    crashed-entered (stage_of (crash_of m p).machine p) (effects_of_calls.crash m M.held p a).never_moves
    ∙ sym (ap (λ b. entered b || false) (what_calls_did.crash m p a).1.was))

entered_from_lem : (n : ℕ) (m : Machine) → Meets n m → (p : ℕ) → 1 ≤ p → (cs : List Call)
    → entered (stage_of (from m cs) p) ≡ (entered (stage_of m p) || entered_from m cs p)
unfolding leaves admits
entered_from_lem n m M p lp [] = sym (or-false (entered (stage_of m p)))
entered_from_lem n m M p lp (c ∷ cs) =
    entered_from_lem n (after m c) (meets_after n m M c) p lp cs
    ∙ ap (λ b. b || entered_from (after m c) cs p) (enters_once n m M p lp c)
    ∙ or_assoc (entered (stage_of m p)) (is_enter_of p c && accepted (answer m c)) (entered_from (after m c) cs p)

pub entered_by_call : EnteredByCall
entered_by_call n lo hi cs p lp =
    entered_from_lem n (fresh n) (every_state_meets.starts n lo hi) p lp cs
    ∙ ap (λ P. entered P.stage || entered_from (fresh n) cs p) (nobody_yet n p)
