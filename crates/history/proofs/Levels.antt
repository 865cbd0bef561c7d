-- Levels only fall: whoever has ever been at level x is at level x or below at the end, where at most x are.
use mathlib.Core.Path.{◌≡◌, refl, sym, ap, subst, ◌∙◌}
use mathlib.Core.Logic.{◌⊎◌, inl, inr}
use mathlib.Core.Bool.{Bool, true, ◌&&◌}
use mathlib.Core.List.{List, [], ◌∷◌}
use Prim.Native.Nat.{ℕ, ◌-◌, ◌≤◌}
use native.Mathlib.Omega.{arith}
use lib.Dec.{leb, eqb}
use borrow.Author.Tests.{leb-true, le-leb, eqb-true}
use Rattle.sets.specs.Members.{count}
use Rattle.sets.proofs.Laws.{count_mono}
use Rattle.rules.specs.declared.Stage.{Stage}
use Rattle.rules.specs.declared.Stage.TheVariants.{Absent, Running, Finished, Crashed}
use Rattle.rules.specs.declared.Machine.{Machine}
use Rattle.rules.specs.Stands.{stage_of, entered}
use Rattle.rules.specs.State.{crashed, level_of}
use Rattle.rules.specs.Calls.{fresh, step_of, crash_of}
use Rattle.rules.specs.Statements.{Meets}
use Rattle.rules.proofs.Laws.Small.{not_both, and_first, and_second, both, or_true}
use Rattle.rules.proofs.Laws.Did.{what_calls_did}
use Rattle.rules.proofs.Laws.Keeps.{every_state_meets}
use Rattle.rules.proofs.Laws.Effects.{effects_of_calls}
use Rattle.history.specs.Runs.{Call, after, from, runs, reached}
use Rattle.history.specs.Theorems.{AtMostXReachX}
use Rattle.history.proofs.Moves.{reached_from, meets_after, every_state_shaped, Stepped, writing, finding, ending, falling, stepped, by_call}
use Rattle.history.proofs.Invariant.{Inv, at_most_lem, level_most, inv_runs}
use Rattle.world.specs.Calls.{ever, leaves}

same : (x a b : ℕ) → a ≡ x → b ≡ x → a ≤ b
same x a b e q = omega arith

-- A step leaves its process entered, at its level or the next lower one.
pub step_falls : (m m' : Machine) (p : ℕ) → Stepped m m' p
    → (entered (stage_of m p) ≡ true) × (entered (stage_of m' p) ≡ true) × (level_of (stage_of m' p) ≤ level_of (stage_of m p))
step_falls m m' p (writing x f was now) = (ap entered was, ap entered now, same x _ _ (ap level_of now) (ap level_of was))
step_falls m m' p (finding x k f was lo hi now) = (ap entered was, ap entered now, same x _ _ (ap level_of now) (ap level_of was))
step_falls m m' p (ending x f was e now) = (ap entered was, ap entered now, same x _ _ (ap level_of now) (ap level_of was))
step_falls m m' p (falling x f was ne two now) = (ap entered was, ap entered now, lower _ _ (ap level_of now) (ap level_of was))
  where
    lower : (a b : ℕ) → a ≡ x - 1 → b ≡ x → a ≤ b
    lower a b e q = omega arith

pub crashed-entered : (s : Stage) → crashed s ≡ true → entered s ≡ true
crashed-entered Absent e = e
crashed-entered (Running x k f) e = refl
crashed-entered (Finished x w) e = refl
crashed-entered (Crashed x k f) e = refl

low : (s : Stage) (x : ℕ) → entered s ≡ true → level_of s ≤ x → (entered s && leb (level_of s) x) ≡ true
low s x e le = both (entered s) _ e (le-leb (level_of s) x le)

sinks : (n : ℕ) (m : Machine) → Meets n m → (p : ℕ) → 1 ≤ p → (x : ℕ) → at_most_lem m x p ≡ true → (c : Call) → at_most_lem (after m c) x p ≡ true
sinks n m M p lp x t =
    by_call m M.held p lp (λ c. at_most_lem (after m c) x p ≡ true)
    (λ c e _ _. ap (λ P. entered P.stage && leb (level_of P.stage) x) e ∙ t)
    (λ v a. not_both (entered (stage_of m p)) was (ap entered (what_calls_did.enter m p v a).1.was))
    (λ a.
    let f = step_falls m (step_of m p).machine p (stepped m M.held p a) in
    low (stage_of (step_of m p).machine p) x f.1 (omega (arith, f.2, le)))
    (λ a.
    let e = effects_of_calls.crash m M.held p a in
    low (stage_of (crash_of m p).machine p) x (crashed-entered (stage_of (crash_of m p).machine p) e.never_moves)
    (subst (λ l. l ≤ x) (sym e.level) le))
  where
    was : entered (stage_of m p) ≡ true
    was = and_first (entered (stage_of m p)) _ t

    le : level_of (stage_of m p) ≤ x
    le = leb-true _ x (and_second (entered (stage_of m p)) _ t)

sinks_from : (n : ℕ) (m : Machine) → Meets n m → (p : ℕ) → 1 ≤ p → (x : ℕ) → at_most_lem m x p ≡ true → (cs : List Call) → at_most_lem (from m cs) x p ≡ true
unfolding leaves
sinks_from n m M p lp x t [] = t
sinks_from n m M p lp x t (c ∷ cs) = sinks_from n (after m c) (meets_after n m M c) p lp x (sinks n m M p lp x t c) cs

-- a process at a level of 1 or more has entered
at_level_lem : (s : Stage) (x : ℕ) → 1 ≤ x → eqb (level_of s) x ≡ true → (entered s && leb (level_of s) x) ≡ true
at_level_lem s x lx t = low s x (go s (eqb-true (level_of s) x t)) (omega (arith, eqb-true (level_of s) x t))
  where
    go : (s : Stage) → level_of s ≡ x → entered s ≡ true
    go Absent e = absurd (let z : ⊥ = omega arith in z)
    go (Running y k f) e = refl
    go (Finished y w) e = refl
    go (Crashed y k f) e = refl

reached_sinks : (n : ℕ) (m : Machine) → Meets n m → (cs : List Call) (x p : ℕ) → 1 ≤ x → 1 ≤ p → reached_from m cs x p ≡ true
    → at_most_lem (from m cs) x p ≡ true
unfolding leaves ever
reached_sinks n m M [] x p lx lp t = at_level_lem (stage_of m p) x lx t
reached_sinks n m M (c ∷ cs) x p lx lp t =
    go (or_true (eqb (level_of (stage_of m p)) x) (reached_from (after m c) cs x p) t) (reached_sinks n (after m c) (meets_after n m M c) cs x p lx lp)
  where
    go : (eqb (level_of (stage_of m p)) x ≡ true) ⊎ (reached_from (after m c) cs x p ≡ true)
        → (reached_from (after m c) cs x p ≡ true → at_most_lem (from (after m c) cs) x p ≡ true) → at_most_lem (from (after m c) cs) x p ≡ true
    go (inl here) further = sinks_from n m M p lp x (at_level_lem (stage_of m p) x lx here) (c ∷ cs)
    go (inr there) further = further there

pub at_most_x_reach_x : AtMostXReachX
at_most_x_reach_x n lo hi cs x lx hx =
    bound (runs n cs) (inv_runs n lo hi cs) (every_state_shaped n lo hi cs).size (reached n cs x)
    (λ p lp _ t. reached_sinks n (fresh n) (every_state_meets.starts n lo hi) cs x p lx lp t)
  where
    bound : (m : Machine) → Inv m → m.n ≡ n → (f : ℕ → Bool) → ((p : ℕ) → 1 ≤ p → p ≤ n → f p ≡ true → at_most_lem m x p ≡ true) → count f n ≤ x
    bound m I e f sub =
        let some : count (at_most_lem m x) n ≤ x = subst (λ k. count (at_most_lem m x) k ≤ x) e (level_most m I x (omega arith)) in
        omega (arith, count_mono f (at_most_lem m x) n sub)
