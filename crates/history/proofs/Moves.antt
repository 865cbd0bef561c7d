-- What one call does: every state of a run is well shaped, an accepted step as an equation on stages, and the four cases of what a call does to one
-- process, by which every induction over a list of calls goes.
use mathlib.Core.Path.{◌≡◌, refl, sym, ap, subst, ◌∙◌}
use mathlib.Core.Logic.{◌⊎◌, inl, inr, ◌≢◌}
use mathlib.Core.Bool.{Bool, true, false, ◌&&◌, cond, and-false}
use mathlib.Core.List.{List, [], ◌∷◌}
use Prim.Native.Nat.{ℕ, zero, suc, ◌+◌, ◌-◌, ◌≤◌, ◌<◌}
use lib.Dec.{eqb}
use lib.ListN.{get_or, replicate}
use borrow.Author.Tests.{ne_eqb}
use Rattle.sets.specs.Members.{size}
use Rattle.rules.specs.declared.Stage.TheVariants.{Running, Finished}
use Rattle.rules.specs.declared.Process.{Process}
use Rattle.rules.specs.declared.Machine.{Machine}
use Rattle.rules.specs.Stands.{nobody, process_of, stage_of, value_of, row_of}
use Rattle.rules.specs.State.{with_process, with_register}
use Rattle.rules.specs.Shape.{Held}
use Rattle.rules.specs.Calls.{accepted, fresh, enter_of, step_of, crash_of, reading}
use Rattle.rules.specs.Statements.{Meets, Valid, at_last}
use Rattle.rules.proofs.Laws.Small.{equal_or_not}
use Rattle.rules.proofs.Laws.Stores.{process-same}
use Rattle.rules.proofs.Laws.Did.{DidStep, did_write, did_read, did_finish, did_fall}
use Rattle.rules.proofs.Laws.Did.{what_calls_did}
use Rattle.rules.proofs.Laws.Refused.{refused_hands_back}
use Rattle.rules.proofs.Laws.Keeps.{every_state_meets, held_register}
use Rattle.rules.proofs.Laws.Effects.{in_range_lem, effects_of_calls}
use Rattle.history.specs.Runs.{Call, enters, steps, crashes, answer, after, machine_taker, from, accepted_step_of, at_level}
use Rattle.history.specs.Theorems.{EveryStateShaped}
use Rattle.world.specs.Calls.{leaves, ever, gives_by, deposits}

-- what a call gives to p; who has reached a level; what was deposited, from any machine on
abbrev pub gives : Machine → Call → ℕ → ℕ → ℕ
gives m c p other = gives_by p c (accepted (answer m c)) other

abbrev pub reached_from : Machine → List Call → ℕ → ℕ → Bool
reached_from m cs x p = ever machine_taker (at_level x p) m cs

abbrev pub given_from : Machine → List Call → ℕ → ℕ
given_from m cs p = deposits machine_taker m cs p

pub meets_after : (n : ℕ) (m : Machine) → Meets n m → (c : Call) → Meets n (after m c)
meets_after n m M (enters p v) = every_state_meets.enter n m M p v
meets_after n m M (steps p) = every_state_meets.step n m M p
meets_after n m M (crashes p) = every_state_meets.crash n m M p

pub meets_from : (n : ℕ) (m : Machine) → Meets n m → (cs : List Call) → Meets n (from m cs)
unfolding leaves
meets_from n m M [] = M
meets_from n m M (c ∷ cs) = meets_from n (after m c) (meets_after n m M c) cs

pub every_state_shaped : EveryStateShaped
every_state_shaped n lo hi cs = meets_from n _ (every_state_meets.starts n lo hi) cs

-- nobody has entered a fresh machine
pub blank {ℓ} : {A : Type ℓ} (k i : ℕ) (a : A) → get_or (replicate k a) i a ≡ a
blank zero i a = refl
blank (suc k) zero a = refl
blank (suc k) (suc i) a = blank k i a

pub nobody_yet : (n p : ℕ) → process_of (fresh n) p ≡ nobody
nobody_yet n p = blank 32 (p - 1) nobody

-- An accepted step by what stands at the process before and after it.
pub data Stepped (m m' : Machine) (p : ℕ) : Type 0 where
  writing : (x f : ℕ) → stage_of m p ≡ Running x 0 f → stage_of m' p ≡ Running x 1 f → Stepped m m' p
  finding : (x k f : ℕ) → stage_of m p ≡ Running x k f → 1 ≤ k → k < m.n → stage_of m' p ≡ Running x (k + 1) (reading (row_of m x) k f)
      → Stepped m m' p
  ending : (x f : ℕ) → stage_of m p ≡ Running x m.n f → size (at_last m x f) ≡ x → stage_of m' p ≡ Finished x (at_last m x f) → Stepped m m' p
  falling : (x f : ℕ) → stage_of m p ≡ Running x m.n f → size (at_last m x f) ≢ x → 2 ≤ x → stage_of m' p ≡ Running (x - 1) 0 0 → Stepped m m' p

pub stepped : (m : Machine) → Held m → (p : ℕ) → accepted (step_of m p) ≡ true → Stepped m (step_of m p).machine p
stepped m h p a = go (what_calls_did.step m p a).1
  where
    v : Valid m p
    v = (what_calls_did.step m p a).0

    now : (base : Machine) → Held base → (P : Process) → (step_of m p).machine ≡ with_process base p P → stage_of (step_of m p).machine p ≡ P.stage
    now base hb P e = ap (λ m'. stage_of m' p) e ∙ ap (λ Q. Q.stage) (process-same base hb p v.low (in_range_lem m p v) P)

    go : DidStep m p (step_of m p) → Stepped m (step_of m p).machine p
    go (did_write x f was left) =
        writing x f was
        (now (with_register m x p (value_of m p)) (held_register m h x p (value_of m p)) (record { stage = Running x 1 f; value = value_of m p })
        (ap (λ c. c.machine) left))
    go (did_read x k f was lo hi left) =
        finding x k f was lo hi
        (now m h (record { stage = Running x (k + 1) (reading (row_of m x) k f); value = value_of m p }) (ap (λ c. c.machine) left))
    go (did_finish x f was e left) =
        ending x f was e (now m h (record { stage = Finished x (at_last m x f); value = value_of m p }) (ap (λ c. c.machine) left))
    go (did_fall x f was ne two left) =
        falling x f was ne two (now m h (record { stage = Running (x - 1) 0 0; value = value_of m p }) (ap (λ c. c.machine) left))

-- What a call does to process p: it stays as it was, and the call is neither an accepted step nor an accepted enter of p; or the call is an
-- accepted enter, step or crash of p.
pub by_call : (m : Machine) → Held m → (p : ℕ) → 1 ≤ p → (Q : Call → Type 0)
    → ((c : Call) → process_of (after m c) p ≡ process_of m p → accepted_step_of p c (accepted (answer m c)) ≡ false → ((o : ℕ) → gives m c p o ≡ o) → Q c)
    → ((v : ℕ) → accepted (enter_of m p v) ≡ true → Q (enters p v)) → (accepted (step_of m p) ≡ true → Q (steps p))
    → (accepted (crash_of m p) ≡ true → Q (crashes p)) → (c : Call) → Q c
by_call m h p lp Q same enter step crash (enters q v) = go (accepted (enter_of m q v)) refl (equal_or_not q p)
  where
    go : (b : Bool) → accepted (enter_of m q v) ≡ b → (q ≡ p) ⊎ (q ≢ p) → Q (enters q v)
    go true a (inl e) = subst (λ r. Q (enters r v)) (sym e) (enter v (subst (λ r. accepted (enter_of m r v) ≡ true) e a))
    go true a (inr ne) =
        same (enters q v) ((effects_of_calls.enter m h q v a).rest.others p lp (λ e. ne (sym e))) refl
        (λ o. ap (λ b. cond (b && accepted (enter_of m q v)) v o) (ne_eqb q p ne))
    go false a e =
        same (enters q v) (ap (λ m'. process_of m' p) (refused_hands_back.enter m q v a)) refl
        (λ o. ap (λ b. cond (eqb q p && b) v o) a ∙ ap (λ b. cond b v o) (and-false (eqb q p)))
by_call m h p lp Q same enter step crash (steps q) = go (accepted (step_of m q)) refl (equal_or_not q p)
  where
    go : (b : Bool) → accepted (step_of m q) ≡ b → (q ≡ p) ⊎ (q ≢ p) → Q (steps q)
    go true a (inl e) = subst (λ r. Q (steps r)) (sym e) (step (subst (λ r. accepted (step_of m r) ≡ true) e a))
    go true a (inr ne) =
        same (steps q) ((effects_of_calls.step m h q a).rest.others p lp (λ e. ne (sym e))) (ap (λ b. b && accepted (step_of m q)) (ne_eqb q p ne))
        (λ o. refl)
    go false a e =
        same (steps q) (ap (λ m'. process_of m' p) (refused_hands_back.step m q a)) (ap (λ b. eqb q p && b) a ∙ and-false (eqb q p)) (λ o. refl)
by_call m h p lp Q same enter step crash (crashes q) = go (accepted (crash_of m q)) refl (equal_or_not q p)
  where
    go : (b : Bool) → accepted (crash_of m q) ≡ b → (q ≡ p) ⊎ (q ≢ p) → Q (crashes q)
    go true a (inl e) = subst (λ r. Q (crashes r)) (sym e) (crash (subst (λ r. accepted (crash_of m r) ≡ true) e a))
    go true a (inr ne) = same (crashes q) ((effects_of_calls.crash m h q a).rest.others p lp (λ e. ne (sym e))) refl (λ o. refl)
    go false a e = same (crashes q) (ap (λ m'. process_of m' p) (refused_hands_back.crash m q a)) refl (λ o. refl)
