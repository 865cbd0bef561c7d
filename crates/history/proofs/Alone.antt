-- Nobody waits: a process that has entered and not crashed finishes by its own steps.
use mathlib.Core.Path.{◌≡◌, refl, sym, ap, subst, ◌∙◌}
use mathlib.Core.Logic.{◌≢◌}
use mathlib.Core.Bool.{Bool, true, false, ◌&&◌, false≢true}
use mathlib.Core.List.{List, ◌++◌, append_assoc}
use Prim.Native.Nat.{ℕ, zero, suc, ◌+◌, ◌-◌, ◌*◌, ◌≤◌}
use native.Mathlib.Omega.{arith}
use lib.ListN.{replicate, replicate-append-replicate}
use borrow.Author.Tests.{eq-eqb}
use Rattle.sets.specs.Members.{tick}
use Rattle.rules.specs.declared.Stage.{Stage}
use Rattle.rules.specs.declared.Stage.TheVariants.{Absent, Running, Finished, Crashed}
use Rattle.rules.specs.declared.Machine.{Machine}
use Rattle.rules.specs.Stands.{stage_of, entered}
use Rattle.rules.specs.State.{finished, crashed, accesses_of}
use Rattle.rules.specs.Calls.{number_of, accepted, fresh, step_of, crash_of, steps_of, finish_of}
use Rattle.rules.specs.Numbers.{crash_lines}
use Rattle.rules.specs.Statements.{Meets, Valid, none, Finishes, Sticks}
use Rattle.rules.proofs.Laws.Shape.{record_shaped}
use Rattle.rules.proofs.Laws.Did.{what_calls_do}
use Rattle.rules.proofs.Laws.Table.{table_of_numbers}
use Rattle.rules.proofs.Laws.Steps.{steps_on, steps_off}
use Rattle.rules.proofs.Laws.Accesses.{accesses_of_calls}
use Rattle.rules.proofs.Laws.Finishing.{finishes_unless_sticks, finishing_alone}
use Rattle.history.specs.Runs.{Call, steps, crashes, machine_taker, from, runs, tally, accepted_step_of, accepted_steps}
use Rattle.history.specs.Theorems.{AloneNeverOneNorSeven, FinishesAlone, AloneFinishes, WaitFree}
use Rattle.world.proofs.Laws.{leaves-append, counts-append}
use Rattle.history.proofs.Moves.{every_state_shaped}
use Rattle.history.proofs.Stays.{finished_from}
use Rattle.history.proofs.Counts.{accesses_counted}
use Rattle.history.proofs.Invariant.{Inv, inv_from, inv_runs}
use Rattle.history.proofs.Answers.{answer_fine}
use Rattle.world.specs.Calls.{counts, leaves}

-- Steps one after another are calls of a list.
pub steps_calls : (k : ℕ) (m : Machine) (p : ℕ) → accepted (steps_of k m p) ≡ true
    → ((steps_of k m p).machine ≡ from m (replicate k (steps p))) × (tally (accepted_step_of p) m (replicate k (steps p)) ≡ k)
unfolding steps_of leaves counts
steps_calls zero m p a = (refl, refl)
steps_calls (suc k) m p a = go (accepted (step_of m p)) refl (steps_calls k (step_of m p).machine p)
  where
    one : (t r : ℕ) → t ≡ 1 → r ≡ k → t + r ≡ suc k
    one t r e q = omega arith

    go : (b : Bool) → accepted (step_of m p) ≡ b
        → (accepted (steps_of k (step_of m p).machine p) ≡ true
        → ((steps_of k (step_of m p).machine p).machine ≡ from (step_of m p).machine (replicate k (steps p)))
        × (tally (accepted_step_of p) (step_of m p).machine (replicate k (steps p)) ≡ k))
        → ((steps_of (suc k) m p).machine ≡ from (step_of m p).machine (replicate k (steps p)))
        × (tick (accepted_step_of p (steps p) (accepted (step_of m p))) + tally (accepted_step_of p) (step_of m p).machine (replicate k (steps p)) ≡ suc k)
    go true t further =
        let r = further (sym (ap accepted (steps_on k m p t)) ∙ a) in (
          ap (λ c. c.machine) (steps_on k m p t) ∙ r.0,
          one _ _ (ap (λ b. tick (b && accepted (step_of m p))) (eq-eqb p p refl) ∙ ap tick t) r.1,
        )
    go false t further = absurd (false≢true (sym t ∙ sym (ap accepted (steps_off k m p t)) ∙ a))

-- Finishing alone from any state that a run leaves: no step of it is refused with 7.
never_sticks : (m : Machine) → Inv m → (p : ℕ) → Sticks m p → ⊥
never_sticks m I p r =
    let s = steps_calls r.steps m p r.made in
    (answer_fine (from m (replicate r.steps (steps p))) (inv_from m I (replicate r.steps (steps p))) (steps p)).1
    (ap (λ m'. number_of (step_of m' p).answer) (sym s.0) ∙ r.next)

-- Its number is that of a crash, or 0.
pub alone_never_one_nor_seven : AloneNeverOneNorSeven
alone_never_one_nor_seven n lo hi cs p = (
  λ e. (answer_fine m I (crashes p)).0 (crash-same 1 (omega arith) (omega arith) e),
  λ e. never_sticks m I p ((table_of_numbers.finish m I.meets.held p).seven.0 e).1,
)
  where
    m : Machine
    m = runs n cs

    I : Inv m
    I = inv_runs n lo hi cs

    crash-same : (k : ℕ) → k ≢ 0 → k ≢ 7 → number_of (finish_of m p).answer ≡ k → number_of (crash_of m p).answer ≡ k
    crash-same k nz n7 e = ((table_of_numbers.crash m p).some k nz).1 (((table_of_numbers.finish m I.meets.held p).some k nz n7).0 e)

pub alone_finishes : AloneFinishes
alone_finishes n lo hi cs p lp hp came alive going = go (stage_of (runs n cs) p) refl came alive going
  where
    I : Inv (runs n cs)
    I = inv_runs n lo hi cs

    size : (runs n cs).n ≡ n
    size = (every_state_shaped n lo hi cs).size

    ok : Valid (runs n cs) p
    ok = record { shape = record_shaped (runs n cs) I.meets.shape; low = lp; high = subst (λ k. p ≤ k) (sym size) hp }

    go : (s : Stage) → stage_of (runs n cs) p ≡ s → entered s ≡ true → crashed s ≡ false → finished s ≡ false → FinishesAlone n cs p
    go Absent e a b c = absurd (false≢true a)
    go (Finished x w) e a b c = absurd (false≢true (sym c))
    go (Crashed x k f) e a b c = absurd (false≢true (sym b))
    go (Running x k f) e a b c =
        record {
          accepts = accepts;
          more = more;
          calls = left;
          ended = subst (λ m. finished (stage_of m p) ≡ true) (as_calls.0 ∙ sym (leaves-append machine_taker (fresh n) cs ds)) done.ended;
          all = all;
          most = most;
        }
      where
        no_line : none (crash_lines (runs n cs) p) ≡ true
        no_line =
            (table_of_numbers.crash (runs n cs) p).nothing.0
            (ap (λ c. number_of c.answer) (what_calls_do.crashes (runs n cs) p ok x k f e))

        done : Finishes (runs n cs) p
        done = finishes_unless_sticks (runs n cs) I.meets.held p no_line (never_sticks (runs n cs) I p)

        accepts : accepted (finish_of (runs n cs) p) ≡ true
        accepts =
            eq-eqb (number_of (finish_of (runs n cs) p).answer) 0
            ((table_of_numbers.finish (runs n cs) I.meets.held p).nothing.1 (no_line, done))

        more : ℕ
        more = done.steps

        ds : List Call
        ds = replicate more (steps p)

        as_calls : ((steps_of more (runs n cs) p).machine ≡ from (runs n cs) ds) × (tally (accepted_step_of p) (runs n cs) ds ≡ more)
        as_calls = steps_calls more (runs n cs) p done.made

        left : (finish_of (runs n cs) p).machine ≡ runs n (cs ++ ds)
        left =
            ap (λ c. c.machine) (finishing_alone.equals (runs n cs) I.meets.held p accepts done) ∙ as_calls.0
            ∙ sym (leaves-append machine_taker (fresh n) cs ds)

        all : accepted_steps n (cs ++ ds) p ≡ accepted_steps n cs p + more
        all = counts-append machine_taker (accepted_step_of p) (fresh n) cs ds ∙ ap (λ k. accepted_steps n cs p + k) as_calls.1

        most : accepted_steps n (cs ++ ds) p ≤ n * (n + 1)
        most = subst (λ k. k ≤ n * (n + 1)) (accesses_counted n lo hi (cs ++ ds) p lp hp) bounded
          where
            M : Meets n (runs n (cs ++ ds))
            M = every_state_shaped n lo hi (cs ++ ds)

            bounded : accesses_of n (stage_of (runs n (cs ++ ds)) p) ≤ n * (n + 1)
            bounded =
                subst (λ k. accesses_of k (stage_of (runs n (cs ++ ds)) p) ≤ k * (k + 1)) M.size
                (accesses_of_calls.most (runs n (cs ++ ds)) M.shape p lp (subst (λ k. p ≤ k) (sym M.size) hp))

pub wait_free : WaitFree
wait_free n lo hi cs p lp hp came alive k enough = go (finished (stage_of (runs n cs) p)) refl
  where
    -- once it has finished, further steps change nothing
    after_all : (before rest : List Call) → finished (stage_of (runs n before) p) ≡ true → finished (stage_of (runs n (before ++ rest)) p) ≡ true
    after_all before rest t =
        subst (λ m. finished (stage_of m p) ≡ true) (sym (leaves-append machine_taker (fresh n) before rest))
        (ap (λ P. finished P.stage) (finished_from n (runs n before) (every_state_shaped n lo hi before) p lp t rest) ∙ t)

    go : (b : Bool) → finished (stage_of (runs n cs) p) ≡ b → finished (stage_of (runs n (cs ++ replicate k (steps p))) p) ≡ true
    go true t = after_all cs (replicate k (steps p)) t
    go false t =
        subst (λ l. finished (stage_of (runs n l) p) ≡ true) joined
        (after_all (cs ++ replicate alone.more (steps p)) (replicate (k - alone.more) (steps p)) alone.ended)
      where
        alone : FinishesAlone n cs p
        alone = alone_finishes n lo hi cs p lp hp came alive t

        fits : alone.more + (k - alone.more) ≡ k
        fits = room _ _ _ _ alone.all alone.most enough
          where
            room : (a b d most : ℕ) → a ≡ b + d → a ≤ most → most ≤ b + k → d + (k - d) ≡ k
            room a b d most e le some = omega arith

        joined : (cs ++ replicate alone.more (steps p)) ++ replicate (k - alone.more) (steps p) ≡ cs ++ replicate k (steps p)
        joined =
            append_assoc cs (replicate alone.more (steps p)) (replicate (k - alone.more) (steps p))
            ∙ ap (λ l. cs ++ l) (replicate-append-replicate alone.more (k - alone.more) (steps p) ∙ ap (λ j. replicate j (steps p)) fits)
