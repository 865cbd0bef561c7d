-- What an accepted call changes, and that it changes nothing else.
use mathlib.Core.Path.{◌≡◌, refl, sym, ap, subst, ◌∙◌}
use mathlib.Core.Logic.{◌⊎◌, inl, inr, ◌≢◌}
use mathlib.Core.Bool.{true}
use Prim.Native.Nat.{ℕ, ◌≤◌}
use native.Mathlib.Omega.{arith}
use Rattle.sets.specs.Members.{has}
use Rattle.rules.specs.declared.Stage.{Stage}
use Rattle.rules.specs.declared.Stage.TheVariants.{Running, Crashed}
use Rattle.rules.specs.declared.Process.{Process}
use Rattle.rules.specs.declared.Machine.{Machine}
use Rattle.rules.specs.declared.Called.{Called}
use Rattle.rules.specs.Stands.{process_of, stage_of, value_of, row_of, cell_of}
use Rattle.rules.specs.State.{crashed, level_of, made_of, found_of, with_process, with_stage}
use Rattle.rules.specs.State.{with_register}
use Rattle.rules.specs.Shape.{Held, Shaped}
use Rattle.rules.specs.Calls.{enter_of, crash_of, step_of, write}
use Rattle.rules.specs.Statements.{Valid, OthersStay}
use Rattle.rules.specs.Statements.{EnterEffect, CrashEffect, StepEffect, EffectsOfCalls}
use Rattle.rules.proofs.Laws.Stores.{process-same, process_other, cell_same, cell_other}
use Rattle.rules.proofs.Laws.Shape.{shaped_record}
use Rattle.rules.proofs.Laws.Did.{DidEnter, DidCrash, DidStep, did_write, did_read, did_finish, did_fall}
use Rattle.rules.proofs.Laws.Did.{some, running, what_calls_did}
use Rattle.rules.proofs.Laws.Keeps.{held_register, here, elsewhere}

pub in_range_lem : (m : Machine) (p : ℕ) → Valid m p → p ≤ 32
in_range_lem m p v = let s : Shaped m = shaped_record m v.shape in omega (arith, v.high, s.most)

-- only the record of p is stored
stored : (m : Machine) → Held m → (p : ℕ) → Valid m p → (P : Process) → process_of (with_process m p P) p ≡ P
stored m h p v P = process-same m h p v.low (in_range_lem m p v) P

others : (m : Machine) (p : ℕ) → Valid m p → (P : Process) → OthersStay m (with_process m p P) p
others m p v P = record { size = refl; others = λ q lq ne. process_other m p q v.low lq ne P }

enter_effect : (m : Machine) → Held m → (p v : ℕ) → Valid m p → (c : Called) → DidEnter m p v c → EnterEffect m c.machine p v
enter_effect m h p v ok c d =
    subst (λ c. EnterEffect m c.machine p v) (sym d.left)
    (record {
      value = ap (λ P. P.value) (stored m h p ok (record { stage = Running m.n 0 0; value = v }));
      stage = ap (λ P. P.stage) (stored m h p ok (record { stage = Running m.n 0 0; value = v }));
      rest = others m p ok (record { stage = Running m.n 0 0; value = v });
      registers = record { rows = refl; cells = refl };
    })

crash_effect : (m : Machine) → Held m → (p : ℕ) → Valid m p → (c : Called) → DidCrash m p c → CrashEffect m c.machine p
crash_effect m h p ok c d =
    subst (λ c. CrashEffect m c.machine p) (sym d.left)
    (record {
      never_moves = ap crashed now;
      level = ap level_of now ∙ sym (ap level_of d.was);
      made = ap (made_of m.n) now ∙ sym (ap (made_of m.n) d.was);
      found = ap found_of now ∙ sym (ap found_of d.was);
      value = ap (λ P. P.value) (stored m h p ok new);
      rest = others m p ok new;
      registers = record { rows = refl; cells = refl };
    })
  where
    new : Process
    new = record { stage = Crashed d.level d.made d.found; value = value_of m p }

    now : stage_of (with_process m p new) p ≡ Crashed d.level d.made d.found
    now = ap (λ P. P.stage) (stored m h p ok new)

-- a read, a finish or a fall: one record, and no register
read_effect : (m : Machine) → Held m → (p : ℕ) → Valid m p → (s : Stage) (x k f : ℕ) → 1 ≤ k → stage_of m p ≡ Running x k f
    → StepEffect m (with_stage m p s) p
read_effect m h p v s x k f lo was =
    record {
      value = ap (λ P. P.value) (stored m h p v (record { stage = s; value = value_of m p }));
      rest = others m p v (record { stage = s; value = value_of m p });
      first = λ z. absurd (some (ap (made_of m.n) was) z);
      elsewhere = λ y i _ _ _ _ _. (refl, refl);
      later = λ _. record { rows = refl; cells = refl };
    }
  where
    some : made_of m.n (stage_of m p) ≡ k → made_of m.n (stage_of m p) ≡ 0 → ⊥
    some e z = omega arith

write_effect : (m : Machine) → Held m → (p : ℕ) → Valid m p → (x f : ℕ) → stage_of m p ≡ Running x 0 f → StepEffect m (write m p x f) p
write_effect m h p v x f was =
    record {
      value = ap (λ P. P.value) (process-same filled held p v.low (in_range_lem m p v) new);
      rest = record { size = refl; others = λ q lq ne. process_other filled p q v.low lq ne new };
      first = λ _. subst (λ y. (has (row_of filled y) p ≡ true) × (cell_of filled y p ≡ value_of m p)) (sym level) (at_level_lem, own_cell);
      elsewhere = λ y i ly hy li hi ne. (
        elsewhere m h s p v.low v.high x f was y i ly (away y i ne),
        cell_other m x y low ly p i v.low (in_range_lem m p v) li hi (away y i ne) (value_of m p),
      );
      later = λ ne. absurd (ne (ap (made_of m.n) was));
    }
  where
    s : Shaped m
    s = shaped_record m v.shape

    filled : Machine
    filled = with_register m x p (value_of m p)

    held : Held filled
    held = held_register m h x p (value_of m p)

    new : Process
    new = record { stage = Running x 1 f; value = value_of m p }

    level : level_of (stage_of m p) ≡ x
    level = ap level_of was

    low : 1 ≤ x
    low = (running m p v x 0 f was).low

    high : x ≤ 32
    high = omega (arith, (running m p v x 0 f was).high, s.most)

    at_level_lem : has (row_of filled x) p ≡ true
    at_level_lem = here m h s p v.low v.high x f was

    own_cell : cell_of filled x p ≡ value_of m p
    own_cell = cell_same m h x low high p v.low (in_range_lem m p v) (value_of m p)

    away : (y i : ℕ) → (y ≢ level_of (stage_of m p)) ⊎ (i ≢ p) → (y ≢ x) ⊎ (i ≢ p)
    away y i (inl ne) = inl (λ e. ne (e ∙ sym level))
    away y i (inr ne) = inr ne

step_effect : (m : Machine) → Held m → (p : ℕ) → Valid m p → (c : Called) → DidStep m p c → StepEffect m c.machine p
step_effect m h p v c (did_write x f was left) = subst (λ c. StepEffect m c.machine p) (sym left) (write_effect m h p v x f was)
step_effect m h p v c (did_read x k f was lo hi left) = subst (λ c. StepEffect m c.machine p) (sym left) (read_effect m h p v _ x k f lo was)
step_effect m h p v c (did_finish x f was e left) =
    subst (λ c. StepEffect m c.machine p) (sym left) (read_effect m h p v _ x m.n f (some m p v) was)
step_effect m h p v c (did_fall x f was e two left) =
    subst (λ c. StepEffect m c.machine p) (sym left) (read_effect m h p v _ x m.n f (some m p v) was)

pub effects_of_calls : EffectsOfCalls
effects_of_calls =
    record {
      enter = λ m h p v a. enter_effect m h p v (what_calls_did.enter m p v a).0 (enter_of m p v) (what_calls_did.enter m p v a).1;
      crash = λ m h p a. crash_effect m h p (what_calls_did.crash m p a).0 (crash_of m p) (what_calls_did.crash m p a).1;
      step = λ m h p a. step_effect m h p (what_calls_did.step m p a).0 (step_of m p) (what_calls_did.step m p a).1;
    }
