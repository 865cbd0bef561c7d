-- Rule 7: the accesses that a process has made are counted by its accepted steps.
use mathlib.Core.Path.{◌≡◌, refl, sym, ap, ◌∙◌}
use mathlib.Core.Bool.{true, false≢true}
use Prim.Native.Nat.{ℕ, suc, ◌+◌, ◌-◌, ◌*◌, ◌≤◌}
use native.Mathlib.Nat.{mul-suc, mul_comm, mul-le-mul_left}
use native.Mathlib.Omega.{arith}
use Rattle.sets.specs.Members.{size}
use Rattle.rules.specs.declared.Stage.{Stage}
use Rattle.rules.specs.declared.Stage.TheVariants.{Absent, Running, Finished, Crashed}
use Rattle.rules.specs.declared.Process.{Process}
use Rattle.rules.specs.declared.Machine.{Machine}
use Rattle.rules.specs.declared.Called.{Called}
use Rattle.rules.specs.Stands.{stage_of, value_of, row_of, entered}
use Rattle.rules.specs.State.{finished, level_of, made_of, found_of, accesses_of, with_process, with_register}
use Rattle.rules.specs.Shape.{Held, ShapedStage, Shaped}
use Rattle.rules.specs.Calls.{enter_of, step_of, crash_of}
use Rattle.rules.specs.Statements.{Valid, AccessesOfCalls}
use Rattle.rules.proofs.Laws.Stores.{process-same}
use Rattle.rules.proofs.Laws.Did.{DidEnter, DidCrash, DidStep, did_write, did_read, did_finish, did_fall}
use Rattle.rules.proofs.Laws.Did.{running, what_calls_did}
use Rattle.rules.proofs.Laws.Keeps.{held_register}
use Rattle.rules.proofs.Laws.Effects.{in_range_lem}

-- the stage that a store leaves
stage_after : (m : Machine) → Held m → (p : ℕ) → Valid m p → (base : Machine) → Held base → (P : Process) (c : Called)
    → c.machine ≡ with_process base p P → stage_of c.machine p ≡ P.stage
stage_after m h p v base hb P c e = ap (λ m'. stage_of m' p) e ∙ ap (λ Q. Q.stage) (process-same base hb p v.low (in_range_lem m p v) P)

-- one level lower is n + 1 accesses more
lower : (n x : ℕ) → 2 ≤ x → x ≤ n → (n + 1) * (n - (x - 1)) + 0 ≡ (n + 1) * (n - x) + n + 1
lower n x lo hi =
    let e : n - (x - 1) ≡ suc (n - x) = omega arith in
    let q : (n + 1) * suc (n - x) ≡ (n + 1) * (n - x) + (n + 1) = mul-suc (n + 1) (n - x) in
    let r : (n + 1) * (n - (x - 1)) ≡ (n + 1) * suc (n - x) = ap (λ d. (n + 1) * d) e in
    regroup ((n + 1) * (n - (x - 1))) ((n + 1) * suc (n - x)) ((n + 1) * (n - x)) r q
  where
    regroup : (a b c : ℕ) → a ≡ b → b ≡ c + (n + 1) → a + 0 ≡ c + n + 1
    regroup a b c r q = omega arith

step_one : (m : Machine) → Held m → (p : ℕ) → Valid m p → (c : Called) → DidStep m p c
    → accesses_of m.n (stage_of c.machine p) ≡ accesses_of m.n (stage_of m p) + 1
step_one m h p v c (did_write x f was left) =
    ap (accesses_of m.n)
    (stage_after m h p v (with_register m x p (value_of m p)) (held_register m h x p (value_of m p))
    (record { stage = Running x 1 f; value = value_of m p }) c (ap (λ c. c.machine) left))
    ∙ add ((m.n + 1) * (m.n - x)) ∙ sym (ap (λ s. accesses_of m.n s + 1) was)
  where
    add : (a : ℕ) → a + 1 ≡ a + 0 + 1
    add a = omega arith
step_one m h p v c (did_read x k f was lo hi left) =
    ap (accesses_of m.n) (stage_after m h p v m h (record { stage = Running x (k + 1) _; value = value_of m p }) c (ap (λ c. c.machine) left))
    ∙ add ((m.n + 1) * (m.n - x)) ∙ sym (ap (λ s. accesses_of m.n s + 1) was)
  where
    add : (a : ℕ) → a + (k + 1) ≡ a + k + 1
    add a = omega arith
step_one m h p v c (did_finish x f was e left) =
    ap (accesses_of m.n) (stage_after m h p v m h (record { stage = Finished x _; value = value_of m p }) c (ap (λ c. c.machine) left))
    ∙ add ((m.n + 1) * (m.n - x)) ∙ sym (ap (λ s. accesses_of m.n s + 1) was)
  where
    add : (a : ℕ) → a + (m.n + 1) ≡ a + m.n + 1
    add a = omega arith
step_one m h p v c (did_fall x f was e two left) =
    ap (accesses_of m.n) (stage_after m h p v m h (record { stage = Running (x - 1) 0 0; value = value_of m p }) c (ap (λ c. c.machine) left))
    ∙ lower m.n x two (running m p v x m.n f was).high ∙ sym (ap (λ s. accesses_of m.n s + 1) was)

enter-none : (m : Machine) → Held m → (p v : ℕ) → Valid m p → (c : Called) → DidEnter m p v c
    → (accesses_of m.n (stage_of m p) ≡ 0) × (accesses_of m.n (stage_of c.machine p) ≡ 0)
enter-none m h p v ok c d = (
  ap (accesses_of m.n) d.was,
  ap (accesses_of m.n) (stage_after m h p ok m h (record { stage = Running m.n 0 0; value = v }) c (ap (λ c. c.machine) d.left))
      ∙ none m.n,
)
  where
    none : (n : ℕ) → (n + 1) * (n - n) + 0 ≡ 0
    none n = let e : n - n ≡ 0 = omega arith in ap (λ d. (n + 1) * d + 0) e ∙ omega arith

crash-none : (m : Machine) → Held m → (p : ℕ) → Valid m p → (c : Called) → DidCrash m p c
    → accesses_of m.n (stage_of c.machine p) ≡ accesses_of m.n (stage_of m p)
crash-none m h p v c d =
    ap (accesses_of m.n)
    (stage_after m h p v m h (record { stage = Crashed d.level d.made d.found; value = value_of m p }) c (ap (λ c. c.machine) d.left))
    ∙ sym (ap (accesses_of m.n) d.was)

-- a level x of 1 to n leaves room for n - x levels and one more
bounded : (n x k : ℕ) → 1 ≤ x → x ≤ n → k ≤ n + 1 → (n + 1) * (n - x) + k ≤ n * (n + 1)
bounded n x k lo hi le =
    let q : (n + 1) * suc (n - x) ≡ (n + 1) * (n - x) + (n + 1) = mul-suc (n + 1) (n - x) in
    let room : suc (n - x) ≤ n = omega arith in
    let b : (n + 1) * suc (n - x) ≤ (n + 1) * n = mul-le-mul_left (n + 1) room in
    let s : (n + 1) * n ≡ n * (n + 1) = mul_comm (n + 1) n in
    regroup ((n + 1) * suc (n - x)) ((n + 1) * (n - x)) ((n + 1) * n) (n * (n + 1)) q b s
  where
    regroup : (a b c d : ℕ) → a ≡ b + (n + 1) → a ≤ c → c ≡ d → b + k ≤ d
    regroup a b c d q r s = omega arith

stage_most : (n : ℕ) (row : ℕ → ℕ) (s : Stage) → ShapedStage n row s → accesses_of n s ≤ n * (n + 1)
stage_most n row Absent h = omega arith
stage_most n row (Running x k f) h = let le : k ≤ n + 1 = omega (arith, h.accesses) in bounded n x k h.low h.high le
stage_most n row (Finished x w) h = let le : n + 1 ≤ n + 1 = omega arith in bounded n x (n + 1) h.low h.high le
stage_most n row (Crashed x k f) h = let le : k ≤ n + 1 = omega (arith, h.accesses) in bounded n x k h.low h.high le

stage_finished : (n : ℕ) (row : ℕ → ℕ) (s : Stage) → ShapedStage n row s → finished s ≡ true → accesses_of n s ≡ (n + 1) * (n - size (found_of s) + 1)
stage_finished n row Absent h e = absurd (false≢true e)
stage_finished n row (Running x k f) h e = absurd (false≢true e)
stage_finished n row (Finished x w) h e =
    sym (mul-suc (n + 1) (n - x)) ∙ ap (λ d. (n + 1) * d) (one (n - x)) ∙ ap (λ y. (n + 1) * (n - y + 1)) (sym h.count)
  where
    one : (d : ℕ) → suc d ≡ d + 1
    one d = omega arith
stage_finished n row (Crashed x k f) h e = absurd (false≢true e)

of_shape : (m : Machine) → Shaped m → (p : ℕ) → 1 ≤ p → p ≤ m.n → ShapedStage m.n (row_of m) (stage_of m p)
of_shape m s p lo hi = let h32 : p ≤ 32 = omega (arith, s.most) in (s.process p lo h32).stage

-- rule 7, by the stage
by_level : (n : ℕ) (s : Stage) → entered s ≡ true → accesses_of n s ≡ (n + 1) * (n - level_of s) + made_of n s
by_level n Absent e = absurd (false≢true e)
by_level n (Running x k f) e = refl
by_level n (Finished x w) e = refl
by_level n (Crashed x k f) e = refl

pub accesses_of_calls : AccessesOfCalls
accesses_of_calls =
    record {
      sum = by_level;
      whole = λ n x w. refl;
      absent = λ n. refl;
      enter = λ m h p v a. enter-none m h p v (what_calls_did.enter m p v a).0 (enter_of m p v) (what_calls_did.enter m p v a).1;
      step = λ m h p a. step_one m h p (what_calls_did.step m p a).0 (step_of m p) (what_calls_did.step m p a).1;
      crash = λ m h p a. crash-none m h p (what_calls_did.crash m p a).0 (crash_of m p) (what_calls_did.crash m p a).1;
      finished = λ m s p lo hi e. stage_finished m.n (row_of m) (stage_of m p) (of_shape m s p lo hi) e;
      most = λ m s p lo hi. stage_most m.n (row_of m) (stage_of m p) (of_shape m s p lo hi);
    }
