-- The accepted steps of a process, counted from the list, are the accesses of rule 7; and how the counts of a list hang together.
use mathlib.Core.Path.{◌≡◌, refl, sym, ap, subst, ◌∙◌}
use mathlib.Core.Logic.{◌⊎◌, inl, inr, ◌≢◌}
use mathlib.Core.Bool.{Bool, true, false, ◌&&◌, true≢false, and-false}
use mathlib.Core.List.{List, [], ◌∷◌}
use Prim.Native.Nat.{ℕ, zero, suc, ◌+◌, ◌-◌, ◌*◌, ◌≤◌, ◌<◌}
use native.Mathlib.Nat.{mul-suc, mul_comm, mul-le-mul_left, mul-le-mul_right}
use native.Mathlib.Omega.{arith}
use lib.Dec.{eqb}
use borrow.Author.Tests.{eq-eqb, ne_eqb}
use Rattle.sets.specs.Members.{tick, size}
use Rattle.rules.specs.declared.Stage.{Stage}
use Rattle.rules.specs.declared.Stage.TheVariants.{Absent, Running, Finished, Crashed}
use Rattle.rules.specs.declared.Machine.{Machine}
use Rattle.rules.specs.Stands.{stage_of, row_of}
use Rattle.rules.specs.State.{finished, accesses_of, found_of}
use Rattle.rules.specs.Shape.{ShapedStage}
use Rattle.rules.specs.Calls.{accepted, fresh, step_of}
use Rattle.rules.specs.Statements.{Meets, Valid}
use Rattle.rules.proofs.Laws.Small.{equal_or_not}
use Rattle.rules.proofs.Laws.Did.{what_calls_did}
use Rattle.rules.proofs.Laws.Accesses.{accesses_of_calls}
use Rattle.rules.proofs.Laws.Keeps.{every_state_meets}
use Rattle.history.specs.Runs.{Call, enters, steps, crashes, answer, after, from, runs, tally, accepted_step_of, accepted_step}
use Rattle.history.specs.Theorems.{AccessesCounted, ExactSteps, EnoughSteps, total, CountsOfRuns}
use Rattle.history.proofs.Moves.{meets_after, nobody_yet, every_state_shaped, by_call}
use Rattle.world.specs.Calls.{counts, leaves}

-- one call
counted_once : (n : ℕ) (m : Machine) → Meets n m → (p : ℕ) → 1 ≤ p → (c : Call)
    → accesses_of n (stage_of (after m c) p) ≡ accesses_of n (stage_of m p) + tick (accepted_step_of p c (accepted (answer m c)))
counted_once n m M p lp =
    by_call m M.held p lp (λ c. accesses_of n (stage_of (after m c) p) ≡ accesses_of n (stage_of m p) + tick (accepted_step_of p c (accepted (answer m c))))
    (λ c e t _. ap (λ P. accesses_of n P.stage) e ∙ none _ ∙ sym (ap (λ b. accesses_of n (stage_of m p) + tick b) t))
    (λ v a.
    let e = at_n (λ k. (accesses_of k (stage_of m p) ≡ 0) × (accesses_of k (stage_of (after m (enters p v)) p) ≡ 0))
    (accesses_of_calls.enter m M.held p v a) in
    zeros _ _ e.0 e.1)
    (λ a.
    at_n (λ k. accesses_of k (stage_of (step_of m p).machine p) ≡ accesses_of k (stage_of m p) + 1) (accesses_of_calls.step m M.held p a)
    ∙ sym (ap (λ b. accesses_of n (stage_of m p) + tick b) (ap (λ b. b && accepted (step_of m p)) (eq-eqb p p refl) ∙ a)))
    (λ a.
    at_n (λ k. accesses_of k (stage_of (after m (crashes p)) p) ≡ accesses_of k (stage_of m p)) (accesses_of_calls.crash m M.held p a)
    ∙ none _)
  where
    at_n : (Q : ℕ → Type 0) → Q m.n → Q n
    at_n Q q = subst Q M.size q

    none : (a : ℕ) → a ≡ a + 0
    none a = omega arith

    zeros : (a b : ℕ) → a ≡ 0 → b ≡ 0 → b ≡ a + 0
    zeros a b p q = omega arith

pub counted-from : (n : ℕ) (m : Machine) → Meets n m → (p : ℕ) → 1 ≤ p → (cs : List Call)
    → accesses_of n (stage_of (from m cs) p) ≡ accesses_of n (stage_of m p) + tally (accepted_step_of p) m cs
unfolding leaves counts
counted-from n m M p lp [] = none _
  where
    none : (a : ℕ) → a ≡ a + 0
    none a = omega arith
counted-from n m M p lp (c ∷ cs) =
    sum _ _ _ _ _ (counted-from n (after m c) (meets_after n m M c) p lp cs) (counted_once n m M p lp c)
  where
    sum : (a b d t u : ℕ) → a ≡ b + u → b ≡ d + t → a ≡ d + (t + u)
    sum a b d t u p q = omega arith

pub accesses_counted : AccessesCounted
accesses_counted n lo hi cs p lp hp =
    counted-from n (fresh n) (every_state_meets.starts n lo hi) p lp cs ∙ none _ _ (ap (λ P. accesses_of n P.stage) (nobody_yet n p))
  where
    none : (a b : ℕ) → a ≡ 0 → a + b ≡ b
    none a b e = omega arith

pub exact_steps : ExactSteps
exact_steps n lo hi cs p has =
    let M : Meets n (runs n cs) = every_state_shaped n lo hi cs in
    let hp : p ≤ n = omega (arith, M.size, has.high) in
    sym (accesses_counted n lo hi cs p has.low hp)
    ∙ subst (λ k. accesses_of k (stage_of (runs n cs) p) ≡ (k + 1) * (k - size (found_of (stage_of (runs n cs) p)) + 1)) M.size
    (accesses_of_calls.finished (runs n cs) M.shape p has.low has.high has.ended)

-- n + 1 accesses at each of n levels, the last not yet made
short : (n x k : ℕ) → 1 ≤ x → x ≤ n → k ≤ n → (n + 1) * (n - x) + k < n * (n + 1)
short n x k lo hi le =
    let q : (n + 1) * suc (n - x) ≡ (n + 1) * (n - x) + (n + 1) = mul-suc (n + 1) (n - x) in
    let room : suc (n - x) ≤ n = omega arith in
    let b : (n + 1) * suc (n - x) ≤ (n + 1) * n = mul-le-mul_left (n + 1) room in
    regroup _ _ _ _ q b (mul_comm (n + 1) n)
  where
    regroup : (a b c d : ℕ) → a ≡ b + (n + 1) → a ≤ c → c ≡ d → b + k < d
    regroup a b c d q r s = omega arith

-- a process that is not finished has an access to make
not_all : (n : ℕ) (row : ℕ → ℕ) (s : Stage) → 1 ≤ n → ShapedStage n row s → finished s ≡ false → accesses_of n s < n * (n + 1)
not_all n row Absent lo h e = positive n lo
  where
    positive : (n : ℕ) → 1 ≤ n → 0 < n * (n + 1)
    positive n lo = let q : 1 * (n + 1) ≤ n * (n + 1) = mul-le-mul_right (n + 1) lo in omega arith
not_all n row (Running x k f) lo h e = short n x k h.low h.high h.accesses
not_all n row (Finished x w) lo h e = absurd (true≢false e)
not_all n row (Crashed x k f) lo h e = short n x k h.low h.high h.accesses

pub enough_steps : EnoughSteps
enough_steps n lo hi cs p lp hp enough = go (finished (stage_of (runs n cs) p)) refl
  where
    M : Meets n (runs n cs)
    M = every_state_shaped n lo hi cs

    p32 : p ≤ 32
    p32 = omega arith

    shape : ShapedStage n (row_of (runs n cs)) (stage_of (runs n cs) p)
    shape = subst (λ k. ShapedStage k (row_of (runs n cs)) (stage_of (runs n cs) p)) M.size (M.shape.process p lp p32).stage

    go : (b : Bool) → finished (stage_of (runs n cs) p) ≡ b → b ≡ true
    go true e = refl
    go false e = absurd (less _ _ _ (not_all n (row_of (runs n cs)) (stage_of (runs n cs) p) lo shape e) (accesses_counted n lo hi cs p lp hp) enough)
      where
        less : (a b c : ℕ) → a < c → a ≡ b → c ≤ b → ⊥
        less a b c h e l = omega arith

-- A sum over 1 to k.
total_zero : (f : ℕ → ℕ) (k : ℕ) → ((i : ℕ) → f i ≡ 0) → total f k ≡ 0
unfolding total
total_zero f zero h = refl
total_zero f (suc k) h = omega (arith, h (suc k), total_zero f k h)

total_add : (f g h : ℕ → ℕ) (k : ℕ) → ((i : ℕ) → f i ≡ g i + h i) → total f k ≡ total g k + total h k
unfolding total
total_add f g h zero e = omega arith
total_add f g h (suc k) e = omega (arith, e (suc k), total_add f g h k e)

-- one process counts, once
total_past : (p k : ℕ) (b : Bool) → k < p → total (λ i. tick (eqb p i && b)) k ≡ 0
unfolding total
total_past p zero b past = refl
total_past p (suc k) b past =
    let ne : p ≢ suc k = omega arith in
    let before : k < p = omega arith in
    zeros _ _ (ap (λ t. tick (t && b)) (ne_eqb p (suc k) ne)) (total_past p k b before)
  where
    zeros : (a b : ℕ) → a ≡ 0 → b ≡ 0 → a + b ≡ 0
    zeros a b e q = omega arith

total_one : (p k : ℕ) (b : Bool) → 1 ≤ p → p ≤ k → total (λ i. tick (eqb p i && b)) k ≡ tick b
unfolding total
total_one p zero b lp hp = absurd (omega arith)
total_one p (suc k) b lp hp = go (equal_or_not p (suc k)) (total_one p k b lp)
  where
    first : (a b c : ℕ) → a ≡ c → b ≡ 0 → a + b ≡ c
    first a b c e q = omega arith

    second : (a b c : ℕ) → a ≡ 0 → b ≡ c → a + b ≡ c
    second a b c e q = omega arith

    go : (p ≡ suc k) ⊎ (p ≢ suc k) → (p ≤ k → total (λ i. tick (eqb p i && b)) k ≡ tick b) → total (λ i. tick (eqb p i && b)) (suc k) ≡ tick b
    go (inl e) further =
        let past : k < p = omega arith in first _ _ _ (ap (λ t. tick (t && b)) (eq-eqb p (suc k) e)) (total_past p k b past)
    go (inr ne) further =
        let le : p ≤ k = omega arith in second _ _ _ (ap (λ t. tick (t && b)) (ne_eqb p (suc k) ne)) (further le)

-- an accepted step is that of one process of 1 to n
one_stepped : (n : ℕ) (m : Machine) → m.n ≡ n → (c : Call) → tick (accepted_step c (accepted (answer m c))) ≡ total (λ p. tick (accepted_step_of p c (accepted (answer m c)))) n
one_stepped n m e (enters q v) = sym (total_zero _ n (λ i. refl))
one_stepped n m e (crashes q) = sym (total_zero _ n (λ i. refl))
one_stepped n m e (steps q) = go (accepted (step_of m q)) refl
  where
    go : (b : Bool) → accepted (step_of m q) ≡ b → tick b ≡ total (λ p. tick (eqb q p && b)) n
    go true a =
        let v : Valid m q = (what_calls_did.step m q a).0 in
        let hq : q ≤ n = omega (arith, v.high) in
        sym (total_one q n true v.low hq)
    go false a = sym (total_zero (λ p. tick (eqb q p && false)) n (λ i. ap tick (and-false (eqb q i))))

steps_in_all : (n : ℕ) (m : Machine) → Meets n m → (cs : List Call) → tally accepted_step m cs ≡ total (λ p. tally (accepted_step_of p) m cs) n
unfolding counts
steps_in_all n m M [] = sym (total_zero (λ p. 0) n (λ i. refl))
steps_in_all n m M (c ∷ cs) =
    sum _ _ _ _ _ (one_stepped n m M.size c) (steps_in_all n (after m c) (meets_after n m M c) cs)
    (total_add (λ p. tick (accepted_step_of p c (accepted (answer m c))) + tally (accepted_step_of p) (after m c) cs) (λ p. tick (accepted_step_of p c (accepted (answer m c))))
    (λ p. tally (accepted_step_of p) (after m c) cs) n (λ i. refl))
  where
    sum : (a b d e t : ℕ) → a ≡ d → b ≡ e → t ≡ d + e → a + b ≡ t
    sum a b d e t p q r = omega arith

pub counts_of_runs : CountsOfRuns
counts_of_runs n lo hi cs = steps_in_all n (fresh n) (every_state_meets.starts n lo hi) cs
