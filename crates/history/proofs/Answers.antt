-- No call of a run is refused with 1 or 7, and a step is accepted exactly while its program has an access.
use mathlib.Core.Path.{◌≡◌, refl, sym, ap, subst, ◌∙◌}
use mathlib.Core.Logic.{◌⊎◌, inl, inr, ◌≢◌}
use mathlib.Core.Bool.{Bool, true, false, ◌&&◌, cond, true≢false}
use Prim.Native.Nat.{ℕ, ◌+◌, ◌-◌, ◌≤◌}
use native.Mathlib.Omega.{arith}
use lib.Dec.{leb, eqb}
use borrow.Author.Tests.{leb-true, eq-eqb, ne_eqb, eqb-true}
use Rattle.sets.specs.Members.{has, count}
use Rattle.sets.proofs.Laws.{count_one_less}
use Rattle.rules.specs.declared.Stage.{Stage}
use Rattle.rules.specs.declared.Stage.TheVariants.{Absent, Running, Finished, Crashed}
use Rattle.rules.specs.declared.Machine.{Machine}
use Rattle.rules.specs.declared.Called.{Called}
use Rattle.rules.specs.declared.Answer.TheVariants.{NotShaped, NoProcess}
use Rattle.rules.specs.Stands.{stage_of, value_of, row_of, entered}
use Rattle.rules.specs.Shape.{Shaped, shaped}
use Rattle.rules.specs.Calls.{number_of, accepted, refused, tested, enter_at, enter_of, crash_at, crash_of, step_at, step_of}
use Rattle.rules.specs.Statements.{Valid}
use Rattle.rules.proofs.Laws.Small.{and_first, and_second, equal_or_not, not_both}
use Rattle.rules.proofs.Laws.Wrote.{lowest_row}
use Rattle.rules.proofs.Laws.Shape.{record_shaped}
use Rattle.rules.proofs.Laws.Did.{DidStep, did_write, did_read, did_finish, did_fall, DidStick}
use Rattle.rules.proofs.Laws.Did.{goes_on, makes_step, running, some}
use Rattle.history.specs.Runs.{Call, enters, steps, crashes, answer, runs}
use Rattle.world.specs.Programs.{accesses}
use Rattle.history.specs.AsWorld.{program_at, program_of}
use Rattle.history.specs.Theorems.{NeverOneNorSeven}
use Rattle.history.proofs.Figure.{program_goes}
use Rattle.history.proofs.Invariant.{MissedNothing, Inv, in_row, row_most, all_found, made_entered, inv_runs}

abbrev pub Fine : Called → Type 0
Fine c = (number_of c.answer ≢ 1) × (number_of c.answer ≢ 7)

tested_fine : (m : Machine) (p : ℕ) (c : Called) → shaped m ≡ true → (Valid m p → Fine c) → Fine (tested m p c)
tested_fine m p c sh fine = go (shaped m) (leb 1 p && leb p m.n) refl refl
  where
    go : (s r : Bool) → shaped m ≡ s → (leb 1 p && leb p m.n) ≡ r → Fine (cond s (cond r c (refused NoProcess m)) (refused NotShaped m))
    go true true s r =
        fine (record { shape = s; low = leb-true 1 p (and_first (leb 1 p) _ r); high = leb-true p m.n (and_second (leb 1 p) _ r) })
    go true false s r = omega arith
    go false r s _ = not_both (shaped m) sh s

enter_fine : (m : Machine) (p v : ℕ) (s : Stage) → Fine (enter_at s m p v)
enter_fine m p v Absent = omega arith
enter_fine m p v (Running x k f) = omega arith
enter_fine m p v (Finished x w) = omega arith
enter_fine m p v (Crashed x k f) = omega arith

crash_fine : (m : Machine) (p : ℕ) (s : Stage) → Fine (crash_at s m p)
crash_fine m p Absent = omega arith
crash_fine m p (Running x k f) = omega arith
crash_fine m p (Finished x w) = omega arith
crash_fine m p (Crashed x k f) = omega arith

at_least_one : (f : ℕ → Bool) (k p : ℕ) → 1 ≤ p → p ≤ k → f p ≡ true → 1 ≤ count f k
at_least_one f k p lp hp t = omega (arith, count_one_less (λ _. false) f k (λ i _ _ t. absurd (true≢false (sym t))) p lp hp t refl)

-- At level 1 a process is alone: the witness of row 1 is that process.
never_stuck : (m : Machine) → Inv m → (p : ℕ) → Valid m p → (c : Called) → DidStick m p c → ⊥
never_stuck m I p ok c d = go (I.full 1 (omega arith) lo some_filled)
  where
    sh : Shaped m
    sh = I.meets.shape

    lo : 1 ≤ m.n
    lo = some m p ok

    own : has (row_of m 1) p ≡ true
    own = in_row m sh 1 p (omega arith) lo ok.low ok.high (ap entered d.was) (subst (λ s. lowest_row m.n s ≤ 1) (sym d.was) written)
      where
        written : 1 + (1 - m.n) ≤ 1
        written = omega arith

    some_filled : 1 ≤ count (has (row_of m 1)) m.n
    some_filled = at_least_one (has (row_of m 1)) m.n p ok.low ok.high own

    -- two would be too many
    two : (q : ℕ) → 1 ≤ q → q ≤ m.n → has (row_of m 1) q ≡ true → q ≢ p → ⊥
    two q lq hq t ne = omega (arith, more, one, row_most m I 1 (omega arith) lo)
      where
        one : 1 ≤ count (λ i. eqb i p) m.n
        one = at_least_one (λ i. eqb i p) m.n p ok.low ok.high (eq-eqb p p refl)

        more : count (λ i. eqb i p) m.n + 1 ≤ count (has (row_of m 1)) m.n
        more =
            count_one_less (λ i. eqb i p) (has (row_of m 1)) m.n
            (λ i _ _ t. subst (λ j. has (row_of m 1) j ≡ true) (sym (eqb-true i p t)) own) q lq hq t (ne_eqb q p ne)

    go : ((q : ℕ) × MissedNothing m.n (row_of m 1) 1 q (stage_of m q)) → ⊥
    go (q, w) = at (equal_or_not q p)
      where
        filled : has (row_of m 1) q ≡ true
        filled = in_row m sh 1 q (omega arith) lo w.low w.high (made_entered m.n (stage_of m q) w.made) (omega (arith, w.level, w.made))

        at : (q ≡ p) ⊎ (q ≢ p) → ⊥
        at (inl e) =
            d.others (all_found m I p 1 d.found d.was (subst (λ r. MissedNothing m.n (row_of m 1) 1 r (stage_of m r)) e w) some_filled)
        at (inr ne) = two q w.low w.high filled ne

did_fine : (m : Machine) (p : ℕ) (c : Called) → DidStep m p c → Fine c
did_fine m p c (did_write x f was left) = subst Fine (sym left) (omega arith)
did_fine m p c (did_read x k f was lo hi left) = subst Fine (sym left) (omega arith)
did_fine m p c (did_finish x f was e left) = subst Fine (sym left) (omega arith)
did_fine m p c (did_fall x f was e two left) = subst Fine (sym left) (omega arith)

step_fine : (m : Machine) → Inv m → (p : ℕ) → Valid m p → Fine (step_at (stage_of m p) m p)
unfolding step_of
step_fine m I p ok = subst Fine (goes_on m p ok (step_at (stage_of m p) m p)) (go (stage_of m p) refl)
  where
    at : (s : Stage) → stage_of m p ≡ s → Fine (step_at s m p) → Fine (step_of m p)
    at s e fine = subst Fine (sym (goes_on m p ok (step_at (stage_of m p) m p) ∙ ap (λ t. step_at t m p) e)) fine

    moves : DidStep m p (step_of m p) ⊎ DidStick m p (step_of m p) → Fine (step_of m p)
    moves (inl d) = did_fine m p (step_of m p) d
    moves (inr d) = absurd (never_stuck m I p ok (step_of m p) d)

    go : (s : Stage) → stage_of m p ≡ s → Fine (step_of m p)
    go Absent e = at Absent e (omega arith)
    go (Running x k f) e = moves (makes_step m p ok x k f e)
    go (Finished x w) e = at (Finished x w) e (omega arith)
    go (Crashed x k f) e = at (Crashed x k f) e (omega arith)

pub answer_fine : (m : Machine) → Inv m → (c : Call) → Fine (answer m c)
unfolding enter_of step_of crash_of
answer_fine m I (enters p v) = tested_fine m p (enter_at (stage_of m p) m p v) (record_shaped m I.meets.shape) (λ _. enter_fine m p v (stage_of m p))
answer_fine m I (steps p) = tested_fine m p (step_at (stage_of m p) m p) (record_shaped m I.meets.shape) (step_fine m I p)
answer_fine m I (crashes p) = tested_fine m p (crash_at (stage_of m p) m p) (record_shaped m I.meets.shape) (λ _. crash_fine m p (stage_of m p))

pub never_one_nor_seven : NeverOneNorSeven
never_one_nor_seven n lo hi cs =
    record { one = λ c. (answer_fine (runs n cs) (inv_runs n lo hi cs) c).0; seven = λ c. (answer_fine (runs n cs) (inv_runs n lo hi cs) c).1 }

-- A step of a run is accepted exactly while its program has an access.
did_accepted : (m : Machine) (p : ℕ) (c : Called) → DidStep m p c → accepted c ≡ true
did_accepted m p c (did_write x f was left) = ap accepted left
did_accepted m p c (did_read x k f was lo hi left) = ap accepted left
did_accepted m p c (did_finish x f was e left) = ap accepted left
did_accepted m p c (did_fall x f was e two left) = ap accepted left

pub step-accesses : (m : Machine) → Inv m → (p : ℕ) → Valid m p → accepted (step_of m p) ≡ accesses (program_of m p)
unfolding step_of
step-accesses m I p ok = go (stage_of m p) refl
  where
    moves : DidStep m p (step_of m p) ⊎ DidStick m p (step_of m p) → accepted (step_of m p) ≡ true
    moves (inl d) = did_accepted m p (step_of m p) d
    moves (inr d) = absurd (never_stuck m I p ok (step_of m p) d)

    refused_at_lem : (s : Stage) → stage_of m p ≡ s → accepted (step_at s m p) ≡ false → accesses (program_at m p s (value_of m p)) ≡ false
        → accepted (step_of m p) ≡ accesses (program_of m p)
    refused_at_lem s e a b =
        ap accepted (goes_on m p ok (step_at (stage_of m p) m p) ∙ ap (λ t. step_at t m p) e) ∙ a
        ∙ sym (ap (λ t. accesses (program_at m p t (value_of m p))) e ∙ b)

    go : (s : Stage) → stage_of m p ≡ s → accepted (step_of m p) ≡ accesses (program_of m p)
    go Absent e = refused_at_lem Absent e refl refl
    go (Finished x w) e = refused_at_lem (Finished x w) e refl refl
    go (Crashed x k f) e = refused_at_lem (Crashed x k f) e refl refl
    go (Running x k f) e =
        moves (makes_step m p ok x k f e)
        ∙ sym (ap (λ t. accesses (program_at m p t (value_of m p))) e ∙ program_goes m p x k f (value_of m p) (running m p ok x k f e))
