-- What each call does, from what stands to the result, and what an accepted call did.
use mathlib.Core.Path.{◌≡◌, refl, sym, ap, subst, ◌∙◌}
use mathlib.Core.Logic.{◌⊎◌, inl, inr, ◌≢◌}
use mathlib.Core.Bool.{Bool, true, false, not, ◌&&◌, cond, false≢true}
use Prim.Native.Nat.{ℕ, ◌+◌, ◌-◌, ◌≤◌, ◌<◌}
use native.Mathlib.Omega.{arith}
use lib.Dec.{leb, ltb, eqb}
use borrow.Author.Tests.{leb-true, le-leb, lt-ltb, le-ltb, eq-eqb, ne_eqb}
use Rattle.sets.specs.Members.{size}
use Rattle.rules.specs.declared.Stage.{Stage}
use Rattle.rules.specs.declared.Stage.TheVariants.{Absent, Running, Finished, Crashed}
use Rattle.rules.specs.declared.Machine.{Machine}
use Rattle.rules.specs.declared.Answer.TheVariants.{NotShaped, NoProcess, NoLevelBelow, OutOfRange}
use Rattle.rules.specs.declared.Called.{Called}
use Rattle.rules.specs.Stands.{nobody, stage_of, row_of}
use Rattle.rules.specs.State.{with_process, with_stage}
use Rattle.rules.specs.Shape.{Going, ShapedStage, Shaped, shaped}
use Rattle.rules.specs.Calls.{accepted, done, refused, fresh, new_of, tested, enter_at, enter_of, crash_at, crash_of, reading, write, settle, access}
use Rattle.rules.specs.Calls.{step_at, step_of}
use Rattle.rules.specs.Statements.{Valid, at_last, NewMachine, WhatCallsDo, ValidIsTested}
use Rattle.rules.proofs.Laws.Small.{both, and_first, and_second, cond-true, cond-false, equal_or_not, blank}
use Rattle.rules.proofs.Laws.Shape.{shaped_record}

-- neither 1 nor 2 applies: the call goes on
pub goes_on : (m : Machine) (p : ℕ) → Valid m p → (c : Called) → tested m p c ≡ c
goes_on m p h c =
    cond-true (shaped m) (cond (leb 1 p && leb p m.n) c (refused NoProcess m)) (refused NotShaped m) h.shape
    ∙ cond-true (leb 1 p && leb p m.n) c (refused NoProcess m) (both (leb 1 p) (leb p m.n) (le-leb 1 p h.low) (le-leb p m.n h.high))

-- an accepted call went on
pub went_on : (m : Machine) (p : ℕ) (c : Called) → accepted (tested m p c) ≡ true → Valid m p
went_on m p c e = go (shaped m) (leb 1 p && leb p m.n) refl refl e
  where
    go : (s r : Bool) → shaped m ≡ s → (leb 1 p && leb p m.n) ≡ r
        → accepted (cond s (cond r c (refused NoProcess m)) (refused NotShaped m)) ≡ true → Valid m p
    go true true s r a = record { shape = s; low = leb-true 1 p (and_first (leb 1 p) _ r); high = leb-true p m.n (and_second (leb 1 p) _ r) }
    go true false s r a = absurd (false≢true a)
    go false r s r' a = absurd (false≢true a)

pub valid_is_tested : ValidIsTested
valid_is_tested m p = (to, back)
  where
    in_range_lem : Bool
    in_range_lem = leb 1 p && leb p m.n

    twice : (b : Bool) → not (not b) ≡ true → b ≡ true
    twice true e = refl
    twice false e = e

    to : Valid m p → (not (not (shaped m)) && (not (not in_range_lem) && true)) ≡ true
    to h =
        both (not (not (shaped m))) _ (ap (λ b. not (not b)) h.shape)
        (both (not (not in_range_lem)) true
        (ap (λ b. not (not b)) (both (leb 1 p) (leb p m.n) (le-leb 1 p h.low) (le-leb p m.n h.high))) refl)

    back : (not (not (shaped m)) && (not (not in_range_lem) && true)) ≡ true → Valid m p
    back e =
        let r : in_range_lem ≡ true = twice in_range_lem (and_first (not (not in_range_lem)) true (and_second (not (not (shaped m))) _ e)) in
        record {
          shape = twice (shaped m) (and_first (not (not (shaped m))) _ e);
          low = leb-true 1 p (and_first (leb 1 p) (leb p m.n) r);
          high = leb-true p m.n (and_second (leb 1 p) (leb p m.n) r);
        }

-- what a running process of a well shaped machine has
pub running : (m : Machine) (p : ℕ) → Valid m p → (x k f : ℕ) → stage_of m p ≡ Running x k f → Going m.n (row_of m) x k f
running m p h x k f e =
    let s : Shaped m = shaped_record m h.shape in
    let hi : p ≤ 32 = omega (arith, h.high, s.most) in
    subst (ShapedStage m.n (row_of m)) e (s.process p h.low hi).stage

enters : (m : Machine) (p : ℕ) → Valid m p → (v : ℕ) → stage_of m p ≡ Absent
    → enter_of m p v ≡ done (with_process m p (record { stage = Running m.n 0 0; value = v }))
unfolding enter_of
enters m p h v e = goes_on m p h (enter_at (stage_of m p) m p v) ∙ ap (λ s. enter_at s m p v) e

pub crashes : (m : Machine) (p : ℕ) → Valid m p → (x k f : ℕ) → stage_of m p ≡ Running x k f → crash_of m p ≡ done (with_stage m p (Crashed x k f))
unfolding crash_of
crashes m p h x k f e = goes_on m p h (crash_at (stage_of m p) m p) ∙ ap (λ s. crash_at s m p) e

pub steps : (m : Machine) (p : ℕ) → Valid m p → (x k f : ℕ) → stage_of m p ≡ Running x k f → step_of m p ≡ access m p x k f
unfolding step_of
steps m p h x k f e = goes_on m p h (step_at (stage_of m p) m p) ∙ ap (λ s. step_at s m p) e

pub access-write : (m : Machine) (p x f : ℕ) → access m p x 0 f ≡ done (write m p x f)
unfolding access
access-write m p x f = refl

pub access-read : (m : Machine) (p x k f : ℕ) → 1 ≤ k → k < m.n
    → access m p x k f ≡ done (with_stage m p (Running x (k + 1) (reading (row_of m x) k f)))
unfolding access
access-read m p x k f lo hi =
    let ne : k ≢ 0 = omega arith in
    cond-false (eqb k 0) (done (write m p x f)) _ (ne_eqb k 0 ne)
    ∙ cond-true (ltb k m.n) (done (with_stage m p (Running x (k + 1) (reading (row_of m x) k f)))) (settle m p x (reading (row_of m x) k f))
    (lt-ltb k m.n hi)

pub access_last : (m : Machine) (p x f : ℕ) → 1 ≤ m.n → access m p x m.n f ≡ settle m p x (reading (row_of m x) m.n f)
unfolding access
access_last m p x f lo =
    let ne : m.n ≢ 0 = omega arith in
    let le : m.n ≤ m.n = omega arith in
    cond-false (eqb m.n 0) (done (write m p x f)) _ (ne_eqb m.n 0 ne)
    ∙ cond-false (ltb m.n m.n) (done (with_stage m p (Running x (m.n + 1) (reading (row_of m x) m.n f))))
    (settle m p x (reading (row_of m x) m.n f))
    (le-ltb m.n m.n le)

pub settle-finish : (m : Machine) (p x f : ℕ) → size f ≡ x → settle m p x f ≡ done (with_stage m p (Finished x f))
unfolding settle
settle-finish m p x f e = cond-true (eqb (size f) x) (done (with_stage m p (Finished x f))) _ (eq-eqb (size f) x e)

pub settle_fall : (m : Machine) (p x f : ℕ) → size f ≢ x → 2 ≤ x → settle m p x f ≡ done (with_stage m p (Running (x - 1) 0 0))
unfolding settle
settle_fall m p x f ne lo =
    let more : x ≢ 1 = omega arith in
    cond-false (eqb (size f) x) (done (with_stage m p (Finished x f))) _ (ne_eqb (size f) x ne)
    ∙ cond-false (eqb x 1) (refused NoLevelBelow m) (done (with_stage m p (Running (x - 1) 0 0))) (ne_eqb x 1 more)

pub settle_stick : (m : Machine) (p f : ℕ) → size f ≢ 1 → settle m p 1 f ≡ refused NoLevelBelow m
unfolding settle
settle_stick m p f ne = cond-false (eqb (size f) 1) (done (with_stage m p (Finished 1 f))) _ (ne_eqb (size f) 1 ne)

pub new_machine : NewMachine
unfolding new_of
new_machine =
    record {
      made = λ n lo hi.
          cond-true (leb 1 n && leb n 32) (done (fresh n)) (refused OutOfRange (fresh 1)) (both (leb 1 n) (leb n 32) (le-leb 1 n lo) (le-leb n 32 hi));
      absent = λ n p. ap (λ P. P.stage) (blank 32 (p - 1) nobody);
    }

-- a machine with a process has at least one
pub some : (m : Machine) (p : ℕ) → Valid m p → 1 ≤ m.n
some m p h = omega (arith, h.low, h.high)

pub what_calls_do : WhatCallsDo
what_calls_do =
    record {
      enters = enters;
      crashes = crashes;
      writes = λ m p h x f e. steps m p h x 0 f e ∙ access-write m p x f;
      reads = λ m p h x k f e lo hi. steps m p h x k f e ∙ access-read m p x k f lo hi;
      finishes = λ m p h x f e s. steps m p h x m.n f e ∙ access_last m p x f (some m p h) ∙ settle-finish m p x _ s;
      falls = λ m p h x f e s lo. steps m p h x m.n f e ∙ access_last m p x f (some m p h) ∙ settle_fall m p x _ s lo;
      sticks = λ m p h f e s. steps m p h 1 m.n f e ∙ access_last m p 1 f (some m p h) ∙ settle_stick m p _ s;
    }

-- What an accepted call did. Rule 3: "Entering gives a process its value and puts it at level n with no access made. It touches no register."
pub record DidEnter (m : Machine) (p v : ℕ) (c : Called) : Type 0 where
  pub was : stage_of m p ≡ Absent
  pub left : c ≡ done (with_process m p (record { stage = Running m.n 0 0; value = v }))

-- Rule 6: "A crashed process never moves again. What it wrote stays."
pub record DidCrash (m : Machine) (p : ℕ) (c : Called) : Type 0 where
  pub level : ℕ
  pub made : ℕ
  pub found : ℕ
  pub was : stage_of m p ≡ Running level made found
  pub left : c ≡ done (with_stage m p (Crashed level made found))

-- Rules 4 and 5: the write; a read that is not the last; the last read, which finishes or goes to the next lower level.
pub data DidStep (m : Machine) (p : ℕ) (c : Called) : Type 0 where
  did_write : (x f : ℕ) → stage_of m p ≡ Running x 0 f → c ≡ done (write m p x f) → DidStep m p c
  did_read : (x k f : ℕ) → stage_of m p ≡ Running x k f → 1 ≤ k → k < m.n
      → c ≡ done (with_stage m p (Running x (k + 1) (reading (row_of m x) k f))) → DidStep m p c
  did_finish : (x f : ℕ) → stage_of m p ≡ Running x m.n f → size (at_last m x f) ≡ x
      → c ≡ done (with_stage m p (Finished x (at_last m x f))) → DidStep m p c
  did_fall : (x f : ℕ) → stage_of m p ≡ Running x m.n f → size (at_last m x f) ≢ x → 2 ≤ x
      → c ≡ done (with_stage m p (Running (x - 1) 0 0)) → DidStep m p c

-- "step at level 1 whose last read gives a count other than 1"
pub record DidStick (m : Machine) (p : ℕ) (c : Called) : Type 0 where
  pub found : ℕ
  pub was : stage_of m p ≡ Running 1 m.n found
  pub others : size (at_last m 1 found) ≢ 1
  pub left : c ≡ refused NoLevelBelow m

pub record WhatCallsDid : Type 0 where
  pub enter : (m : Machine) (p v : ℕ) → accepted (enter_of m p v) ≡ true → Valid m p × DidEnter m p v (enter_of m p v)
  pub crash : (m : Machine) (p : ℕ) → accepted (crash_of m p) ≡ true → Valid m p × DidCrash m p (crash_of m p)
  pub step : (m : Machine) (p : ℕ) → accepted (step_of m p) ≡ true → Valid m p × DidStep m p (step_of m p)

-- a running process makes a step or is stuck
pub makes_step : (m : Machine) (p : ℕ) → Valid m p → (x k f : ℕ) → stage_of m p ≡ Running x k f → DidStep m p (step_of m p) ⊎ DidStick m p (step_of m p)
makes_step m p h x k f e = go (equal_or_not k 0) (equal_or_not k m.n) (equal_or_not (size (reading (row_of m x) m.n f)) x) (equal_or_not x 1)
  where
    g : Going m.n (row_of m) x k f
    g = running m p h x k f e

    last : k ≡ m.n → stage_of m p ≡ Running x m.n f
    last q = e ∙ ap (λ j. Running x j f) q

    alone : x ≡ 1 → k ≡ m.n → stage_of m p ≡ Running 1 m.n f
    alone o q = last q ∙ ap (λ y. Running y m.n f) o

    between : k ≢ 0 → k ≢ m.n → (1 ≤ k) × (k < m.n)
    between nz nn = omega (arith, g.accesses)

    two : x ≢ 1 → 2 ≤ x
    two o = omega (arith, g.low)

    go : (k ≡ 0) ⊎ (k ≢ 0) → (k ≡ m.n) ⊎ (k ≢ m.n) → (size (reading (row_of m x) m.n f) ≡ x) ⊎ (size (reading (row_of m x) m.n f) ≢ x)
        → (x ≡ 1) ⊎ (x ≢ 1) → DidStep m p (step_of m p) ⊎ DidStick m p (step_of m p)
    go (inl z) b s o =
        let was : stage_of m p ≡ Running x 0 f = e ∙ ap (λ j. Running x j f) z in
        inl (did_write x f was (what_calls_do.writes m p h x f was))
    go (inr nz) (inr nn) s o =
        let b : (1 ≤ k) × (k < m.n) = between nz nn in
        inl (did_read x k f e b.0 b.1 (what_calls_do.reads m p h x k f e b.0 b.1))
    go (inr nz) (inl q) (inl s) o = inl (did_finish x f (last q) s (what_calls_do.finishes m p h x f (last q) s))
    go (inr nz) (inl q) (inr s) (inr o) = inl (did_fall x f (last q) s (two o) (what_calls_do.falls m p h x f (last q) s (two o)))
    go (inr nz) (inl q) (inr s) (inl o) =
        let one : size (reading (row_of m 1) m.n f) ≢ 1 = subst (λ y. size (reading (row_of m y) m.n f) ≢ y) o s in
        inr (record { found = f; was = alone o q; others = one; left = what_calls_do.sticks m p h f (alone o q) one })

-- an accepted call of a process, by its stage
accepted_at : (m : Machine) (p : ℕ) (at : Stage → Called) → accepted (tested m p (at (stage_of m p))) ≡ true
    → Valid m p × (accepted (at (stage_of m p)) ≡ true)
accepted_at m p at a =
    let v : Valid m p = went_on m p (at (stage_of m p)) a in
    (v, sym (ap accepted (goes_on m p v (at (stage_of m p)))) ∙ a)

entered_how : (m : Machine) (p v : ℕ) → accepted (enter_of m p v) ≡ true → Valid m p × DidEnter m p v (enter_of m p v)
unfolding enter_of
entered_how m p v a = (h.0, go (stage_of m p) refl h.1)
  where
    h : Valid m p × (accepted (enter_at (stage_of m p) m p v) ≡ true)
    h = accepted_at m p (λ s. enter_at s m p v) a

    go : (s : Stage) → stage_of m p ≡ s → accepted (enter_at s m p v) ≡ true → DidEnter m p v (tested m p (enter_at (stage_of m p) m p v))
    go Absent e t = record { was = e; left = enters m p h.0 v e }
    go (Running x k f) e t = absurd (false≢true t)
    go (Finished x w) e t = absurd (false≢true t)
    go (Crashed x k f) e t = absurd (false≢true t)

crashed_how : (m : Machine) (p : ℕ) → accepted (crash_of m p) ≡ true → Valid m p × DidCrash m p (crash_of m p)
unfolding crash_of
crashed_how m p a = (h.0, go (stage_of m p) refl h.1)
  where
    h : Valid m p × (accepted (crash_at (stage_of m p) m p) ≡ true)
    h = accepted_at m p (λ s. crash_at s m p) a

    go : (s : Stage) → stage_of m p ≡ s → accepted (crash_at s m p) ≡ true → DidCrash m p (tested m p (crash_at (stage_of m p) m p))
    go Absent e t = absurd (false≢true t)
    go (Running x k f) e t = record { level = x; made = k; found = f; was = e; left = crashes m p h.0 x k f e }
    go (Finished x w) e t = absurd (false≢true t)
    go (Crashed x k f) e t = absurd (false≢true t)

not_stuck : (m : Machine) (p : ℕ) (c : Called) → accepted c ≡ true → DidStep m p c ⊎ DidStick m p c → DidStep m p c
not_stuck m p c a (inl d) = d
not_stuck m p c a (inr s) = absurd (false≢true (sym (ap accepted s.left) ∙ a))

stepped_how : (m : Machine) (p : ℕ) → accepted (step_of m p) ≡ true → Valid m p × DidStep m p (step_of m p)
unfolding step_of
stepped_how m p a = (h.0, go (stage_of m p) refl h.1)
  where
    h : Valid m p × (accepted (step_at (stage_of m p) m p) ≡ true)
    h = accepted_at m p (λ s. step_at s m p) a

    go : (s : Stage) → stage_of m p ≡ s → accepted (step_at s m p) ≡ true → DidStep m p (tested m p (step_at (stage_of m p) m p))
    go Absent e t = absurd (false≢true t)
    go (Running x k f) e t = not_stuck m p (tested m p (step_at (stage_of m p) m p)) a (makes_step m p h.0 x k f e)
    go (Finished x w) e t = absurd (false≢true t)
    go (Crashed x k f) e t = absurd (false≢true t)

pub what_calls_did : WhatCallsDid
what_calls_did = record { enter = entered_how; crash = crashed_how; step = stepped_how }
