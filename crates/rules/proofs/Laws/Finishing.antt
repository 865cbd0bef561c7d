-- Rule 8: finishing alone is single steps up to the one that finishes the process, or up to the one that is refused with 7.
use mathlib.Core.Path.{◌≡◌, refl, sym, ap, subst, ◌∙◌}
use mathlib.Core.Logic.{◌⊎◌, inl, inr, ◌≢◌}
use mathlib.Core.Bool.{Bool, true, false, not, ◌&&◌, cond, false≢true, true≢false}
use mathlib.Core.List.{[], ◌∷◌}
use Prim.Native.Nat.{ℕ, zero, suc, ◌+◌, ◌-◌, ◌≤◌, ◌<◌}
use native.Mathlib.Omega.{arith}
use lib.Dec.{leb, eqb}
use borrow.Author.Tests.{eqb-true, eq-eqb}
use Rattle.sets.specs.Members.{size}
use Rattle.sets.specs.Lines.{when, first_that}
use Rattle.rules.specs.declared.Stage.{Stage}
use Rattle.rules.specs.declared.Stage.TheVariants.{Absent, Running, Finished, Crashed}
use Rattle.rules.specs.declared.Machine.{Machine}
use Rattle.rules.specs.declared.Answer.TheVariants.{NotShaped, NoProcess, NoLevelBelow}
use Rattle.rules.specs.declared.Called.{Called}
use Rattle.rules.specs.Stands.{stage_of, entered}
use Rattle.rules.specs.State.{finished, crashed, accesses_of}
use Rattle.rules.specs.Shape.{Held, shaped}
use Rattle.rules.specs.Calls.{number_of, accepted, refused, crash_of, step_at, step_of, steps_of, finish_from, or_as_at_entry, finish_at, finish_of}
use Rattle.rules.specs.Numbers.{crash_lines}
use Rattle.rules.specs.Statements.{Valid, Meets, none, FirstLine, Finishes, Sticks, ExactlyWhenAlone, FinishingAlone}
use Rattle.rules.proofs.Laws.Small.{equal_or_not, at_most_or_above, cond-true}
use Rattle.rules.proofs.Laws.Shape.{shaped_record}
use Rattle.rules.proofs.Laws.Did.{goes_on, what_calls_did}
use Rattle.rules.proofs.Laws.Numbers.{first-given, given-first, none_first, first-none, number-crash, number-finish}
use Rattle.rules.proofs.Laws.Steps.{steps_on, steps_off, steps_then}
use Rattle.rules.proofs.Laws.Keeps.{every_state_meets}
use Rattle.rules.proofs.Laws.Accesses.{accesses_of_calls}
use Rattle.rules.proofs.Laws.Level.{Runs, going, ended_steps, ended_there, finishes_here, stuck_there, sticks_here, left, fell, left_runs, goes-below, seen}

-- the accepted steps are the accesses that they make
pub steps_count : (k n : ℕ) (m : Machine) → Meets n m → (p : ℕ) → accepted (steps_of k m p) ≡ true
    → accesses_of n (stage_of (steps_of k m p).machine p) ≡ accesses_of n (stage_of m p) + k
unfolding steps_of
steps_count zero n m M p a = plus_none (accesses_of n (stage_of m p))
  where
    plus_none : (a : ℕ) → a ≡ a + 0
    plus_none a = omega arith
steps_count (suc k) n m M p a = go (accepted (step_of m p)) refl (steps_count k n (step_of m p).machine (every_state_meets.step n m M p) p)
  where
    one : accepted (step_of m p) ≡ true → accesses_of n (stage_of (step_of m p).machine p) ≡ accesses_of n (stage_of m p) + 1
    one t =
        subst (λ n. accesses_of n (stage_of (step_of m p).machine p) ≡ accesses_of n (stage_of m p) + 1) M.size
        (accesses_of_calls.step m M.held p t)

    sum : (a b c : ℕ) → a ≡ b + k → b ≡ c + 1 → a ≡ c + suc k
    sum a b c p q = omega arith

    go : (b : Bool) → accepted (step_of m p) ≡ b
        → (accepted (steps_of k (step_of m p).machine p) ≡ true
        → accesses_of n (stage_of (steps_of k (step_of m p).machine p).machine p) ≡ accesses_of n (stage_of (step_of m p).machine p) + k)
        → accesses_of n (stage_of (steps_of (suc k) m p).machine p) ≡ accesses_of n (stage_of m p) + suc k
    go true t further =
        ap (λ c. accesses_of n (stage_of c.machine p)) (steps_on k m p t)
        ∙ sum _ _ (accesses_of n (stage_of m p)) (further (sym (ap accepted (steps_on k m p t)) ∙ a)) (one t)
    go false t further = absurd (false≢true (sym t ∙ sym (ap accepted (steps_off k m p t)) ∙ a))

-- the first step that is refused
record FirstRefused (k : ℕ) (m : Machine) (p : ℕ) : Type 0 where
  steps : ℕ
  made : accepted (steps_of steps m p) ≡ true
  next : steps_of k m p ≡ step_of (steps_of steps m p).machine p

first_refused : (k : ℕ) (m : Machine) (p : ℕ) → accepted (steps_of k m p) ≡ false → FirstRefused k m p
unfolding steps_of
first_refused zero m p a = absurd (true≢false a)
first_refused (suc k) m p a = go (accepted (step_of m p)) refl (first_refused k (step_of m p).machine p)
  where
    go : (b : Bool) → accepted (step_of m p) ≡ b → (accepted (steps_of k (step_of m p).machine p) ≡ false → FirstRefused k (step_of m p).machine p)
        → FirstRefused (suc k) m p
    go true t further =
        let r : FirstRefused k (step_of m p).machine p = further (sym (ap accepted (steps_on k m p t)) ∙ a) in
        record {
          steps = suc r.steps;
          made = ap accepted (steps_on r.steps m p t) ∙ r.made;
          next = steps_on k m p t ∙ r.next ∙ ap (λ c. step_of c.machine p) (sym (steps_on r.steps m p t));
        }
    go false t further = record { steps = 0; made = refl; next = steps_off k m p t }

-- How the recursion ends: it is so many steps, after which p has finished, or the last of which is refused with 7.
abbrev How : ℕ → Called → Type 0
How p c = ((accepted c ≡ true) × (finished (stage_of c.machine p) ≡ true)) ⊎ (c.answer ≡ NoLevelBelow)

record Ends (m : Machine) (p : ℕ) (c : Called) : Type 0 where
  steps : ℕ
  equal : c ≡ steps_of steps m p
  how : How p c

finish-here : (x : ℕ) (m : Machine) (p k f : ℕ) → Runs m p (suc x) k f → size (seen m p (suc x) k f) ≡ suc x
    → Ends m p (finish_from (suc x) m p)
finish-here x m p k f r e =
    let here = finishes_here x m p k f r e in
    record {
      steps = m.n + 1 - k;
      equal = here ∙ sym (ended_steps x m p k f r e);
      how = inl (ap accepted here, ap (λ c. finished (stage_of c.machine p)) here ∙ ended_there x m p k f r e);
    }

from-ends : (x : ℕ) (m : Machine) (p k f : ℕ) → Runs m p x k f → Ends m p (finish_from x m p)
from-ends zero m p k f r = absurd (nothing (going m p 0 k f r).low)
  where
    nothing : 1 ≤ 0 → ⊥
    nothing h = omega arith
from-ends (suc zero) m p k f r = go (equal_or_not (size (seen m p 1 k f)) 1)
  where
    go : (size (seen m p 1 k f) ≡ 1) ⊎ (size (seen m p 1 k f) ≢ 1) → Ends m p (finish_from 1 m p)
    go (inl e) = finish-here 0 m p k f r e
    go (inr ne) =
        record {
          steps = m.n + 1 - k;
          equal = sticks_here m p k f r ne;
          how = inr (ap (λ c. c.answer) (sticks_here m p k f r ne) ∙ stuck_there m p k f r ne);
        }
from-ends (suc (suc x)) m p k f r =
    go (equal_or_not (size (seen m p (suc (suc x)) k f)) (suc (suc x)))
    (λ ne. from-ends (suc x) (left x m p k) p 0 0 (left_runs x m p k f r ne))
  where
    go : (size (seen m p (suc (suc x)) k f) ≡ suc (suc x)) ⊎ (size (seen m p (suc (suc x)) k f) ≢ suc (suc x))
        → (size (seen m p (suc (suc x)) k f) ≢ suc (suc x) → Ends (left x m p k) p (finish_from (suc x) (left x m p k) p))
        → Ends m p (finish_from (suc (suc x)) m p)
    go (inl e) further = finish-here (suc x) m p k f r e
    go (inr ne) further =
        let rest = further ne in
        let down = fell x m p k f r ne in
        record {
          steps = m.n + 1 - k + rest.steps;
          equal =
              goes-below x m p k f r ne ∙ rest.equal
              ∙ sym (steps_then (m.n + 1 - k) rest.steps m p (ap accepted down) ∙ ap (λ c. steps_of rest.steps c.machine p) down);
          how = subst (How p) (sym (goes-below x m p k f r ne)) rest.how;
        }

-- Neither 1, 2, 4, 5 nor 6 applies: a running process of a well shaped machine.
record Alone (m : Machine) (p : ℕ) : Type 0 where
  valid : Valid m p
  level : ℕ
  made : ℕ
  found : ℕ
  stage : stage_of m p ≡ Running level made found

alone : (m : Machine) (p : ℕ) → first_that (crash_lines m p) ≡ 0 → Alone m p
alone m p e =
    let d = what_calls_did.crash m p (eq-eqb (number_of (crash_of m p).answer) 0 (number-crash m p ∙ e)) in
    record { valid = d.0; level = d.1.level; made = d.1.made; found = d.1.found; stage = d.1.was }

runs-alone : (m : Machine) (p : ℕ) (a : Alone m p) → finish_of m p ≡ or_as_at_entry m (finish_from a.level m p)
unfolding finish_of
runs-alone m p a = goes_on m p a.valid (finish_at (stage_of m p) m p) ∙ ap (λ s. finish_at s m p) a.stage

-- Its steps finish it, and the call is these; or one of them is refused with 7, and so is the call.
how_alone : (m : Machine) → Held m → (p : ℕ) → first_that (crash_lines m p) ≡ 0
    → ((s : Finishes m p) × (finish_of m p ≡ steps_of s.steps m p)) ⊎ (Sticks m p × ((finish_of m p).answer ≡ NoLevelBelow))
how_alone m h p z = go e.how
  where
    a : Alone m p
    a = alone m p z

    c : Called
    c = finish_from a.level m p

    e : Ends m p c
    e =
        from-ends a.level m p a.made a.found
        (record {
          meets = record { size = refl; held = h; shape = shaped_record m a.valid.shape };
          low = a.valid.low;
          high = a.valid.high;
          stage = a.stage;
        })

    go : How p c → ((s : Finishes m p) × (finish_of m p ≡ steps_of s.steps m p)) ⊎ (Sticks m p × ((finish_of m p).answer ≡ NoLevelBelow))
    go (inl t) =
        inl (
          record {
            steps = e.steps;
            made = sym (ap accepted e.equal) ∙ t.0;
            ended = subst (λ c. finished (stage_of c.machine p) ≡ true) e.equal t.1;
          },
          runs-alone m p a ∙ cond-true (accepted c) c (refused c.answer m) t.0 ∙ e.equal,
        )
    go (inr t) =
        let off : accepted c ≡ false = ap (λ n. eqb (number_of n) 0) t in
        let first = first_refused e.steps m p (sym (ap accepted e.equal) ∙ off) in
        inr (
          record {
            steps = first.steps;
            made = first.made;
            next = ap (λ d. number_of d.answer) (sym first.next ∙ sym e.equal) ∙ ap number_of t;
          },
          ap (λ d. d.answer) (runs-alone m p a) ∙ ap (λ n. (cond (eqb (number_of n) 0) c (refused n m)).answer) t,
        )

-- a process that does not stick finishes
pub finishes_unless_sticks : (m : Machine) → Held m → (p : ℕ) → none (crash_lines m p) ≡ true → (Sticks m p → ⊥) → Finishes m p
finishes_unless_sticks m h p z never = go (how_alone m h p (none_first (crash_lines m p) z))
  where
    go : ((s : Finishes m p) × (finish_of m p ≡ steps_of s.steps m p)) ⊎ (Sticks m p × ((finish_of m p).answer ≡ NoLevelBelow)) → Finishes m p
    go (inl t) = t.0
    go (inr t) = absurd (never t.0)

-- Where the accepted steps of p end.
record Stops (m : Machine) (p a : ℕ) : Type 0 where
  made : accepted (steps_of a m p) ≡ true
  next : accepted (step_of (steps_of a m p).machine p) ≡ false

no_later : (m : Machine) (p a b : ℕ) → Stops m p a → accepted (steps_of b m p) ≡ true → b ≤ a
no_later m p a b s t = go (at_most_or_above b a)
  where
    go : (b ≤ a) ⊎ (a < b) → b ≤ a
    go (inl le) = le
    go (inr lt) =
        let sum : a + suc (b - a - 1) ≡ b = omega arith in
        let one = steps_then a (suc (b - a - 1)) m p s.made ∙ steps_off (b - a - 1) (steps_of a m p).machine p s.next in
        absurd (false≢true (sym s.next ∙ sym (ap accepted one) ∙ ap (λ j. accepted (steps_of j m p)) sum ∙ t))

one_stop : (m : Machine) (p a b : ℕ) → Stops m p a → Stops m p b → a ≡ b
one_stop m p a b s t = omega (arith, no_later m p a b s t.made, no_later m p b a t s.made)

-- a finished process makes no step, and its refusal is not 7
finished-step : (m : Machine) (p : ℕ) → finished (stage_of m p) ≡ true → (accepted (step_of m p) ≡ false) × (number_of (step_of m p).answer ≢ 7)
unfolding step_of
finished-step m p e = go (shaped m) (leb 1 p && leb p m.n) (stage_of m p) e
  where
    at : Bool → Bool → Stage → Called
    at s r t = cond s (cond r (step_at t m p) (refused NoProcess m)) (refused NotShaped m)

    go : (s r : Bool) (t : Stage) → finished t ≡ true → (accepted (at s r t) ≡ false) × (number_of (at s r t).answer ≢ 7)
    go false r t e = (refl, omega arith)
    go true false t e = (refl, omega arith)
    go true true Absent e = absurd (false≢true e)
    go true true (Running x k f) e = absurd (false≢true e)
    go true true (Finished x w) e = (refl, omega arith)
    go true true (Crashed x k f) e = absurd (false≢true e)

finishes_stops : (m : Machine) (p : ℕ) (s : Finishes m p) → Stops m p s.steps
finishes_stops m p s = record { made = s.made; next = (finished-step (steps_of s.steps m p).machine p s.ended).0 }

sticks_stops : (m : Machine) (p : ℕ) (s : Sticks m p) → Stops m p s.steps
sticks_stops m p s = record { made = s.made; next = ap (λ k. eqb k 0) s.next }

never_both : (m : Machine) (p : ℕ) → Finishes m p → Sticks m p → ⊥
never_both m p s t =
    let e = one_stop m p s.steps t.steps (finishes_stops m p s) (sticks_stops m p t) in
    (finished-step (steps_of s.steps m p).machine p s.ended).1
    (ap (λ k. number_of (step_of (steps_of k m p).machine p).answer) e ∙ t.next)

-- The table.
crash_not_seven : (m : Machine) (p : ℕ) → first_that (crash_lines m p) ≢ 7
crash_not_seven m p = go (shaped m) (leb 1 p && leb p m.n) (stage_of m p)
  where
    go : (s r : Bool) (t : Stage)
        → first_that (when 1 (not s) ∷ when 2 (not r) ∷ when 4 (not (entered t)) ∷ when 5 (crashed t) ∷ when 6 (finished t) ∷ []) ≢ 7
    go false r t = omega arith
    go true false t = omega arith
    go true true Absent = omega arith
    go true true (Running x k f) = omega arith
    go true true (Finished x w) = omega arith
    go true true (Crashed x k f) = omega arith

pub exactly_alone : (m : Machine) → Held m → (p : ℕ) → ExactlyWhenAlone m p
exactly_alone m h p =
    record {
      some = λ k nz n7. (some_to k nz n7 (equal_or_not lines 0), some_back k nz);
      seven = (seven_to (equal_or_not lines 0), λ t. seven_back t (number (none_first (crash_lines m p) t.0)));
      nothing = (nothing_to (equal_or_not lines 0), λ t. nothing_back t (number (none_first (crash_lines m p) t.0)));
    }
  where
    lines : ℕ
    lines = first_that (crash_lines m p)

    answered : ℕ
    answered = number_of (finish_of m p).answer

    -- where no line of a crash applies
    number : lines ≡ 0 → (Finishes m p × (answered ≡ 0)) ⊎ (Sticks m p × (answered ≡ 7))
    number z = go (how_alone m h p z)
      where
        go : ((s : Finishes m p) × (finish_of m p ≡ steps_of s.steps m p)) ⊎ (Sticks m p × ((finish_of m p).answer ≡ NoLevelBelow))
            → (Finishes m p × (answered ≡ 0)) ⊎ (Sticks m p × (answered ≡ 7))
        go (inl t) = inl (t.0, ap (λ c. number_of c.answer) t.1 ∙ eqb-true (number_of (steps_of t.0.steps m p).answer) 0 t.0.made)
        go (inr t) = inr (t.0, ap number_of t.1)

    no_line : lines ≡ 0 → none (crash_lines m p) ≡ true
    no_line z = first-none (crash_lines m p) refl z

    some_to : (k : ℕ) → k ≢ 0 → k ≢ 7 → (lines ≡ 0) ⊎ (lines ≢ 0) → answered ≡ k → FirstLine k (crash_lines m p)
    some_to k nz n7 (inr ne) e = first-given k nz (crash_lines m p) (sym (number-finish m p ne) ∙ e)
    some_to k nz n7 (inl z) e = go (number z)
      where
        go : (Finishes m p × (answered ≡ 0)) ⊎ (Sticks m p × (answered ≡ 7)) → FirstLine k (crash_lines m p)
        go (inl t) = absurd (nz (sym e ∙ t.1))
        go (inr t) = absurd (n7 (sym e ∙ t.1))

    some_back : (k : ℕ) → k ≢ 0 → FirstLine k (crash_lines m p) → answered ≡ k
    some_back k nz g =
        let e : lines ≡ k = given-first k (crash_lines m p) g in
        number-finish m p (λ z. nz (sym e ∙ z)) ∙ e

    seven_to : (lines ≡ 0) ⊎ (lines ≢ 0) → answered ≡ 7 → (none (crash_lines m p) ≡ true) × Sticks m p
    seven_to (inr ne) e = absurd (crash_not_seven m p (sym (number-finish m p ne) ∙ e))
    seven_to (inl z) e = go (number z)
      where
        go : (Finishes m p × (answered ≡ 0)) ⊎ (Sticks m p × (answered ≡ 7)) → (none (crash_lines m p) ≡ true) × Sticks m p
        go (inl t) = absurd (let w : ⊥ = omega (arith, e, t.1) in w)
        go (inr t) = (no_line z, t.0)

    seven_back : (none (crash_lines m p) ≡ true) × Sticks m p → (Finishes m p × (answered ≡ 0)) ⊎ (Sticks m p × (answered ≡ 7)) → answered ≡ 7
    seven_back t (inl u) = absurd (never_both m p u.0 t.1)
    seven_back t (inr u) = u.1

    nothing_to : (lines ≡ 0) ⊎ (lines ≢ 0) → answered ≡ 0 → (none (crash_lines m p) ≡ true) × Finishes m p
    nothing_to (inr ne) e = absurd (ne (sym (number-finish m p ne) ∙ e))
    nothing_to (inl z) e = go (number z)
      where
        go : (Finishes m p × (answered ≡ 0)) ⊎ (Sticks m p × (answered ≡ 7)) → (none (crash_lines m p) ≡ true) × Finishes m p
        go (inl t) = (no_line z, t.0)
        go (inr t) = absurd (let w : ⊥ = omega (arith, e, t.1) in w)

    nothing_back : (none (crash_lines m p) ≡ true) × Finishes m p → (Finishes m p × (answered ≡ 0)) ⊎ (Sticks m p × (answered ≡ 7)) → answered ≡ 0
    nothing_back t (inl u) = u.1
    nothing_back t (inr u) = absurd (never_both m p t.1 u.0)

-- Rule 8.
equals : (m : Machine) → Held m → (p : ℕ) → accepted (finish_of m p) ≡ true → (s : Finishes m p) → finish_of m p ≡ steps_of s.steps m p
equals m h p a s = go (how_alone m h p (none_first (crash_lines m p) ((exactly_alone m h p).nothing.0 (eqb-true (number_of (finish_of m p).answer) 0 a)).0))
  where
    go : ((s : Finishes m p) × (finish_of m p ≡ steps_of s.steps m p)) ⊎ (Sticks m p × ((finish_of m p).answer ≡ NoLevelBelow))
        → finish_of m p ≡ steps_of s.steps m p
    go (inl t) =
        t.1 ∙ ap (λ k. steps_of k m p) (one_stop m p t.0.steps s.steps (finishes_stops m p t.0) (finishes_stops m p s))
    go (inr t) = absurd (never_both m p s t.0)

counts : (m : Machine) → Held m → (p : ℕ) → accepted (finish_of m p) ≡ true → (s : Finishes m p)
    → accesses_of m.n (stage_of (finish_of m p).machine p) ≡ accesses_of m.n (stage_of m p) + s.steps
counts m h p a s =
    let z = none_first (crash_lines m p) ((exactly_alone m h p).nothing.0 (eqb-true (number_of (finish_of m p).answer) 0 a)).0 in
    ap (λ c. accesses_of m.n (stage_of c.machine p)) (equals m h p a s)
    ∙ steps_count s.steps m.n m (record { size = refl; held = h; shape = shaped_record m (alone m p z).valid.shape }) p s.made

pub finishing_alone : FinishingAlone
finishing_alone = record { equals = equals; count = counts }
