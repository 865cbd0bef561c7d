-- What the calls answer to a state that is well shaped or is not; so, with what Clauses computes, that every clause of the shape is tested.
use mathlib.Core.Path.{◌≡◌, refl, sym, ap, subst, ◌∙◌}
use mathlib.Core.Logic.{◌⊎◌, inl, inr, ◌≢◌}
use mathlib.Core.Bool.{Bool, true, false, not, ◌&&◌, cond}
use mathlib.Core.List.{List, [], ◌∷◌, ◌++◌, Memᴰ}
use Prim.Native.Nat.{ℕ, zero, suc, ◌+◌, ◌-◌, ◌*◌, ◌^◌, ◌≤◌, ◌<◌}
use native.Mathlib.Omega.{arith}
use lib.Dec.{leb, ltb, eqb, lit≤}
use lib.ListN.{length, get_or, drop}
use borrow.Author.Tests.{ltb-true, eqb-true, eq-eqb, not-true, lt-leb}
use Rattle.sets.specs.Members.{known, has, size}
use Rattle.sets.specs.Sets.{every, same}
use Rattle.sets.proofs.Laws.{every_true, true_every, known_true, has_zero}
use Rattle.rules.specs.declared.Stage.{Stage}
use Rattle.rules.specs.declared.Stage.TheVariants.{Absent, Running, Finished, Crashed}
use Rattle.rules.specs.declared.Machine.{Machine}
use Rattle.rules.specs.declared.Answer.{Answer}
use Rattle.rules.specs.declared.Answer.TheVariants.{NotShaped, NoProcess, NoLevelBelow}
use Rattle.rules.specs.declared.Called.{Called}
use Rattle.rules.specs.declared.Sight.{Sight}
use Rattle.rules.specs.Stands.{nobody, stage_of, value_of, row_of, cell_of}
use Rattle.rules.specs.State.{finished, found_of, made_of, wrote}
use Rattle.rules.specs.Shape.{Held, shaped_register, shaped}
use Rattle.rules.specs.Calls.{number_of, accepted, done, refused, fresh, tested, enter_at, enter_of, crash_at, crash_of, settle, access, step_at}
use Rattle.rules.specs.Calls.{step_of, if_accepted, steps_of, finish_from, finish_at, finish_of, looked, unseen, look_of}
use Rattle.rules.specs.Statements.{Meets}
use Rattle.rules.specs.Shapes.{BothSides, n_is_in_range, clauses_of_two, every_clause, EveryNumber, EveryClauseTested}
use Rattle.rules.proofs.Laws.Small.{and_first, and_second, both, not_both, cond-true, cond-false, at_most_or_above, is_false}
use Rattle.rules.proofs.Clauses.{outside, all, records, rows, few, seems, is_zero, blank, surely, word, found_word, lengths, fits, passes}
use Rattle.rules.proofs.Clauses.{Passing, each_clause}
use Rattle.rules.proofs.Laws.Shape.{shaped_record, record_shaped}
use Rattle.rules.proofs.Laws.Keeps.{held_fresh, meets_fresh, every_state_meets, keep_steps}

-- A state that is not well shaped is refused with 1 by every call.
pub broken_is_1 : (m : Machine) → shaped m ≡ false → EveryNumber m (λ k. k ≡ 1)
unfolding enter_of step_of crash_of finish_of look_of
broken_is_1 m e =
    record {
      enter = λ p v. refuses (enter_at (stage_of m p) m p v) p;
      step = λ p. refuses (step_at (stage_of m p) m p) p;
      crash = λ p. refuses (crash_at (stage_of m p) m p) p;
      finish = λ p. refuses (finish_at (stage_of m p) m p) p;
      look = λ p. ap (λ s. number_of s.answer) (cond-false (shaped m) _ (unseen NotShaped) e);
    }
  where
    refuses : (c : Called) (p : ℕ) → number_of (tested m p c).answer ≡ 1
    refuses c p = ap (λ d. number_of d.answer) (cond-false (shaped m) _ (refused NotShaped m) e)

-- A state that is well shaped is refused with 1 by none.
abbrev Other : Answer → Type 0
Other a = eqb (number_of a) 1 ≡ false

not_1 : (a : Answer) → Other a → number_of a ≢ 1
not_1 a o e = not_both (eqb (number_of a) 1) (eq-eqb (number_of a) 1 e) o

other_cond : (b : Bool) (c d : Called) → Other c.answer → Other d.answer → Other (cond b c d).answer
other_cond true c d h k = h
other_cond false c d h k = k

other_tested : (m : Machine) → shaped m ≡ true → (p : ℕ) (c : Called) → Other c.answer → Other (tested m p c).answer
other_tested m s p c h =
    ap (λ d. eqb (number_of d.answer) 1) (cond-true (shaped m) (cond (leb 1 p && leb p m.n) c (refused NoProcess m)) (refused NotShaped m) s)
    ∙ other_cond (leb 1 p && leb p m.n) c (refused NoProcess m) h refl

other_enter : (t : Stage) (m : Machine) (p v : ℕ) → Other (enter_at t m p v).answer
other_enter Absent m p v = refl
other_enter (Running x k f) m p v = refl
other_enter (Finished x w) m p v = refl
other_enter (Crashed x k f) m p v = refl

other_crash : (t : Stage) (m : Machine) (p : ℕ) → Other (crash_at t m p).answer
other_crash Absent m p = refl
other_crash (Running x k f) m p = refl
other_crash (Finished x w) m p = refl
other_crash (Crashed x k f) m p = refl

other_settle : (m : Machine) (p x f : ℕ) → Other (settle m p x f).answer
unfolding settle
other_settle m p x f = other_cond (eqb (size f) x) _ _ refl (other_cond (eqb x 1) (refused NoLevelBelow m) _ refl refl)

other_step : (t : Stage) (m : Machine) (p : ℕ) → Other (step_at t m p).answer
unfolding access
other_step Absent m p = refl
other_step (Running x k f) m p = other_cond (eqb k 0) _ _ refl (other_cond (ltb k m.n) _ (settle m p x _) refl (other_settle m p x _))
other_step (Finished x w) m p = refl
other_step (Crashed x k f) m p = refl

other_if_accepted : (c : Called) (next : Machine → Called) → Other c.answer → Other (next c.machine).answer → Other (if_accepted c next).answer
other_if_accepted c next h k = go (accepted c)
  where
    go : (b : Bool) → Other (elim b as (λ _. Called) [ true ↦ next c.machine | false ↦ c ]).answer
    go true = k
    go false = h

other_step_of : (n : ℕ) (m : Machine) → Meets n m → (p : ℕ) → Other (step_of m p).answer
unfolding step_of
other_step_of n m M p = other_tested m (record_shaped m M.shape) p (step_at (stage_of m p) m p) (other_step (stage_of m p) m p)

other_steps : (k n : ℕ) (m : Machine) → Meets n m → (p : ℕ) → Other (steps_of k m p).answer
unfolding steps_of
other_steps zero n m M p = refl
other_steps (suc k) n m M p =
    other_if_accepted (step_of m p) (λ after. steps_of k after p) (other_step_of n m M p)
    (other_steps k n (step_of m p).machine (every_state_meets.step n m M p) p)

other_from : (x n : ℕ) (m : Machine) → Meets n m → (p : ℕ) → Other (finish_from x m p).answer
unfolding finish_from
other_from zero n m M p = refl
other_from (suc x) n m M p =
    other_if_accepted c (λ after. elim (finished (stage_of after p)) [ true ↦ done after | false ↦ finish_from x after p ]) (other_steps k n m M p)
    (go (finished (stage_of c.machine p)) (other_from x n c.machine (keep_steps k n m M p) p))
  where
    k : ℕ
    k = m.n + 1 - made_of m.n (stage_of m p)

    c : Called
    c = steps_of k m p

    go : (b : Bool) → Other (finish_from x c.machine p).answer
        → Other (elim b as (λ _. Called) [ true ↦ done c.machine | false ↦ finish_from x c.machine p ]).answer
    go true h = refl
    go false h = h

other_finish : (t : Stage) (n : ℕ) (m : Machine) → Meets n m → (p : ℕ) → Other (finish_at t m p).answer
other_finish Absent n m M p = refl
other_finish (Running x k f) n m M p =
    other_cond (accepted (finish_from x m p)) (finish_from x m p) (refused (finish_from x m p).answer m) (other_from x n m M p) (other_from x n m M p)
other_finish (Finished x w) n m M p = refl
other_finish (Crashed x k f) n m M p = refl

pub shaped_not_1 : (n : ℕ) (m : Machine) → Meets n m → EveryNumber m (λ k. k ≢ 1)
unfolding enter_of step_of crash_of finish_of look_of
shaped_not_1 n m M =
    record {
      enter = λ p v. takes p (enter_at (stage_of m p) m p v) (other_enter (stage_of m p) m p v);
      step = λ p. takes p (step_at (stage_of m p) m p) (other_step (stage_of m p) m p);
      crash = λ p. takes p (crash_at (stage_of m p) m p) (other_crash (stage_of m p) m p);
      finish = λ p. takes p (finish_at (stage_of m p) m p) (other_finish (stage_of m p) n m M p);
      look = λ p. shows p (cond (leb 1 p && leb p m.n) (looked m (stage_of m p)) (unseen NoProcess)) (sees (leb 1 p && leb p m.n) p);
    }
  where
    s : shaped m ≡ true
    s = record_shaped m M.shape

    takes : (p : ℕ) (c : Called) → Other c.answer → number_of (tested m p c).answer ≢ 1
    takes p c h = not_1 (tested m p c).answer (other_tested m s p c h)

    sees : (b : Bool) (p : ℕ) → Other (cond b (looked m (stage_of m p)) (unseen NoProcess)).answer
    sees true p = refl
    sees false p = refl

    shows : (p : ℕ) (l : Sight) → Other l.answer → number_of (cond (shaped m) l (unseen NotShaped)).answer ≢ 1
    shows p l h =
        not_1 (cond (shaped m) l (unseen NotShaped)).answer
        (ap (λ k. eqb (number_of k.answer) 1) (cond-true (shaped m) l (unseen NotShaped) s) ∙ h)

-- What an element of a list passes that every element passes.
all_from {ℓ} : {A : Type ℓ} (f : A → Bool) (d : A) → f d ≡ true → (k : ℕ) (l : List A) → all f (drop k l) ≡ true → (j : ℕ) → k ≤ j
    → f (get_or l j d) ≡ true
all_from f d h zero [] e j le = h
all_from f d h zero (a ∷ rest) e zero le = and_first (f a) (all f rest) e
all_from f d h zero (a ∷ rest) e (suc j) le = all_from f d h zero rest (and_second (f a) (all f rest) e) j (omega arith)
all_from f d h (suc k) [] e j le = h
all_from f d h (suc k) (a ∷ rest) e zero le = absurd (omega arith)
all_from f d h (suc k) (a ∷ rest) e (suc j) le = all_from f d h k rest e j (omega arith)

all-mem {ℓ} : {A : Type ℓ} (f : A → Bool) (l : List A) → all f l ≡ true → (a : A) → Memᴰ a l → f a ≡ true
all-mem f [] e a h = elim h [ ]
all-mem f (b ∷ l) e a (Memᴰ.head q) = ap f q ∙ and_first (f b) (all f l) e
all-mem f (b ∷ l) e a (Memᴰ.tail h) = all-mem f l (and_second (f b) (all f l) e) a h

-- That a state is not well shaped is seen in a record, or in a register of a few rows.
every_few : (f : ℕ → Bool) (is : List ℕ) → all known is ≡ true → ((i : ℕ) → 1 ≤ i → i ≤ 32 → f i ≡ true) → all f is ≡ true
every_few f [] k h = refl
every_few f (i ∷ is) k h =
    let b = known_true i (and_first (known i) (all known is) k) in
    both (f i) (all f is) (h i b.0 b.1) (every_few f is (and_second (known i) (all known is) k) h)

shaped_seems : (m : Machine) → shaped m ≡ true → seems m ≡ true
unfolding shaped seems
shaped_seems m e =
    both (records m) _ (and_first (records m) (rows 32 m) e)
    (every_few (λ x. all (shaped_register m x) few) few refl λ x lx hx.
    every_few (shaped_register m x) few refl
    (every_true 32 (shaped_register m x) (every_true 32 (λ x. every 32 (shaped_register m x)) (and_second (records m) (rows 32 m) e) x lx hx)))

-- That it is well shaped: above n all is zero, and the rest is tested.
above_shaped : (m : Machine) (x i : ℕ) → m.n < x → row_of m x ≡ 0 → cell_of m x i ≡ 0 → shaped_register m x i ≡ true
unfolding shaped_register
above_shaped m x i a r c =
    both (same (has (row_of m x) i) (leb x m.n && wrote m.n (stage_of m i) x)) _
    (ap (λ h. same h (leb x m.n && wrote m.n (stage_of m i) x)) none ∙ ap (λ b. not (b && wrote m.n (stage_of m i) x)) (lt-leb x m.n a))
    (eq-eqb (cell_of m x i) (cond (has (row_of m x) i) (value_of m i) 0) (c ∙ sym (cond-false (has (row_of m x) i) (value_of m i) 0 none)))
  where
    none : has (row_of m x) i ≡ false
    none = ap (λ w. has w i) r ∙ has_zero i

pub surely_shaped : (m : Machine) → surely m ≡ true → shaped m ≡ true
unfolding shaped surely
surely_shaped m e =
    both (records m) (rows 32 m) (and_first (records m) _ e)
    (true_every 32 (λ x. every 32 (shaped_register m x)) λ x lx hx.
    true_every 32 (shaped_register m x) λ i li hi. register x i lx li hi (at_most_or_above x m.n))
  where
    rest : (blank m && rows m.n m) ≡ true
    rest = and_second (records m) _ e

    empty : blank m ≡ true
    empty = and_first (blank m) (rows m.n m) rest

    zero_from : (k : ℕ) (l : List ℕ) → all is_zero (drop k l) ≡ true → (j : ℕ) → k ≤ j → get_or l j 0 ≡ 0
    zero_from k l z j le = eqb-true (get_or l j 0) 0 (all_from is_zero 0 refl k l z j le)

    register : (x i : ℕ) → 1 ≤ x → 1 ≤ i → i ≤ 32 → (x ≤ m.n) ⊎ (m.n < x) → shaped_register m x i ≡ true
    register x i lx li hi (inl le) =
        every_true 32 (shaped_register m x) (every_true m.n (λ x. every 32 (shaped_register m x)) (and_second (blank m) _ rest) x lx le) i li hi
    register x i lx li hi (inr gt) =
        above_shaped m x i gt (zero_from m.n m.filled (and_first (all is_zero (drop m.n m.filled)) _ empty) (x - 1) (omega arith))
        (zero_from (32 * m.n) m.values (and_second (all is_zero (drop m.n m.filled)) _ empty) (32 * (x - 1) + (i - 1)) (omega arith))

-- That the declared types hold it.
fits_held : (m : Machine) → fits m ≡ true → Held m
unfolding fits
fits_held m e =
    let l = and_first (lengths m) _ e in
    let l₂ = and_second (eqb (length m.filled) 32) _ l in
    let w = and_second (lengths m) _ e in
    record {
      rows = eqb-true (length m.filled) 32 (and_first (eqb (length m.filled) 32) _ l);
      cells = eqb-true (length m.values) 1024 (and_first (eqb (length m.values) 1024) _ l₂);
      slots = eqb-true (length m.processes) 32 (and_second (eqb (length m.values) 1024) _ l₂);
      row = λ x. ltb-true (row_of m x) (2 ^ 32) (all_from word 0 refl 0 m.filled (and_first (all word m.filled) _ w) (x - 1) (omega arith));
      found = λ i.
          ltb-true (found_of (stage_of m i)) (2 ^ 32)
          (all_from found_word nobody refl 0 m.processes (and_second (all word m.filled) _ w) (i - 1) (omega arith));
    }

-- What the tests of a pair come to: the first is not well shaped, and the second is.
pub record Tested (e : BothSides) : Type 0 where
  pub broken : shaped e.broken ≡ false
  pub neighbour : shaped e.neighbour ≡ true
  pub held : Held e.neighbour

pair-tested : (e : BothSides) → passes e ≡ true → Tested e
unfolding passes
pair-tested e t =
    record {
      broken = is_false (shaped e.broken) λ s. not_both (seems e.broken) (shaped_seems e.broken s) bad;
      neighbour = surely_shaped e.neighbour (and_first (surely e.neighbour) _ good);
      held = fits_held e.neighbour (and_second (surely e.neighbour) _ good);
    }
  where
    bad : seems e.broken ≡ false
    bad = not-true (seems e.broken) (and_first (not (seems e.broken)) _ t)

    good : (surely e.neighbour && fits e.neighbour) ≡ true
    good = and_second (not (seems e.broken)) _ t

-- All pairs.
join : {l r : List BothSides} → Passing l → Passing r → Passing (l ++ r)
join {l} {r} p q = record { computed = go l p.computed }
  where
    go : (l : List BothSides) → all passes l ≡ true → all passes (l ++ r) ≡ true
    go [] e = q.computed
    go (d ∷ l) e = both (passes d) (all passes (l ++ r)) (and_first (passes d) (all passes l) e) (go l (and_second (passes d) (all passes l) e))

all_pass_lem : Passing clauses_of_two
all_pass_lem =
    join each_clause.rows_above
    (join each_clause.slots_above
    (join each_clause.absent
    (join each_clause.beside
    (join each_clause.level
    (join each_clause.accesses
    (join each_clause.read
    (join each_clause.found
    (join each_clause.size
    (join each_clause.view
    (join each_clause.filled
    (join each_clause.written each_clause.value)))))))))))

of-fresh : (bad good : ℕ) → shaped (fresh bad) ≡ false → 1 ≤ good → good ≤ 32 → Tested (record { broken = fresh bad; neighbour = fresh good })
of-fresh bad good b lo hi = record { broken = b; neighbour = record_shaped (fresh good) (meets_fresh good lo hi).shape; held = held_fresh good }

with_n : (es : List BothSides) → ((e : BothSides) → Memᴰ e es → Tested e) → (e : BothSides) → Memᴰ e (n_is_in_range ++ es) → Tested e
with_n es rest e (Memᴰ.head q) = subst Tested (sym q) (of-fresh 0 1 outside.0 (lit≤ tt) (lit≤ tt))
with_n es rest e (Memᴰ.tail (Memᴰ.head q)) = subst Tested (sym q) (of-fresh 33 32 outside.1 (lit≤ tt) (lit≤ tt))
with_n es rest e (Memᴰ.tail (Memᴰ.tail h)) = rest e h

pub both_sides : (e : BothSides) → Memᴰ e every_clause → Tested e
both_sides = with_n clauses_of_two (λ e h. pair-tested e (all-mem passes clauses_of_two all_pass_lem.computed e h))

pub every_clause_tested : EveryClauseTested
every_clause_tested =
    record {
      broken = λ e h. broken_is_1 e.broken (both_sides e h).broken;
      neighbour = λ e h.
          let t = both_sides e h in
          shaped_not_1 e.neighbour.n e.neighbour
          (record { size = refl; held = t.held; shape = shaped_record e.neighbour t.neighbour });
    }
