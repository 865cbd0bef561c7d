-- Finishing alone at one level: what its steps there find, and that the recursion ends there or goes on one level below.
use mathlib.Core.Path.{◌≡◌, refl, sym, ap, subst, ◌∙◌}
use mathlib.Core.Logic.{◌⊎◌, inl, inr, ◌≢◌}
use mathlib.Core.Bool.{Bool, true, false, ◌&&◌, ◌||◌, cond}
use Prim.Native.Nat.{ℕ, zero, suc, ◌+◌, ◌-◌, ◌^◌, ◌≤◌, ◌<◌}
use native.Mathlib.Omega.{arith}
use lib.Dec.{leb, eqb, lit≤}
use lib.Seq.{set-set}
use borrow.Author.Tests.{leb-true, le-leb, ne_eqb}
use Rattle.sets.specs.Members.{known, has, size}
use Rattle.sets.specs.Sets.{plus, set_of}
use Rattle.sets.proofs.Laws.{same_truth, has-known, true_known, has-plus_cases, has-set_of, set_of-below}
use Rattle.sets.proofs.Laws.{members_equal}
use Rattle.rules.specs.declared.Stage.{Stage}
use Rattle.rules.specs.declared.Stage.TheVariants.{Running, Finished}
use Rattle.rules.specs.declared.Process.{Process}
use Rattle.rules.specs.declared.Machine.{Machine}
use Rattle.rules.specs.declared.Answer.TheVariants.{NoLevelBelow}
use Rattle.rules.specs.declared.Called.{Called}
use Rattle.rules.specs.Stands.{process_of, stage_of, value_of, row_of}
use Rattle.rules.specs.State.{finished, made_of, found_of, with_process, with_register}
use Rattle.rules.specs.Shape.{Held, Going}
use Rattle.rules.specs.Calls.{number_of, done, reading, step_of, if_accepted, steps_of, finish_from}
use Rattle.rules.specs.Coded.Level.{gathered}
use Rattle.rules.specs.Statements.{Meets, Valid}
use Rattle.rules.proofs.Laws.Small.{or_true, or_left, or_right, both, and_first, and_second, not_both, cond-false, equal_or_not}
use Rattle.rules.proofs.Laws.Small.{at_most_or_above}
use Rattle.rules.proofs.Laws.Stores.{process-same, row_same}
use Rattle.rules.proofs.Laws.Shape.{record_shaped}
use Rattle.rules.proofs.Laws.Did.{running, what_calls_do}
use Rattle.rules.proofs.Laws.Steps.{then-refused, steps_first, steps_one, next, next_done, next_on}
use Rattle.rules.proofs.Laws.Keeps.{every_state_meets, keep_steps, reading-has, reading-below, held_register}
use Rattle.rules.proofs.Laws.Reads.{reading_keeps, reading_finds}

-- What is read from register k on, over 1 + d registers.
unfoldable readings : ℕ → ℕ → ℕ → ℕ → ℕ
readings row k zero f = reading row k f
readings row k (suc d) f = readings row (k + 1) d (reading row k f)

readings-below : (row k d f : ℕ) → f < 2 ^ 32 → readings row k d f < 2 ^ 32
unfolding readings
readings-below row k zero f b = reading-below row k f b
readings-below row k (suc d) f b = readings-below row (k + 1) d (reading row k f) (reading-below row k f b)

readings_keep : (row k d f i : ℕ) → has f i ≡ true → has (readings row k d f) i ≡ true
unfolding readings
readings_keep row k zero f i t = reading_keeps row k f i t
readings_keep row k (suc d) f i t = readings_keep row (k + 1) d (reading row k f) i (reading_keeps row k f i t)

-- a member of the row that is read is found
readings-find : (row k d f i : ℕ) → k ≤ i → i ≤ k + d → has row i ≡ true → has (readings row k d f) i ≡ true
unfolding readings
readings-find row k zero f i lo hi t =
    let e : k ≡ i = omega arith in
    subst (λ j. has (reading row j f) i ≡ true) (sym e) (reading_finds row i f t)
readings-find row k (suc d) f i lo hi t = go (equal_or_not k i) (λ lo hi. readings-find row (k + 1) d (reading row k f) i lo hi t)
  where
    go : (k ≡ i) ⊎ (k ≢ i) → (k + 1 ≤ i → i ≤ k + 1 + d → has (readings row (k + 1) d (reading row k f)) i ≡ true)
        → has (readings row (k + 1) d (reading row k f)) i ≡ true
    go (inl e) further =
        readings_keep row (k + 1) d (reading row k f) i (subst (λ j. has (reading row j f) i ≡ true) (sym e) (reading_finds row i f t))
    go (inr ne) further =
        let lo' : k + 1 ≤ i = omega arith in
        let hi' : i ≤ k + 1 + d = omega arith in
        further lo' hi'

-- and nothing else is
readings-only : (row k d f i : ℕ) → has (readings row k d f) i ≡ true → (has f i ≡ true) ⊎ ((k ≤ i) × (has row i ≡ true))
unfolding readings
readings-only row k zero f i t = go (reading-has row k f i t)
  where
    go : (has f i ≡ true) ⊎ ((i ≡ k) × (has row i ≡ true)) → (has f i ≡ true) ⊎ ((k ≤ i) × (has row i ≡ true))
    go (inl u) = inl u
    go (inr u) = let le : k ≤ i = omega (arith, u.0) in inr (le, u.1)
readings-only row k (suc d) f i t = go (readings-only row (k + 1) d (reading row k f) i t)
  where
    now : (has f i ≡ true) ⊎ ((i ≡ k) × (has row i ≡ true)) → (has f i ≡ true) ⊎ ((k ≤ i) × (has row i ≡ true))
    now (inl u) = inl u
    now (inr u) = let le : k ≤ i = omega (arith, u.0) in inr (le, u.1)

    go : (has (reading row k f) i ≡ true) ⊎ ((k + 1 ≤ i) × (has row i ≡ true)) → (has f i ≡ true) ⊎ ((k ≤ i) × (has row i ≡ true))
    go (inl u) = now (reading-has row k f i u)
    go (inr u) = let le : k ≤ i = omega (arith, u.0) in inr (le, u.1)

-- The reads that are left, as one set: the row has no member above n.
readings-gathered : (n row k d f : ℕ) → 1 ≤ k → k + d ≡ n → f < 2 ^ 32 → ((i : ℕ) → has row i ≡ true → i ≤ n)
    → readings row k d f ≡ gathered row k f
unfolding gathered
readings-gathered n row k d f lo sum b inside =
    let nz : k ≢ 0 = omega arith in
    members_equal (readings row k d f) s (readings-below row k d f b) (set_of-below test 32)
    (λ i. same_truth (has (readings row k d f) i) (has s i) (there i) (back i))
    ∙ sym (cond-false (eqb k 0) row s (ne_eqb k 0 nz))
  where
    test : ℕ → Bool
    test i = has f i || (leb k i && has row i)

    s : ℕ
    s = set_of test 32

    passes : (i : ℕ) → (has f i ≡ true) ⊎ ((k ≤ i) × (has row i ≡ true)) → test i ≡ true
    passes i (inl u) = or_left (has f i) _ u
    passes i (inr u) = or_right (has f i) _ (both (leb k i) (has row i) (le-leb k i u.0) u.1)

    there : (i : ℕ) → has (readings row k d f) i ≡ true → has s i ≡ true
    there i t =
        let kn = has-known (readings row k d f) i t in
        has-set_of test 32 i
        ∙ both (known i && leb i 32) (test i) (both (known i) (leb i 32) (true_known i kn.0 kn.1) (le-leb i 32 kn.1))
        (passes i (readings-only row k d f i t))

    found : (i : ℕ) → (has f i ≡ true) ⊎ ((leb k i && has row i) ≡ true) → has (readings row k d f) i ≡ true
    found i (inl u) = readings_keep row k d f i u
    found i (inr u) =
        let t : has row i ≡ true = and_second (leb k i) (has row i) u in
        let low : k ≤ i = leb-true k i (and_first (leb k i) (has row i) u) in
        let high : i ≤ k + d = omega (arith, inside i t) in
        readings-find row k d f i low high t

    back : (i : ℕ) → has s i ≡ true → has (readings row k d f) i ≡ true
    back i t = found i (or_true (has f i) _ (and_second (known i && leb i 32) (test i) (sym (has-set_of test 32 i) ∙ t)))

-- A whole row is read: what stands in it is found.
readings-whole : (n row d f : ℕ) → 1 + d ≡ n → row < 2 ^ 32 → f < 2 ^ 32 → ((i : ℕ) → has row i ≡ true → i ≤ n) → ((i : ℕ) → has f i ≡ true → ⊥)
    → readings row 1 d f ≡ row
readings-whole n row d f sum rb b inside empty =
    members_equal (readings row 1 d f) row (readings-below row 1 d f b) rb
    (λ i. same_truth (has (readings row 1 d f) i) (has row i) (λ t. there i (readings-only row 1 d f i t)) (back i))
  where
    there : (i : ℕ) → (has f i ≡ true) ⊎ ((1 ≤ i) × (has row i ≡ true)) → has row i ≡ true
    there i (inl u) = absurd (empty i u)
    there i (inr u) = u.1

    back : (i : ℕ) → has row i ≡ true → has (readings row 1 d f) i ≡ true
    back i t = let hi : i ≤ 1 + d = omega (arith, inside i t) in readings-find row 1 d f i (has-known row i t).0 hi t

-- Two stores of one process leave the second.
pub stored_twice : (m : Machine) (p : ℕ) (P Q : Process) → with_process (with_process m p P) p Q ≡ with_process m p Q
stored_twice m p P Q = ap (λ l. record { n = m.n; filled = m.filled; values = m.values; processes = l }) (set-set m.processes (p - 1) P Q)

-- A machine that is well shaped, of which p is a process that runs.
pub record Runs (m : Machine) (p x k f : ℕ) : Type 0 where
  pub meets : Meets m.n m
  pub low : 1 ≤ p
  pub high : p ≤ m.n
  pub stage : stage_of m p ≡ Running x k f

valid : (m : Machine) (p x k f : ℕ) → Runs m p x k f → Valid m p
valid m p x k f r = record { shape = record_shaped m r.meets.shape; low = r.low; high = r.high }

pub going : (m : Machine) (p x k f : ℕ) → Runs m p x k f → Going m.n (row_of m) x k f
going m p x k f r = running m p (valid m p x k f r) x k f r.stage

pub p32 : (m : Machine) (p x k f : ℕ) → Runs m p x k f → p ≤ 32
p32 m p x k f r = omega (arith, r.high, r.meets.shape.most)

-- the next step is accepted and leaves p running
runs_on : (m : Machine) (p x k f y j g : ℕ) → Runs m p x k f → (m' : Machine) → step_of m p ≡ done m' → stage_of m' p ≡ Running y j g → Runs m' p y j g
runs_on m p x k f y j g r m' e s =
    let M : Meets m.n m' = subst (λ c. Meets m.n c.machine) e (every_state_meets.step m.n m r.meets p) in
    record { meets = subst (λ n. Meets n m') (sym M.size) M; low = r.low; high = subst (λ n. p ≤ n) (sym M.size) r.high; stage = s }

-- How the accesses at level x end that find the set w: `base` has the rows that p has written by then.
pub record LevelEnds (base : Machine) (v p x w : ℕ) (c : Called) : Type 0 where
  pub finish : size w ≡ x → c ≡ done (with_process base p (record { stage = Finished x w; value = v }))
  pub fall : size w ≢ x → 2 ≤ x → c ≡ done (with_process base p (record { stage = Running (x - 1) 0 0; value = v }))
  pub stick : size w ≢ x → x ≡ 1 → c.answer ≡ NoLevelBelow

last_read : (m : Machine) (p x f : ℕ) → Runs m p x m.n f → LevelEnds m (value_of m p) p x (reading (row_of m x) m.n f) (steps_of 1 m p)
last_read m p x f r =
    record {
      finish = λ e. steps_one m p ∙ what_calls_do.finishes m p v x f r.stage e;
      fall = λ ne two. steps_one m p ∙ what_calls_do.falls m p v x f r.stage ne two;
      stick =
          λ ne o. ap (λ c. c.answer)
          (steps_one m p ∙ what_calls_do.sticks m p v f (r.stage ∙ ap (λ y. Running y m.n f) o)
          (subst (λ y. size (reading (row_of m y) m.n f) ≢ y) o ne));
    }
  where
    v : Valid m p
    v = valid m p x m.n f r

-- a step that only stored p's record, over `base`
carry : (m base : Machine) → Held base → (p : ℕ) → 1 ≤ p → p ≤ 32 → (P : Process) → step_of m p ≡ done (with_process base p P) → (x w k : ℕ)
    → LevelEnds (with_process base p P) (value_of (with_process base p P) p) p x w (steps_of k (with_process base p P) p)
    → LevelEnds base P.value p x w (steps_of (suc k) m p)
carry m base h p lo hi P stepped x w k l =
    record {
      finish = λ e. steps_first k m m' p stepped ∙ l.finish e ∙ again (Finished x w);
      fall = λ ne two. steps_first k m m' p stepped ∙ l.fall ne two ∙ again (Running (x - 1) 0 0);
      stick = λ ne o. ap (λ c. c.answer) (steps_first k m m' p stepped) ∙ l.stick ne o;
    }
  where
    m' : Machine
    m' = with_process base p P

    again : (s : Stage)
        → done (with_process m' p (record { stage = s; value = value_of m' p })) ≡ done (with_process base p (record { stage = s; value = P.value }))
    again s =
        ap done (stored_twice base p P (record { stage = s; value = value_of m' p })
        ∙ ap (λ Q. with_process base p (record { stage = s; value = Q.value })) (process-same base h p lo hi P))

reads_end : (d : ℕ) (m : Machine) (p x k f : ℕ) → Runs m p x k f → 1 ≤ k → k + d ≡ m.n
    → LevelEnds m (value_of m p) p x (readings (row_of m x) k d f) (steps_of (suc d) m p)
unfolding readings
reads_end zero m p x k f r lo sum =
    let e : k ≡ m.n = omega arith in
    subst (λ j. LevelEnds m (value_of m p) p x (reading (row_of m x) j f) (steps_of 1 m p)) (sym e) (last_read m p x f (subst (λ j. Runs m p x j f) e r))
reads_end (suc d) m p x k f r lo sum =
    let sum' : k + 1 + d ≡ m.n = omega arith in
    let lo' : 1 ≤ k + 1 = omega arith in
    carry m m r.meets.held p r.low (p32 m p x k f r) P stepped x (readings (row_of m x) (k + 1) d f') (suc d)
    (reads_end d (with_process m p P) p x (k + 1) f' r' lo' sum')
  where
    f' : ℕ
    f' = reading (row_of m x) k f

    P : Process
    P = record { stage = Running x (k + 1) f'; value = value_of m p }

    hi : k < m.n
    hi = omega arith

    stepped : step_of m p ≡ done (with_process m p P)
    stepped = what_calls_do.reads m p (valid m p x k f r) x k f r.stage lo hi

    r' : Runs (with_process m p P) p x (k + 1) f'
    r' =
        runs_on m p x k f x (k + 1) f' r (with_process m p P) stepped
        (ap (λ Q. Q.stage) (process-same m r.meets.held p r.low (p32 m p x k f r) P))

-- the row of a running process has no member above n
row_inside : (m : Machine) (p x k f : ℕ) → Runs m p x k f → (i : ℕ) → has (row_of m x) i ≡ true → i ≤ m.n
row_inside m p x k f r i t = go (at_most_or_above i m.n)
  where
    kn : (1 ≤ i) × (i ≤ 32)
    kn = has-known (row_of m x) i t

    x32 : x ≤ 32
    x32 = omega (arith, (going m p x k f r).high, r.meets.shape.most)

    go : (i ≤ m.n) ⊎ (m.n < i) → i ≤ m.n
    go (inl le) = le
    go (inr gt) = not_both (has (row_of m x) i) t ((r.meets.shape.register x i (going m p x k f r).low x32 kn.0 kn.1).slot_above gt)

-- the rows that p has written when its accesses at level x end
abbrev pub base : Machine → ℕ → ℕ → ℕ → Machine
base m p x k = cond (eqb k 0) (with_register m x p (value_of m p)) m

-- and what it has found there
abbrev pub seen : Machine → ℕ → ℕ → ℕ → ℕ → ℕ
seen m p x k f = gathered (row_of (base m p x k) x) k f

write-ends : (m : Machine) (p x f : ℕ) → Runs m p x 0 f
    → LevelEnds (base m p x 0) (value_of m p) p x (seen m p x 0 f) (steps_of (m.n + 1 - 0) m p)
unfolding gathered
write-ends m p x f r =
    subst (λ k. LevelEnds filled (value_of m p) p x (row_of filled x) (steps_of k m p)) count
    (subst (λ w. LevelEnds filled (value_of m p) p x w (steps_of (suc (suc (m.n - 1))) m p)) whole
    (carry m filled held p r.low (p32 m p x 0 f r) P stepped x (readings (row_of filled x) 1 (m.n - 1) f) (suc (m.n - 1))
    (reads_end (m.n - 1) (with_process filled p P) p x 1 f r' (lit≤ tt) sum)))
  where
    filled : Machine
    filled = with_register m x p (value_of m p)

    held : Held filled
    held = held_register m r.meets.held x p (value_of m p)

    P : Process
    P = record { stage = Running x 1 f; value = value_of m p }

    g : Going m.n (row_of m) x 0 f
    g = going m p x 0 f r

    x32 : x ≤ 32
    x32 = omega (arith, g.high, r.meets.shape.most)

    stepped : step_of m p ≡ done (with_process filled p P)
    stepped = what_calls_do.writes m p (valid m p x 0 f r) x f r.stage

    r' : Runs (with_process filled p P) p x 1 f
    r' = runs_on m p x 0 f x 1 f r (with_process filled p P) stepped (ap (λ Q. Q.stage) (process-same filled held p r.low (p32 m p x 0 f r) P))

    count : suc (suc (m.n - 1)) ≡ m.n + 1 - 0
    count = omega (arith, r.low, r.high)

    sum : 1 + (m.n - 1) ≡ m.n
    sum = omega (arith, r.low, r.high)

    row : row_of filled x ≡ plus (row_of m x) p
    row = row_same m r.meets.held x g.low x32 p (value_of m p)

    inside : (i : ℕ) → (p ≡ i) ⊎ (has (row_of m x) i ≡ true) → i ≤ m.n
    inside i (inl e) = subst (λ j. j ≤ m.n) e r.high
    inside i (inr t) = row_inside m p x 0 f r i t

    nothing : (i : ℕ) → i < 0 → ⊥
    nothing i b = omega arith

    whole : readings (row_of filled x) 1 (m.n - 1) f ≡ row_of filled x
    whole =
        readings-whole m.n (row_of filled x) (m.n - 1) f sum (held.row x) (subst (λ s. found_of s < 2 ^ 32) r.stage (r.meets.held.found p))
        (λ i t. inside i (has-plus_cases (row_of m x) p i (sym (ap (λ w. has w i) row) ∙ t))) (λ i t. nothing i (g.read i t))

pub level_ends : (m : Machine) (p x k f : ℕ) → Runs m p x k f
    → LevelEnds (base m p x k) (value_of m p) p x (seen m p x k f) (steps_of (m.n + 1 - k) m p)
level_ends m p x k f r = go (equal_or_not k 0)
  where
    go : (k ≡ 0) ⊎ (k ≢ 0) → LevelEnds (base m p x k) (value_of m p) p x (seen m p x k f) (steps_of (m.n + 1 - k) m p)
    go (inl e) =
        subst (λ j. LevelEnds (base m p x j) (value_of m p) p x (seen m p x j f) (steps_of (m.n + 1 - j) m p)) (sym e)
        (write-ends m p x f (subst (λ j. Runs m p x j f) e r))
    go (inr nz) =
        let lo : 1 ≤ k = omega arith in
        let le : k ≤ m.n = (going m p x k f r).accesses in
        let sum : k + (m.n - k) ≡ m.n = omega arith in
        let count : suc (m.n - k) ≡ m.n + 1 - k = omega arith in
        let w : readings (row_of m x) k (m.n - k) f ≡ gathered (row_of m x) k f =
        readings-gathered m.n (row_of m x) k (m.n - k) f lo sum (subst (λ s. found_of s < 2 ^ 32) r.stage (r.meets.held.found p))
        (row_inside m p x k f r) in
        subst (λ b. LevelEnds b (value_of m p) p x (gathered (row_of b x) k f) (steps_of (m.n + 1 - k) m p))
        (sym (cond-false (eqb k 0) (with_register m x p (value_of m p)) m (ne_eqb k 0 nz)))
        (subst (λ j. LevelEnds m (value_of m p) p x (gathered (row_of m x) k f) (steps_of j m p)) count
        (subst (λ w. LevelEnds m (value_of m p) p x w (steps_of (suc (m.n - k)) m p)) w (reads_end (m.n - k) m p x k f r lo sum)))

pub base_held : (m : Machine) (p x k : ℕ) → Held m → Held (base m p x k)
base_held m p x k h = go (eqb k 0)
  where
    go : (b : Bool) → Held (cond b (with_register m x p (value_of m p)) m)
    go true = held_register m h x p (value_of m p)
    go false = h

from_next : (x : ℕ) (m : Machine) (p y k f : ℕ) → stage_of m p ≡ Running y k f
    → finish_from (suc x) m p ≡ if_accepted (steps_of (m.n + 1 - k) m p) (next x p)
unfolding finish_from
from_next x m p y k f e = ap (λ s. if_accepted (steps_of (m.n + 1 - made_of m.n s) m p) (next x p)) e

-- The count is the level: the process has finished, and so has the recursion.
abbrev pub ended : ℕ → Machine → ℕ → ℕ → ℕ → Process
ended x m p k f = record { stage = Finished (suc x) (seen m p (suc x) k f); value = value_of m p }

module _ (x : ℕ) (m : Machine) (p k f : ℕ) (r : Runs m p (suc x) k f) (e : size (seen m p (suc x) k f) ≡ suc x) where
  pub ended_steps : steps_of (m.n + 1 - k) m p ≡ done (with_process (base m p (suc x) k) p (ended x m p k f))
  ended_steps = (level_ends m p (suc x) k f r).finish e

  pub ended_there : finished (stage_of (with_process (base m p (suc x) k) p (ended x m p k f)) p) ≡ true
  ended_there =
      ap (λ Q. finished Q.stage)
      (process-same (base m p (suc x) k) (base_held m p (suc x) k r.meets.held) p r.low (p32 m p (suc x) k f r) (ended x m p k f))

  pub finishes_here : finish_from (suc x) m p ≡ done (with_process (base m p (suc x) k) p (ended x m p k f))
  finishes_here =
      from_next x m p (suc x) k f r.stage ∙ ap (λ c. if_accepted c (next x p)) ended_steps
      ∙ next_done x p (with_process (base m p (suc x) k) p (ended x m p k f)) ended_there

-- Another count at level 1: the last step is refused, and so is the recursion.
module _ (m : Machine) (p k f : ℕ) (r : Runs m p 1 k f) (ne : size (seen m p 1 k f) ≢ 1) where
  pub stuck_there : (steps_of (m.n + 1 - k) m p).answer ≡ NoLevelBelow
  stuck_there = (level_ends m p 1 k f r).stick ne refl

  pub sticks_here : finish_from 1 m p ≡ steps_of (m.n + 1 - k) m p
  sticks_here = from_next 0 m p 1 k f r.stage ∙ then-refused (steps_of (m.n + 1 - k) m p) (next 0 p) (ap (λ a. eqb (number_of a) 0) stuck_there)

-- Another count above level 1: the process goes to the level below, and the recursion with it.
abbrev pub fallen : ℕ → Machine → ℕ → Process
fallen x m p = record { stage = Running (suc x) 0 0; value = value_of m p }

abbrev pub left : ℕ → Machine → ℕ → ℕ → Machine
left x m p k = with_process (base m p (suc (suc x)) k) p (fallen x m p)

module _ (x : ℕ) (m : Machine) (p k f : ℕ) (r : Runs m p (suc (suc x)) k f) (ne : size (seen m p (suc (suc x)) k f) ≢ suc (suc x)) where
  pub fell : steps_of (m.n + 1 - k) m p ≡ done (left x m p k)
  fell =
      let two : 2 ≤ suc (suc x) = omega arith in
      let less : suc (suc x) - 1 ≡ suc x = omega arith in
      (level_ends m p (suc (suc x)) k f r).fall ne two
      ∙ ap (λ y. done (with_process (base m p (suc (suc x)) k) p (record { stage = Running y 0 0; value = value_of m p }))) less

  pub stored : process_of (left x m p k) p ≡ fallen x m p
  stored =
      process-same (base m p (suc (suc x)) k) (base_held m p (suc (suc x)) k r.meets.held) p r.low (p32 m p (suc (suc x)) k f r) (fallen x m p)

  pub left_runs : Runs (left x m p k) p (suc x) 0 0
  left_runs =
      let M : Meets m.n (left x m p k) = subst (λ c. Meets m.n c.machine) fell (keep_steps (m.n + 1 - k) m.n m r.meets p) in
      record {
        meets = subst (λ n. Meets n (left x m p k)) (sym M.size) M;
        low = r.low;
        high = subst (λ n. p ≤ n) (sym M.size) r.high;
        stage = ap (λ Q. Q.stage) stored;
      }

  pub goes-below : finish_from (suc (suc x)) m p ≡ finish_from (suc x) (left x m p k) p
  goes-below =
      from_next (suc x) m p (suc (suc x)) k f r.stage ∙ ap (λ c. if_accepted c (next (suc x) p)) fell
      ∙ next_on (suc x) p (left x m p k) (ap (λ Q. finished Q.stage) stored)
