-- A fresh machine is well shaped, and what a call does keeps a machine well shaped.
use mathlib.Core.Path.{◌≡◌, refl, sym, ap, subst, ◌∙◌}
use mathlib.Core.Logic.{◌⊎◌, inl, inr, ◌≢◌}
use mathlib.Core.Bool.{Bool, true, false, ◌&&◌, cond, true≢false}
use Prim.Native.Nat.{ℕ, zero, suc, ◌+◌, ◌-◌, ◌*◌, ◌^◌, ◌≤◌, ◌<◌}
use native.Mathlib.Omega.{arith}
use lib.Dec.{leb, lit<}
use lib.ListN.{get_or, length-set, length-replicate}
use borrow.Author.Tests.{lt-leb, le-leb}
use Rattle.sets.specs.Members.{has, size}
use Rattle.sets.specs.Sets.{plus}
use Rattle.sets.proofs.Laws.{has_zero, has-plus-same, has-plus_other, has-plus_cases, plus-below}
use Rattle.rules.specs.declared.Stage.{Stage}
use Rattle.rules.specs.declared.Stage.TheVariants.{Absent, Running, Finished, Crashed}
use Rattle.rules.specs.declared.Process.{Process}
use Rattle.rules.specs.declared.Machine.{Machine}
use Rattle.rules.specs.declared.Answer.TheVariants.{NotShaped, NoProcess}
use Rattle.rules.specs.declared.Called.{Called}
use Rattle.rules.specs.Stands.{nobody, process_of, stage_of, value_of, row_of, cell_of, entered}
use Rattle.rules.specs.State.{finished, made_of, found_of, wrote, with_process}
use Rattle.rules.specs.State.{with_stage, with_register}
use Rattle.rules.specs.Shape.{Held, Going, Ended, ShapedStage, ShapedProcess, ShapedRegister, Shaped, shaped}
use Rattle.rules.specs.Calls.{fresh, done, refused, reading, write, accepted, enter_of, step_of, crash_of, steps_of, finish_from, finish_at}
use Rattle.rules.specs.Calls.{finish_of}
use Rattle.rules.specs.Statements.{Valid, Meets, EveryStateMeets}
use Rattle.rules.proofs.Laws.Small.{not_both, equal_or_not, at_most_or_above, stored-all, blank}
use Rattle.rules.proofs.Laws.Stores.{process-same, process_other, row_same, row_other, cell_same, cell_other}
use Rattle.rules.proofs.Laws.Shape.{shaped_record, absent_wrote}
use Rattle.rules.proofs.Laws.Wrote.{lowest_row, wrote-lowest, wrote_alike}
use Rattle.rules.proofs.Laws.Did.{DidEnter, DidCrash, DidStep, did_write, did_read, did_finish, did_fall}
use Rattle.rules.proofs.Laws.Did.{some, running, what_calls_did}
use Rattle.rules.proofs.Laws.Refused.{refused_hands_back}

-- A fresh machine.
pub held_fresh : (n : ℕ) → Held (fresh n)
held_fresh n =
    record {
      rows = length-replicate {A = ℕ} 32 0;
      cells = length-replicate {A = ℕ} 1024 0;
      slots = length-replicate 32 nobody;
      row = λ x. subst (λ r. r < 2 ^ 32) (sym (blank 32 (x - 1) 0)) (lit< tt);
      found = λ i. subst (λ P. found_of P.stage < 2 ^ 32) (sym (blank 32 (i - 1) nobody)) (lit< tt);
    }

nobody-shaped : (n : ℕ) (row : ℕ → ℕ) (i : ℕ) → ShapedProcess n row i nobody
nobody-shaped n row i = record { above = λ _. refl; absent = λ _. refl; stage = tt }

shaped_fresh : (n : ℕ) → 1 ≤ n → n ≤ 32 → Shaped (fresh n)
shaped_fresh n lo hi =
    record {
      some = lo;
      most = hi;
      process = λ i _ _. subst (ShapedProcess n (row_of (fresh n)) i) (sym (blank 32 (i - 1) nobody)) (nobody-shaped n (row_of (fresh n)) i);
      register = λ x i _ _ _ _.
          record {
            row_above = λ _. empty x i;
            slot_above = λ _. empty x i;
            beside = λ _. blank 1024 (32 * (x - 1) + (i - 1)) 0;
            exactly = λ _ _. empty x i ∙ sym (ap (λ P. wrote n P.stage x) (blank 32 (i - 1) nobody) ∙ absent_wrote n Absent x refl);
            value = λ h. not_both (has (row_of (fresh n) x) i) h (empty x i);
          };
    }
  where
    empty : (x i : ℕ) → has (row_of (fresh n) x) i ≡ false
    empty x i = ap (λ r. has r i) (blank 32 (x - 1) 0) ∙ has_zero i

pub meets_fresh : (n : ℕ) → 1 ≤ n → n ≤ 32 → Meets n (fresh n)
meets_fresh n lo hi = record { size = refl; held = held_fresh n; shape = shaped_fresh n lo hi }

-- What the types say is kept by every store.
pub held_process : (m : Machine) → Held m → (p : ℕ) (P : Process) → found_of P.stage < 2 ^ 32 → Held (with_process m p P)
held_process m h p P b =
    record {
      rows = h.rows;
      cells = h.cells;
      slots = length-set m.processes (p - 1) P ∙ h.slots;
      row = h.row;
      found = λ i. stored-all (λ R. found_of R.stage < 2 ^ 32) m.processes (p - 1) P nobody b (λ j. found_at j) (i - 1);
    }
  where
    found_at : (j : ℕ) → found_of (get_or m.processes j nobody).stage < 2 ^ 32
    found_at j = subst (λ k. found_of (get_or m.processes k nobody).stage < 2 ^ 32) {x = suc j - 1} {y = j} (omega arith) (h.found (suc j))

pub held_register : (m : Machine) → Held m → (x p v : ℕ) → Held (with_register m x p v)
held_register m h x p v =
    record {
      rows = length-set m.filled (x - 1) (plus (row_of m x) p) ∙ h.rows;
      cells = length-set m.values (32 * (x - 1) + (p - 1)) v ∙ h.cells;
      slots = h.slots;
      row = λ y. stored-all (λ r. r < 2 ^ 32) m.filled (x - 1) (plus (row_of m x) p) 0 (plus-below (row_of m x) p (h.row x)) row_at (y - 1);
      found = h.found;
    }
  where
    row_at : (j : ℕ) → get_or m.filled j 0 < 2 ^ 32
    row_at j = subst (λ k. get_or m.filled k 0 < 2 ^ 32) {x = suc j - 1} {y = j} (omega arith) (h.row (suc j))

pub reading-below : (row j f : ℕ) → f < 2 ^ 32 → reading row j f < 2 ^ 32
unfolding reading
reading-below row j f b = go (has row j)
  where
    go : (t : Bool) → cond t (plus f j) f < 2 ^ 32
    go true = plus-below f j b
    go false = b

-- What holds of the new process and of every other holds of all.
pub each : (m : Machine) → Held m → (p : ℕ) → 1 ≤ p → p ≤ 32 → (P : Process) (Q : ℕ → Process → Type 0) → Q p P
    → ((i : ℕ) → 1 ≤ i → i ≢ p → Q i (process_of m i)) → (i : ℕ) → 1 ≤ i → Q i (process_of (with_process m p P) i)
each m h p lo hi P Q new old i li = go (equal_or_not i p)
  where
    go : (i ≡ p) ⊎ (i ≢ p) → Q i (process_of (with_process m p P) i)
    go (inl e) = subst (λ k. Q k (process_of (with_process m p P) k)) (sym e) (subst (Q p) (sym (process-same m h p lo hi P)) new)
    go (inr ne) = subst (Q i) (sym (process_other m p i lo li ne P)) (old i li ne)

-- A process is stored that has written the rows that were written before, with the value that stands there.
process_keeps : (m : Machine) → Held m → Shaped m → (p : ℕ) → 1 ≤ p → p ≤ m.n → (P : Process) → ShapedProcess m.n (row_of m) p P
    → ((x : ℕ) → 1 ≤ x → x ≤ m.n → wrote m.n P.stage x ≡ wrote m.n (stage_of m p) x)
    → ((x : ℕ) → 1 ≤ x → x ≤ 32 → has (row_of m x) p ≡ true → value_of m p ≡ P.value) → Shaped (with_process m p P)
process_keeps m h s p lo hi P good rows value =
    record {
      some = s.some;
      most = s.most;
      process =
          λ i li hi. each m h p lo p32 P (λ i R. i ≤ 32 → ShapedProcess m.n (row_of m) i R) (λ _. good) (λ i li _ hi. s.process i li hi) i li hi;
      register = λ x i lx hx li hi.
          record {
            row_above = (s.register x i lx hx li hi).row_above;
            slot_above = (s.register x i lx hx li hi).slot_above;
            beside = (s.register x i lx hx li hi).beside;
            exactly = λ hn hm.
                each m h p lo p32 P (λ i R. i ≤ m.n → has (row_of m x) i ≡ wrote m.n R.stage x)
                (λ hp. (s.register x p lx hx lo p32).exactly hn hp ∙ sym (rows x lx hn))
                (λ i li _ hm. (s.register x i lx hx li (low32 i hm)).exactly hn hm) i li hm;
            value = λ t.
                each m h p lo p32 P (λ i R. i ≤ 32 → has (row_of m x) i ≡ true → cell_of m x i ≡ R.value)
                (λ _ t. (s.register x p lx hx lo p32).value t ∙ value x lx hx t)
                (λ i li _ hi t. (s.register x i lx hx li hi).value t) i li hi t;
          };
    }
  where
    low32 : (i : ℕ) → i ≤ m.n → i ≤ 32
    low32 i le = omega (arith, s.most)

    p32 : p ≤ 32
    p32 = low32 p hi

-- the same where the process had entered, and keeps its value and its lowest row
stage_keeps : (m : Machine) → Held m → Shaped m → (p : ℕ) → 1 ≤ p → p ≤ m.n → (s t : Stage) → stage_of m p ≡ s → entered s ≡ true → entered t ≡ true
    → ShapedStage m.n (row_of m) t → lowest_row m.n t ≡ lowest_row m.n s → Shaped (with_stage m p t)
stage_keeps m h sh p lo hi s t e es et good low =
    process_keeps m h sh p lo hi (record { stage = t; value = value_of m p })
    (record { above = λ gt. absurd (above gt); absent = λ a. not_both (entered t) et a; stage = good })
    (λ x _ _. wrote_alike m.n t s x et es low ∙ ap (λ r. wrote m.n r x) (sym e))
    (λ _ _ _ _. refl)
  where
    above : m.n < p → ⊥
    above gt = omega arith

-- what stands in more rows still stands
stands_on : (n : ℕ) (row more : ℕ → ℕ) → ((x i : ℕ) → 1 ≤ x → has (row x) i ≡ true → has (more x) i ≡ true) → (s : Stage) → ShapedStage n row s
    → ShapedStage n more s
stands_on n row more grows Absent h = tt
stands_on n row more grows (Running x k f) h =
    record { low = h.low; high = h.high; accesses = h.accesses; read = h.read; stands = λ i t. grows x i h.low (h.stands i t) }
stands_on n row more grows (Finished x w) h =
    record { low = h.low; high = h.high; count = h.count; stands = λ i t. grows x i h.low (h.stands i t) }
stands_on n row more grows (Crashed x k f) h =
    record { low = h.low; high = h.high; accesses = h.accesses; read = h.read; stands = λ i t. grows x i h.low (h.stands i t) }

-- Rule 4, the write.
module _ (m : Machine) (h : Held m) (s : Shaped m) (p : ℕ) (lo : 1 ≤ p) (hi : p ≤ m.n) (x f : ℕ) (was : stage_of m p ≡ Running x 0 f) where
  low32 : (i : ℕ) → i ≤ m.n → i ≤ 32
  low32 i le = omega (arith, s.most)

  going : Going m.n (row_of m) x 0 f
  going = subst (ShapedStage m.n (row_of m)) was (s.process p lo (low32 p hi)).stage

  abbrev filled : Machine
  filled = with_register m x p (value_of m p)

  pub here : has (row_of filled x) p ≡ true
  here = ap (λ r. has r p) (row_same m h x going.low (low32 x going.high) p (value_of m p)) ∙ has-plus-same (row_of m x) p lo (low32 p hi)

  pub elsewhere : (y i : ℕ) → 1 ≤ y → (y ≢ x) ⊎ (i ≢ p) → has (row_of filled y) i ≡ has (row_of m y) i
  elsewhere y i ly (inl ne) = ap (λ r. has r i) (row_other m x y going.low ly ne p (value_of m p))
  elsewhere y i ly (inr ne) = other (equal_or_not y x)
    where
      other : (y ≡ x) ⊎ (y ≢ x) → has (row_of filled y) i ≡ has (row_of m y) i
      other (inr no_row) = ap (λ r. has r i) (row_other m x y going.low ly no_row p (value_of m p))
      other (inl e) =
          subst (λ z. has (row_of filled z) i ≡ has (row_of m z) i) (sym e)
          (ap (λ r. has r i) (row_same m h x going.low (low32 x going.high) p (value_of m p)) ∙ has-plus_other (row_of m x) p i (λ q. ne (sym q)))

  where_it_is : (y i : ℕ) → ((y ≡ x) × (i ≡ p)) ⊎ ((y ≢ x) ⊎ (i ≢ p))
  where_it_is y i = go (equal_or_not y x) (equal_or_not i p)
    where
      go : (y ≡ x) ⊎ (y ≢ x) → (i ≡ p) ⊎ (i ≢ p) → ((y ≡ x) × (i ≡ p)) ⊎ ((y ≢ x) ⊎ (i ≢ p))
      go (inl a) (inl b) = inl (a, b)
      go (inl a) (inr b) = inr (inr b)
      go (inr a) b = inr (inl a)

  grows : (y i : ℕ) → 1 ≤ y → has (row_of m y) i ≡ true → has (row_of filled y) i ≡ true
  grows y i ly t = go (where_it_is y i)
    where
      go : ((y ≡ x) × (i ≡ p)) ⊎ ((y ≢ x) ⊎ (i ≢ p)) → has (row_of filled y) i ≡ true
      go (inl e) = subst (λ z. has (row_of filled z) i ≡ true) (sym e.0) (subst (λ j. has (row_of filled x) j ≡ true) (sym e.1) here)
      go (inr ne) = elsewhere y i ly ne ∙ t

  abbrev written : Process
  written = record { stage = Running x 1 f; value = value_of m p }

  written-shaped : ShapedProcess m.n (row_of filled) p written
  written-shaped =
      record {
        above = λ gt. absurd (above gt);
        absent = λ a. absurd (true≢false a);
        stage =
            record {
              low = going.low;
              high = going.high;
              accesses = s.some;
              read = λ i t. less i (going.read i t);
              stands = λ i t. absurd (nothing i (going.read i t));
            };
      }
    where
      above : m.n < p → ⊥
      above gt = omega arith

      less : (i : ℕ) → i < 0 → i < 1
      less i b = omega arith

      nothing : (i : ℕ) → i < 0 → ⊥
      nothing i b = omega arith

  -- another row than its own is as written as before
  alike : (y : ℕ) → y ≢ x → wrote m.n (Running x 1 f) y ≡ wrote m.n (stage_of m p) y
  alike y ne =
      wrote-lowest m.n (Running x 1 f) y refl ∙ go (at_most_or_above x y) ∙ sym (wrote-lowest m.n (Running x 0 f) y refl)
      ∙ ap (λ t. wrote m.n t y) (sym was)
    where
      go : (x ≤ y) ⊎ (y < x) → leb (x + (1 - 1)) y ≡ leb (x + (1 - 0)) y
      go (inl le) =
          let a : x + (1 - 1) ≤ y = omega arith in
          let b : x + (1 - 0) ≤ y = omega arith in
          le-leb (x + (1 - 1)) y a ∙ sym (le-leb (x + (1 - 0)) y b)
      go (inr gt) =
          let a : y < x + (1 - 1) = omega arith in
          let b : y < x + (1 - 0) = omega arith in
          lt-leb (x + (1 - 1)) y a ∙ sym (lt-leb (x + (1 - 0)) y b)

  held : Held filled
  held = held_register m h x p (value_of m p)

  -- what follows the stored process and what does not
  follows : (y i : ℕ) → 1 ≤ i → i ≤ m.n → y ≤ m.n → 1 ≤ y → (y ≢ x) ⊎ (i ≢ p)
      → has (row_of m y) i ≡ wrote m.n (stage_of (with_process filled p written) i) y
  follows y i li him hy ly ne =
      each filled held p lo (low32 p hi) written (λ i R. i ≤ m.n → (y ≢ x) ⊎ (i ≢ p) → has (row_of m y) i ≡ wrote m.n R.stage y)
      (λ _ d. own d) (λ i li _ him _. (s.register y i ly (low32 y hy) li (low32 i him)).exactly hy him) i li him ne
    where
      own : (y ≢ x) ⊎ (p ≢ p) → has (row_of m y) p ≡ wrote m.n (Running x 1 f) y
      own (inl d) = (s.register y p ly (low32 y hy) lo (low32 p hi)).exactly hy hi ∙ sym (alike y d)
      own (inr d) = absurd (d refl)

  same_value : (i : ℕ) → 1 ≤ i → value_of (with_process filled p written) i ≡ value_of m i
  same_value i li = each filled held p lo (low32 p hi) written (λ i R. R.value ≡ value_of m i) refl (λ i _ _. refl) i li

  register-here : ShapedRegister (with_process filled p written) x p
  register-here =
      record {
        row_above = λ gt. absurd (above gt);
        slot_above = λ gt. absurd (over gt);
        beside = λ none. not_both (has (row_of filled x) p) here none;
        exactly = λ _ _. here ∙ sym (ap (λ R. wrote m.n R.stage x) (process-same filled held p lo (low32 p hi) written) ∙ own);
        value = λ _. cell_same m h x going.low (low32 x going.high) p lo (low32 p hi) (value_of m p) ∙ sym (same_value p lo);
      }
    where
      above : m.n < x → ⊥
      above gt = omega (arith, going.high)

      over : m.n < p → ⊥
      over gt = omega arith

      own : wrote m.n (Running x 1 f) x ≡ true
      own = let le : x + (1 - 1) ≤ x = omega arith in wrote-lowest m.n (Running x 1 f) x refl ∙ le-leb (x + (1 - 1)) x le

  register_else : (y i : ℕ) → 1 ≤ y → y ≤ 32 → 1 ≤ i → i ≤ 32 → (y ≢ x) ⊎ (i ≢ p) → ShapedRegister (with_process filled p written) y i
  register_else y i ly hy li h32 ne =
      record {
        row_above = λ gt. elsewhere y i ly ne ∙ r.row_above gt;
        slot_above = λ gt. elsewhere y i ly ne ∙ r.slot_above gt;
        beside = λ none. cell ∙ r.beside (sym (elsewhere y i ly ne) ∙ none);
        exactly = λ hn him. elsewhere y i ly ne ∙ follows y i li him hn ly ne;
        value = λ t. cell ∙ r.value (sym (elsewhere y i ly ne) ∙ t) ∙ sym (same_value i li);
      }
    where
      r : ShapedRegister m y i
      r = s.register y i ly hy li h32

      cell : cell_of filled y i ≡ cell_of m y i
      cell = cell_other m x y going.low ly p i lo (low32 p hi) li h32 ne (value_of m p)

  write_keeps : Shaped (write m p x f)
  write_keeps =
      record {
        some = s.some;
        most = s.most;
        process = λ i li h32.
            each filled held p lo (low32 p hi) written (λ i R. i ≤ 32 → ShapedProcess m.n (row_of filled) i R) (λ _. written-shaped)
            (λ i li _ h32. grown i (s.process i li h32)) i li h32;
        register = λ y i ly hy li h32. at y i ly hy li h32 (where_it_is y i);
      }
    where
      grown : (i : ℕ) → ShapedProcess m.n (row_of m) i (process_of m i) → ShapedProcess m.n (row_of filled) i (process_of m i)
      grown i P =
          record { above = P.above; absent = P.absent; stage = stands_on m.n (row_of m) (row_of filled) grows (process_of m i).stage P.stage }

      at : (y i : ℕ) → 1 ≤ y → y ≤ 32 → 1 ≤ i → i ≤ 32 → ((y ≡ x) × (i ≡ p)) ⊎ ((y ≢ x) ⊎ (i ≢ p)) → ShapedRegister (with_process filled p written) y i
      at y i ly hy li h32 (inl e) =
          subst (λ z. ShapedRegister (with_process filled p written) z i) (sym e.0)
          (subst (λ j. ShapedRegister (with_process filled p written) x j) (sym e.1) register-here)
      at y i ly hy li h32 (inr ne) = register_else y i ly hy li h32 ne

-- Each call.
more_found : (m : Machine) → Held m → (p x k f j : ℕ) → stage_of m p ≡ Running x k f → reading (row_of m x) j f < 2 ^ 32
more_found m h p x k f j was = reading-below (row_of m x) j f (subst (λ s. found_of s < 2 ^ 32) was (h.found p))

-- a read finds only what stands, and only the register that it reads
pub reading-has : (row j f i : ℕ) → has (reading row j f) i ≡ true → (has f i ≡ true) ⊎ ((i ≡ j) × (has row i ≡ true))
unfolding reading
reading-has row j f i = go (has row j) refl
  where
    added : has row j ≡ true → (j ≡ i) ⊎ (has f i ≡ true) → (has f i ≡ true) ⊎ ((i ≡ j) × (has row i ≡ true))
    added e (inl q) = inr (sym q, subst (λ k. has row k ≡ true) q e)
    added e (inr t) = inl t

    go : (b : Bool) → has row j ≡ b → has (cond b (plus f j) f) i ≡ true → (has f i ≡ true) ⊎ ((i ≡ j) × (has row i ≡ true))
    go true e t = added e (has-plus_cases f j i t)
    go false e t = inl t

read_going : (n : ℕ) (row : ℕ → ℕ) (x k f : ℕ) → Going n row x k f → k < n → Going n row x (k + 1) (reading (row x) k f)
read_going n row x k f g hi =
    record {
      low = g.low;
      high = g.high;
      accesses = omega arith;
      read = λ i t. read i (reading-has (row x) k f i t);
      stands = λ i t. stands i (reading-has (row x) k f i t);
    }
  where
    later : (i : ℕ) → i < k → i < k + 1
    later i b = omega arith

    last : (i : ℕ) → i ≡ k → i < k + 1
    last i e = omega arith

    read : (i : ℕ) → (has f i ≡ true) ⊎ ((i ≡ k) × (has (row x) i ≡ true)) → i < k + 1
    read i (inl t) = later i (g.read i t)
    read i (inr t) = last i t.0

    stands : (i : ℕ) → (has f i ≡ true) ⊎ ((i ≡ k) × (has (row x) i ≡ true)) → has (row x) i ≡ true
    stands i (inl t) = g.stands i t
    stands i (inr t) = t.1

read-ended : (n : ℕ) (row : ℕ → ℕ) (x k f : ℕ) → Going n row x k f → size (reading (row x) k f) ≡ x → Ended n row x (reading (row x) k f)
read-ended n row x k f g e = record { low = g.low; high = g.high; count = e; stands = λ i t. stands i (reading-has (row x) k f i t) }
  where
    stands : (i : ℕ) → (has f i ≡ true) ⊎ ((i ≡ k) × (has (row x) i ≡ true)) → has (row x) i ≡ true
    stands i (inl t) = g.stands i t
    stands i (inr t) = t.1

-- one record stored, as `stage_keeps` allows
meets_stage : (m : Machine) → Held m → (p : ℕ) → Valid m p → (s t : Stage) → stage_of m p ≡ s → entered s ≡ true → entered t ≡ true
    → ShapedStage m.n (row_of m) t → lowest_row m.n t ≡ lowest_row m.n s → found_of t < 2 ^ 32 → (c : Called) → c ≡ done (with_stage m p t)
    → Meets m.n c.machine
meets_stage m h p v s t was es et good low b c left =
    subst (λ c. Meets m.n c.machine) (sym left)
    (record {
      size = refl;
      held = held_process m h p (record { stage = t; value = value_of m p }) b;
      shape = stage_keeps m h (shaped_record m v.shape) p v.low v.high s t was es et good low;
    })

keeps_step : (m : Machine) → Held m → (p : ℕ) → Valid m p → (c : Called) → DidStep m p c → Meets m.n c.machine
keeps_step m h p v c (did_write x f was left) =
    subst (λ c. Meets m.n c.machine) (sym left)
    (record {
      size = refl;
      held =
          held_process (with_register m x p (value_of m p)) (held_register m h x p (value_of m p)) p
          (record { stage = Running x 1 f; value = value_of m p })
          (subst (λ s. found_of s < 2 ^ 32) was (h.found p));
      shape = write_keeps m h (shaped_record m v.shape) p v.low v.high x f was;
    })
keeps_step m h p v c (did_read x k f was lo hi left) =
    let low : x + (1 - (k + 1)) ≡ x + (1 - k) = omega arith in
    meets_stage m h p v (Running x k f) (Running x (k + 1) (reading (row_of m x) k f)) was refl refl
    (read_going m.n (row_of m) x k f (running m p v x k f was) hi) low (more_found m h p x k f k was) c left
keeps_step m h p v c (did_finish x f was e left) =
    let one : 1 ≤ m.n = some m p v in
    let low : x + (1 - (m.n + 1)) ≡ x + (1 - m.n) = omega arith in
    meets_stage m h p v (Running x m.n f) (Finished x (reading (row_of m x) m.n f)) was refl refl
    (read-ended m.n (row_of m) x m.n f (running m p v x m.n f was) e) low (more_found m h p x m.n f m.n was) c left
keeps_step m h p v c (did_fall x f was e two left) =
    let one : 1 ≤ m.n = some m p v in
    let low : x - 1 + (1 - 0) ≡ x + (1 - m.n) = omega arith in
    meets_stage m h p v (Running x m.n f) (Running (x - 1) 0 0) was refl refl
    (start (running m p v x m.n f was).high) low (lit< tt) c left
  where
    start : x ≤ m.n → Going m.n (row_of m) (x - 1) 0 0
    start high =
        record {
          low = omega arith;
          high = omega arith;
          accesses = omega arith;
          read = λ i t. not_both (has 0 i) t (has_zero i);
          stands = λ i t. not_both (has 0 i) t (has_zero i);
        }

keeps_enter : (m : Machine) → Held m → (p v : ℕ) → Valid m p → (c : Called) → DidEnter m p v c → Meets m.n c.machine
keeps_enter m h p v ok c d =
    subst (λ c. Meets m.n c.machine) (sym d.left)
    (record {
      size = refl;
      held = held_process m h p new (lit< tt);
      shape = process_keeps m h s p ok.low ok.high new good
          (λ x _ hx. unwritten x hx ∙ sym (absent x))
          (λ x lx hx t. not_both (has (row_of m x) p) t (empty x lx hx (at_most_or_above x m.n)));
    })
  where
    s : Shaped m
    s = shaped_record m ok.shape

    new : Process
    new = record { stage = Running m.n 0 0; value = v }

    p32 : p ≤ 32
    p32 = omega (arith, ok.high, s.most)

    above : m.n < p → ⊥
    above gt = omega (arith, ok.high)

    good : ShapedProcess m.n (row_of m) p new
    good =
        record {
          above = λ gt. absurd (above gt);
          absent = λ a. absurd (true≢false a);
          stage = record {
            low = s.some;
            high = omega arith;
            accesses = omega arith;
            read = λ i t. not_both (has 0 i) t (has_zero i);
            stands = λ i t. not_both (has 0 i) t (has_zero i);
          };
        }

    unwritten : (x : ℕ) → x ≤ m.n → wrote m.n (Running m.n 0 0) x ≡ false
    unwritten x hx = let gt : x < m.n + (1 - 0) = omega arith in wrote-lowest m.n (Running m.n 0 0) x refl ∙ lt-leb (m.n + (1 - 0)) x gt

    absent : (x : ℕ) → wrote m.n (stage_of m p) x ≡ false
    absent x = ap (λ t. wrote m.n t x) d.was ∙ absent_wrote m.n Absent x refl

    empty : (x : ℕ) → 1 ≤ x → x ≤ 32 → (x ≤ m.n) ⊎ (m.n < x) → has (row_of m x) p ≡ false
    empty x lx hx (inl le) = (s.register x p lx hx ok.low p32).exactly le ok.high ∙ absent x
    empty x lx hx (inr gt) = (s.register x p lx hx ok.low p32).row_above gt

keeps_crash : (m : Machine) → Held m → (p : ℕ) → Valid m p → (c : Called) → DidCrash m p c → Meets m.n c.machine
keeps_crash m h p v c d =
    meets_stage m h p v (Running d.level d.made d.found) (Crashed d.level d.made d.found) d.was refl refl
    (running m p v d.level d.made d.found d.was) refl (subst (λ s. found_of s < 2 ^ 32) d.was (h.found p)) c d.left

-- A call keeps what it is given, refused or not.
kept : (n : ℕ) (m : Machine) → Meets n m → (c : Called) → (accepted c ≡ true → Meets m.n c.machine) → (accepted c ≡ false → c.machine ≡ m)
    → Meets n c.machine
kept n m M c yes-it no-it = go (accepted c) refl
  where
    go : (b : Bool) → accepted c ≡ b → Meets n c.machine
    go true e = subst (λ k. Meets k c.machine) M.size (yes-it e)
    go false e = subst (Meets n) (sym (no-it e)) M

keep_enter : (n : ℕ) (m : Machine) → Meets n m → (p v : ℕ) → Meets n (enter_of m p v).machine
keep_enter n m M p v =
    kept n m M (enter_of m p v)
    (λ a. keeps_enter m M.held p v (what_calls_did.enter m p v a).0 (enter_of m p v) (what_calls_did.enter m p v a).1)
    (refused_hands_back.enter m p v)

keep_step : (n : ℕ) (m : Machine) → Meets n m → (p : ℕ) → Meets n (step_of m p).machine
keep_step n m M p =
    kept n m M (step_of m p) (λ a. keeps_step m M.held p (what_calls_did.step m p a).0 (step_of m p) (what_calls_did.step m p a).1)
    (refused_hands_back.step m p)

keep_crash : (n : ℕ) (m : Machine) → Meets n m → (p : ℕ) → Meets n (crash_of m p).machine
keep_crash n m M p =
    kept n m M (crash_of m p) (λ a. keeps_crash m M.held p (what_calls_did.crash m p a).0 (crash_of m p) (what_calls_did.crash m p a).1)
    (refused_hands_back.crash m p)

pub keep_steps : (k n : ℕ) (m : Machine) → Meets n m → (p : ℕ) → Meets n (steps_of k m p).machine
unfolding steps_of
keep_steps zero n m M p = M
keep_steps (suc k) n m M p = go (accepted (step_of m p)) (keep_step n m M p) (keep_steps k n (step_of m p).machine (keep_step n m M p) p)
  where
    go : (b : Bool) → Meets n (step_of m p).machine → Meets n (steps_of k (step_of m p).machine p).machine
        → Meets n (elim b as (λ _. Called) [ true ↦ steps_of k (step_of m p).machine p | false ↦ step_of m p ]).machine
    go true here there = there
    go false here there = here

keep_from : (x n : ℕ) (m : Machine) → Meets n m → (p : ℕ) → Meets n (finish_from x m p).machine
unfolding finish_from
keep_from zero n m M p = M
keep_from (suc x) n m M p = go (accepted c) (finished (stage_of c.machine p)) here (keep_from x n c.machine here p)
  where
    c : Called
    c = steps_of (m.n + 1 - made_of m.n (stage_of m p)) m p

    here : Meets n c.machine
    here = keep_steps (m.n + 1 - made_of m.n (stage_of m p)) n m M p

    go : (a b : Bool) → Meets n c.machine → Meets n (finish_from x c.machine p).machine
        → Meets n (elim a as (λ _. Called) [
          | true ↦ elim b as (λ _. Called) [ true ↦ done c.machine | false ↦ finish_from x c.machine p ]
          | false ↦ c
        ]).machine
    go true true here there = here
    go true false here there = there
    go false b here there = here

keep_at : (s : Stage) (n : ℕ) (m : Machine) → Meets n m → (p : ℕ) → Meets n (finish_at s m p).machine
keep_at Absent n m M p = M
keep_at (Running x k f) n m M p = go (accepted (finish_from x m p)) (keep_from x n m M p)
  where
    go : (a : Bool) → Meets n (finish_from x m p).machine → Meets n (cond a (finish_from x m p) (refused (finish_from x m p).answer m)).machine
    go true there = there
    go false there = M
keep_at (Finished x w) n m M p = M
keep_at (Crashed x k f) n m M p = M

keep_finish : (n : ℕ) (m : Machine) → Meets n m → (p : ℕ) → Meets n (finish_of m p).machine
unfolding finish_of
keep_finish n m M p = go (shaped m) (leb 1 p && leb p m.n)
  where
    go : (s r : Bool) → Meets n (cond s (cond r (finish_at (stage_of m p) m p) (refused NoProcess m)) (refused NotShaped m)).machine
    go true true = keep_at (stage_of m p) n m M p
    go true false = M
    go false r = M

pub every_state_meets : EveryStateMeets
every_state_meets = record { starts = meets_fresh; enter = keep_enter; step = keep_step; crash = keep_crash; finish = keep_finish }
