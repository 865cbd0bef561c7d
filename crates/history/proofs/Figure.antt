-- The machine is Fig. 8.16: an accepted step is the first access of the process's program, and a finished process has returned its view.
use mathlib.Core.Path.{◌≡◌, refl, sym, ap, ap₂, subst, ◌∙◌}
use mathlib.Core.Logic.{◌⊎◌, inl, inr, ◌≢◌}
use mathlib.Core.Bool.{Bool, true, false, ◌&&◌, cond, false≢true, and-false}
use mathlib.Core.List.Memᴰ
use mathlib.Core.List.{List, [], ◌∷◌, ◌++◌, Memᴰ}
use Prim.Native.Nat.{ℕ, zero, suc, ◌+◌, ◌-◌, ◌*◌, ◌≤◌, ◌<◌}
use native.Mathlib.Omega.{arith}
use lib.Dec.{eqb}
use lib.ListN.{length, get_or, length-append}
use borrow.Author.Tests.{eq-eqb, ne_eqb, lt-leb}
use Rattle.sets.specs.Members.{has, tick, count, size}
use Rattle.sets.proofs.Laws.{has_zero, has-known}
use Rattle.rules.specs.declared.Stage.{Stage}
use Rattle.rules.specs.declared.Stage.TheVariants.{Absent, Running, Finished, Crashed}
use Rattle.rules.specs.declared.Machine.{Machine}
use Rattle.rules.specs.Stands.{process_of, stage_of, value_of, row_in, row_of, cell_of}
use Rattle.rules.specs.State.{finished, crashed, level_of, made_of, found_of, wrote}
use Rattle.rules.specs.Shape.{Held, Going, Ended, ShapedStage, Shaped}
use Rattle.rules.specs.Calls.{accepted, step_of, enter_of, crash_of, reading}
use Rattle.rules.specs.Statements.{Valid, OthersStay, RegistersStay, StepEffect, EnterEffect, CrashEffect, at_last}
use Rattle.rules.proofs.Laws.Small.{not_both, is_false, equal_or_not, cond-true, cond-false}
use Rattle.rules.proofs.Laws.Wrote.{wrote-lowest}
use Rattle.rules.proofs.Laws.Shape.{shaped_record}
use Rattle.rules.proofs.Laws.Did.{running, some, what_calls_did}
use Rattle.rules.proofs.Laws.Effects.{in_range_lem, effects_of_calls}
use Rattle.world.specs.Programs.{Register, empty, holds, writes, reads, returns, halted, accesses, registers_after, remains_after}
use Rattle.history.specs.Figure.{Address, REG, same_address, Pair, Code, collect, pairs, judge, rec_update_snapshot, update_snapshot}
use Rattle.history.specs.AsWorld.{register, readings, program_at, program_of}
use Rattle.history.specs.Views.{View}
use Rattle.history.specs.Theorems.{Returned, ViewIsReturned}
use Rattle.history.proofs.Found.{reading-here, reading_other, read_stands, size_stands}
use Rattle.history.proofs.Moves.{Stepped, writing, finding, ending, falling, stepped}

-- the registers of a machine by their address
abbrev pub REGS : Machine → Address → Register
REGS m a = register m a.row a.register

-- What an accepted step of process p does to m, in the figure's terms; m' is what it leaves.
pub record FirstAccess (m m' : Machine) (p : ℕ) : Type 0 where
  pub size : m'.n ≡ m.n
  -- the program of p begins with an access, which is made on the registers as they stand,
  pub one : accesses (program_of m p) ≡ true
  pub registers : (y j : ℕ) → 1 ≤ y → y ≤ 32 → 1 ≤ j → j ≤ 32
      → register m' y j ≡ registers_after same_address (REGS m) (program_of m p) (REG y j)
  -- and what remains of the program is left to p;
  pub rest : program_of m' p ≡ remains_after (REGS m) (program_of m p)
  -- the others are as they were, and so is what they have yet to do
  pub others : (q : ℕ) → 1 ≤ q → q ≢ p → process_of m' q ≡ process_of m q
  pub programs : (q : ℕ) → 1 ≤ q → q ≤ 32 → q ≢ p → program_of m' q ≡ program_of m q

-- An enter and a crash make no access.
pub record NoAccess (m m' : Machine) (p : ℕ) : Type 0 where
  pub size : m'.n ≡ m.n
  pub registers : (y j : ℕ) → register m' y j ≡ register m y j
  pub others : (q : ℕ) → 1 ≤ q → q ≢ p → process_of m' q ≡ process_of m q
  pub programs : (q : ℕ) → 1 ≤ q → q ≢ p → program_of m' q ≡ program_of m q

abbrev cell_in : List ℕ → ℕ → ℕ → ℕ
cell_in cells x i = get_or cells (32 * (x - 1) + (i - 1)) 0

-- What has been read is told by the set that was found, and by what its registers hold.
abbrev found : Machine → ℕ → ℕ → ℕ → Register
found m x f i = cond (has f i) (holds (cell_of m x i)) empty

readings_alike : (m m' : Machine) (x f g k : ℕ) → ((i : ℕ) → 1 ≤ i → i ≤ k → has g i ≡ has f i)
    → ((i : ℕ) → has f i ≡ true → cell_of m' x i ≡ cell_of m x i) → readings m' x g k ≡ readings m x f k
unfolding readings
readings_alike m m' x f g zero same cells = refl
readings_alike m m' x f g (suc k) same cells =
    ap₂ (λ (a : List Register) (r : Register). a ++ (r ∷ [])) (readings_alike m m' x f g k (λ i lo hi. same i lo (omega arith)) cells)
    (ap (λ b. cond b (holds (cell_of m' x (suc k))) empty) (same (suc k) (omega arith) (omega arith)) ∙ go (has f (suc k)) (cells (suc k)))
  where
    go : (b : Bool) → (b ≡ true → cell_of m' x (suc k) ≡ cell_of m x (suc k))
        → cond b (holds (cell_of m' x (suc k))) empty ≡ cond b (holds (cell_of m x (suc k))) empty
    go true e = ap holds (e refl)
    go false e = refl

-- with the next register, what stands there
readings_next : (m : Machine) (x k f : ℕ) → suc k ≤ 32 → has f (suc k) ≡ false
    → readings m x f k ++ (register m x (suc k) ∷ []) ≡ readings m x (reading (row_of m x) (suc k) f) (suc k)
unfolding readings
readings_next m x k f hi none =
    ap₂ (λ (a : List Register) (r : Register). a ++ (r ∷ []))
    (readings_alike m m x (reading (row_of m x) (suc k) f) f k (λ i _ le. sym (reading_other (row_of m x) (suc k) f i (omega arith))) (λ i _. refl))
    (ap (λ b. cond b (holds (cell_of m x (suc k))) empty) (sym (reading-here (row_of m x) (suc k) f (omega arith) hi none)))

-- The program of a stage depends on the number of processes and on what the found registers hold.
pub program_alike : (m m' : Machine) (q : ℕ) (s : Stage) (v : ℕ) → m'.n ≡ m.n
    → ((i : ℕ) → has (found_of s) i ≡ true → cell_of m' (level_of s) i ≡ cell_of m (level_of s) i) → program_at m' q s v ≡ program_at m q s v
program_alike m m' q Absent v e cells = refl
program_alike m m' q (Running x zero f) v e cells = ap (λ n. rec_update_snapshot n q x v) e
program_alike m m' q (Running x (suc k) f) v e cells =
    ap₂ (λ (n : ℕ) (reg : List Register). collect (n - k) x (suc k) reg (λ reg. judge x (pairs 1 reg) (rec_update_snapshot n q (x - 1) v))) e
    (readings_alike m m' x f f k (λ i _ _. refl) cells)
program_alike m m' q (Finished x w) v e cells =
    ap (λ n. returns (pairs 1 (readings m' x w n))) e
    ∙ ap (λ reg. returns (pairs 1 reg)) (readings_alike m m' x w w m.n (λ i _ _. refl) cells)
program_alike m m' q (Crashed x k f) v e cells = refl

-- Line 3.
pub rec_writes : (n i x v : ℕ) → 1 ≤ x
    → rec_update_snapshot n i x v ≡ writes (REG x i) v (collect n x 1 [] (λ reg. judge x (pairs 1 reg) (rec_update_snapshot n i (x - 1) v)))
unfolding rec_update_snapshot
rec_writes n i zero v lo = absurd (omega arith)
rec_writes n i (suc x) v lo =
    let e : x ≡ suc x - 1 = omega arith in
    ap (λ y. writes (REG (suc x) i) v (collect n (suc x) 1 [] (λ reg. judge (suc x) (pairs 1 reg) (rec_update_snapshot n i y v)))) e

-- Line 4: the read of register k + 1.
abbrev pub lines5to9 : ℕ → ℕ → ℕ → ℕ → List Register → Code
lines5to9 n i x v reg = judge x (pairs 1 reg) (rec_update_snapshot n i (x - 1) v)

collect_reads : (left rest x j : ℕ) (reg : List Register) (next : List Register → Code) → left ≡ suc rest
    → collect left x j reg next ≡ reads (REG x j) (λ r. collect rest x (suc j) (reg ++ (r ∷ [])) next)
unfolding collect
collect_reads left rest x j reg next e = ap (λ l. collect l x j reg next) e

abbrev pub after_read : Machine → ℕ → ℕ → ℕ → ℕ → ℕ → Register → Code
after_read m i x k f v r = collect (m.n - suc k) x (suc (suc k)) (readings m x f k ++ (r ∷ [])) (lines5to9 m.n i x v)

pub running_reads : (m : Machine) (i x k f v : ℕ) → suc k ≤ m.n → program_at m i (Running x (suc k) f) v ≡ reads (REG x (suc k)) (after_read m i x k f v)
running_reads m i x k f v le =
    let e : m.n - k ≡ suc (m.n - suc k) = omega arith in
    collect_reads (m.n - k) (m.n - suc k) x (suc k) (readings m x f k) (lines5to9 m.n i x v) e

-- and what remains after it
read_rest : (m : Machine) (i x k f v : ℕ) → suc k ≤ 32 → has f (suc k) ≡ false
    → collect (m.n - suc k) x (suc (suc k)) (readings m x (reading (row_of m x) (suc k) f) (suc k)) (lines5to9 m.n i x v)
    ≡ after_read m i x k f v (register m x (suc k))
read_rest m i x k f v hi none =
    ap (λ reg. collect (m.n - suc k) x (suc (suc k)) reg (lines5to9 m.n i x v)) (sym (readings_next m x k f hi none))

-- Lines 5 and 6: the view has as many pairs as registers were found.
abbrev filled : Register → Bool
filled empty = false
filled (holds v) = true

pairs_more : (j : ℕ) (reg : List Register) (r : Register) → length (pairs j (reg ++ (r ∷ []))) ≡ length (pairs j reg) + tick (filled r)
unfolding pairs
pairs_more j [] empty = refl
pairs_more j [] (holds v) = refl
pairs_more j (empty ∷ reg) r = pairs_more (suc j) reg r
pairs_more j (holds v ∷ reg) r = more _ _ _ (pairs_more (suc j) reg r)
  where
    more : (a b t : ℕ) → a ≡ b + t → suc a ≡ suc b + t
    more a b t e = omega arith

pairs-count : (m : Machine) (x f k : ℕ) → length (pairs 1 (readings m x f k)) ≡ count (has f) k
unfolding readings count pairs
pairs-count m x f zero = refl
pairs-count m x f (suc k) =
    more _ _ _ _ _ (pairs_more 1 (readings m x f k) (found m x f (suc k))) (pairs-count m x f k) (ticks (has f (suc k)))
  where
    more : (a b t u c : ℕ) → a ≡ b + t → b ≡ c → t ≡ u → a ≡ u + c
    more a b t u c p q r = omega arith

    ticks : (b : Bool) → tick (filled (cond b (holds (cell_of m x (suc k))) empty)) ≡ tick b
    ticks true = refl
    ticks false = refl

pub register_stays : (m m' : Machine) → RegistersStay m m' → (y j : ℕ) → register m' y j ≡ register m y j
register_stays m m' r y j =
    ap₂ (λ (rows cells : List ℕ). cond (has (row_in rows y) j) (holds (cell_in cells y j)) empty) r.rows r.cells

-- A step.
module _ (m m' : Machine) (h : Held m) (p : ℕ) (ok : Valid m p) (effect : StepEffect m m' p) where
  shape : Shaped m
  shape = shaped_record m ok.shape

  abbrev v : ℕ
  v = value_of m p

  -- what has been found stands, in a row of 1 to 32
  stands : (s : Stage) → ShapedStage m.n (row_of m) s → (i : ℕ) → has (found_of s) i ≡ true
      → (1 ≤ level_of s) × (level_of s ≤ m.n) × (has (row_of m (level_of s)) i ≡ true)
  stands Absent g i t = not_both (has 0 i) t (has_zero i)
  stands (Running x k f) g i t = (g.low, g.high, g.stands i t)
  stands (Finished x w) g i t = (g.low, g.high, g.stands i t)
  stands (Crashed x k f) g i t = (g.low, g.high, g.stands i t)

  stays : (made : ℕ) → made_of m.n (stage_of m p) ≡ made → 1 ≤ made → RegistersStay m m'
  stays made e lo = effect.later (λ z. none z)
    where
      none : made_of m.n (stage_of m p) ≡ 0 → ⊥
      none z = omega arith

  -- p writes a register that was empty
  unwritten : (x f : ℕ) → stage_of m p ≡ Running x 0 f → 1 ≤ x → x ≤ m.n → has (row_of m x) p ≡ false
  unwritten x f was lo hi =
      let x32 : x ≤ 32 = omega (arith, shape.most) in
      let gt : x < x + (1 - 0) = omega arith in
      (shape.register x p lo x32 ok.low (in_range_lem m p ok)).exactly hi ok.high ∙ ap (λ s. wrote m.n s x) was
      ∙ wrote-lowest m.n (Running x 0 f) x refl ∙ lt-leb (x + (1 - 0)) x gt

  -- so that what a filled register holds stays
  kept-cell : Stepped m m' p → (x i : ℕ) → 1 ≤ x → x ≤ m.n → has (row_of m x) i ≡ true → cell_of m' x i ≡ cell_of m x i
  kept-cell (writing y f was now) x i lo hi t = go (equal_or_not x y) (equal_or_not i p)
    where
      x32 : x ≤ 32
      x32 = omega (arith, shape.most)

      level : level_of (stage_of m p) ≡ y
      level = ap level_of was

      away : (x ≢ level_of (stage_of m p)) ⊎ (i ≢ p) → cell_of m' x i ≡ cell_of m x i
      away ne = (effect.elsewhere x i lo x32 (has-known _ i t).0 (has-known _ i t).1 ne).1

      go : (x ≡ y) ⊎ (x ≢ y) → (i ≡ p) ⊎ (i ≢ p) → cell_of m' x i ≡ cell_of m x i
      go (inr ne) e = away (inl (λ q. ne (q ∙ level)))
      go (inl q) (inr ne) = away (inr ne)
      go (inl q) (inl e) =
          not_both (has (row_of m x) p) (subst (λ j. has (row_of m x) j ≡ true) e t)
          (unwritten x f (subst (λ z. stage_of m p ≡ Running z 0 f) (sym q) was) lo hi)
  kept-cell (finding y k f was low high now) x i lo hi t = ap (λ l. cell_in l x i) (stays k (ap (made_of m.n) was) low).cells
  kept-cell (ending y f was e now) x i lo hi t = ap (λ l. cell_in l x i) (stays m.n (ap (made_of m.n) was) (some m p ok)).cells
  kept-cell (falling y f was ne two now) x i lo hi t = ap (λ l. cell_in l x i) (stays m.n (ap (made_of m.n) was) (some m p ok)).cells

  same_programs : Stepped m m' p → (q : ℕ) → 1 ≤ q → q ≤ 32 → q ≢ p → program_of m' q ≡ program_of m q
  same_programs did q lq hq ne =
      ap (λ P. program_at m' q P.stage P.value) (effect.rest.others q lq ne)
      ∙ program_alike m m' q (stage_of m q) (value_of m q) effect.rest.size (λ i t.
      let s = stands (stage_of m q) (shape.process q lq hq).stage i t in kept-cell did (level_of (stage_of m q)) i s.0 s.1 s.2)

  -- The access P is made, and p is left at stage s.
  made : Stepped m m' p → (P : Code) → program_of m p ≡ P → accesses P ≡ true
      → ((y j : ℕ) → 1 ≤ y → y ≤ 32 → 1 ≤ j → j ≤ 32 → register m' y j ≡ registers_after same_address (REGS m) P (REG y j))
      → (s : Stage) → stage_of m' p ≡ s → ((i : ℕ) → has (found_of s) i ≡ true → cell_of m' (level_of s) i ≡ cell_of m (level_of s) i)
      → program_at m p s v ≡ remains_after (REGS m) P → FirstAccess m m' p
  made did P is one regs s now cells rest =
      record {
        size = effect.rest.size;
        one = ap accesses is ∙ one;
        registers = λ y j ly hy lj hj. regs y j ly hy lj hj ∙ sym (ap (λ Q. registers_after same_address (REGS m) Q (REG y j)) is);
        rest = ap₂ (λ (t : Stage) (u : ℕ). program_at m' p t u) now effect.value ∙ program_alike m m' p s v effect.rest.size cells ∙ rest
            ∙ sym (ap (remains_after (REGS m)) is);
        others = effect.rest.others;
        programs = same_programs did;
      }

  -- the write
  write-access : (x f : ℕ) → (was : stage_of m p ≡ Running x 0 f) → stage_of m' p ≡ Running x 1 f → FirstAccess m m' p
  unfolding readings
  write-access x f was now =
      made (writing x f was now) (writes (REG x p) v (collect m.n x 1 [] (lines5to9 m.n p x v)))
      (ap (λ s. program_at m p s v) was ∙ rec_writes m.n p x v g.low) refl regs (Running x 1 f) now
      (λ i t. absurd (nothing i (g.read i t)))
      (ap (λ l. collect l x 1 (readings m x f 0) (lines5to9 m.n p x v)) all)
    where
      g : Going m.n (row_of m) x 0 f
      g = running m p ok x 0 f was

      nothing : (i : ℕ) → i < 0 → ⊥
      nothing i lt = omega arith

      all : m.n - 0 ≡ m.n
      all = omega arith

      level : level_of (stage_of m p) ≡ x
      level = ap level_of was

      here : (has (row_of m' x) p ≡ true) × (cell_of m' x p ≡ v)
      here = subst (λ y. (has (row_of m' y) p ≡ true) × (cell_of m' y p ≡ v)) level (effect.first (ap (made_of m.n) was))

      regs : (y j : ℕ) → 1 ≤ y → y ≤ 32 → 1 ≤ j → j ≤ 32 → register m' y j ≡ cond (eqb y x && eqb j p) (holds v) (register m y j)
      regs y j ly hy lj hj = go (equal_or_not y x) (equal_or_not j p)
        where
          else : (y ≢ level_of (stage_of m p)) ⊎ (j ≢ p) → register m' y j ≡ register m y j
          else ne =
              ap₂ (λ (b : Bool) (c : ℕ). cond b (holds c) empty) (effect.elsewhere y j ly hy lj hj ne).0 (effect.elsewhere y j ly hy lj hj ne).1

          go : (y ≡ x) ⊎ (y ≢ x) → (j ≡ p) ⊎ (j ≢ p) → register m' y j ≡ cond (eqb y x && eqb j p) (holds v) (register m y j)
          go (inr ne) e =
              else (inl (λ q. ne (q ∙ level))) ∙ sym (ap (λ b. cond (b && eqb j p) (holds v) (register m y j)) (ne_eqb y x ne))
          go (inl q) (inr ne) =
              else (inr ne)
              ∙ sym (ap (λ b. cond (eqb y x && b) (holds v) (register m y j)) (ne_eqb j p ne)
              ∙ ap (λ b. cond b (holds v) (register m y j)) (and-false (eqb y x)))
          go (inl q) (inl e) =
              ap₂ (λ (z k : ℕ). register m' z k) q e ∙ ap₂ (λ (b : Bool) (c : ℕ). cond b (holds c) empty) here.0 here.1
              ∙ sym (ap₂ (λ (a b : Bool). cond (a && b) (holds v) (register m y j)) (eq-eqb y x q) (eq-eqb j p e))

  -- a read of register k + 1, which leaves p at a stage whose program is what remains
  read-access : (x k f : ℕ) → stage_of m p ≡ Running x (suc k) f → suc k ≤ m.n → Stepped m m' p → (s : Stage) → stage_of m' p ≡ s
      → program_at m p s v ≡ after_read m p x k f v (register m x (suc k)) → FirstAccess m m' p
  read-access x k f was le did s now rest =
      made did (reads (REG x (suc k)) (after_read m p x k f v)) (ap (λ s. program_at m p s v) was ∙ running_reads m p x k f v le) refl
      (λ y j _ _ _ _. register_stays m m' stay y j) s now (λ i t. ap (λ l. cell_in l (level_of s) i) stay.cells) rest
    where
      stay : RegistersStay m m'
      stay = stays (suc k) (ap (made_of m.n) was) (omega arith)

  -- register k + 1 has not been read before
  unread : (x k f : ℕ) → stage_of m p ≡ Running x (suc k) f → has f (suc k) ≡ false
  unread x k f was = is_false (has f (suc k)) (λ t. never ((running m p ok x (suc k) f was).read (suc k) t))
    where
      never : suc k < suc k → ⊥
      never lt = omega arith

  low32 : (k : ℕ) → k ≤ m.n → k ≤ 32
  low32 k le = omega (arith, shape.most)

  -- Lines 5 to 9, with the last read.
  last_rest : (x k f : ℕ) → m.n ≡ suc k → has f (suc k) ≡ false
      → judge x (pairs 1 (readings m x (at_last m x f) m.n)) (rec_update_snapshot m.n p (x - 1) v)
      ≡ after_read m p x k f v (register m x (suc k))
  unfolding collect
  last_rest x k f e none =
      let hi : suc k ≤ 32 = omega (arith, shape.most) in
      let done : 0 ≡ m.n - suc k = omega arith in
      ap (lines5to9 m.n p x v) (ap (λ j. readings m x (reading (row_of m x) j f) j) e ∙ sym (readings_next m x k f hi none))
      ∙ ap (λ l. collect l x (suc (suc k)) (readings m x f k ++ (register m x (suc k) ∷ [])) (lines5to9 m.n p x v)) done

  -- the view that line 6 counts
  view-size : (x f : ℕ) → stage_of m p ≡ Running x m.n f → length (pairs 1 (readings m x (at_last m x f) m.n)) ≡ size (at_last m x f)
  view-size x f was =
      let g : Going m.n (row_of m) x m.n f = running m p ok x m.n f was in
      pairs-count m x (at_last m x f) m.n
      ∙ size_stands m shape x g.low g.high (at_last m x f) (λ i t. read_stands m.n (row_of m) x m.n m.n f i g t)

  last_access : (x f : ℕ) → stage_of m p ≡ Running x m.n f → Stepped m m' p → (s : Stage) → stage_of m' p ≡ s
      → program_at m p s v ≡ judge x (pairs 1 (readings m x (at_last m x f) m.n)) (rec_update_snapshot m.n p (x - 1) v) → FirstAccess m m' p
  last_access x f was did s now rest =
      read-access x k f at_last_lem (omega arith) did s now (rest ∙ last_rest x k f e (unread x k f at_last_lem))
    where
      k : ℕ
      k = m.n - 1

      e : m.n ≡ suc (m.n - 1)
      e = omega (arith, shape.some)

      at_last_lem : stage_of m p ≡ Running x (suc k) f
      at_last_lem = was ∙ ap (λ j. Running x j f) e

  first_access_lem : Stepped m m' p → FirstAccess m m' p
  first_access_lem (writing x f was now) = write-access x f was now
  first_access_lem (finding x zero f was lo hi now) = absurd (omega arith)
  first_access_lem (finding x (suc k) f was lo hi now) =
      let e : suc k + 1 ≡ suc (suc k) = omega arith in
      let le : suc k ≤ m.n = omega arith in
      let s : Stage = Running x (suc (suc k)) (reading (row_of m x) (suc k) f) in
      read-access x k f was le (finding x (suc k) f was lo hi now) s
      (now ∙ ap (λ j. Running x j (reading (row_of m x) (suc k) f)) e) (read_rest m p x k f v (low32 (suc k) le) (unread x k f was))
  first_access_lem (ending x f was e now) =
      last_access x f was (ending x f was e now) (Finished x (at_last m x f)) now
      (sym (cond-true (eqb (length (pairs 1 (readings m x (at_last m x f) m.n))) x) (returns (pairs 1 (readings m x (at_last m x f) m.n))) _
      (eq-eqb _ x (view-size x f was ∙ e))))
  first_access_lem (falling x f was ne two now) =
      last_access x f was (falling x f was ne two now) (Running (x - 1) 0 0) now
      (sym (cond-false (eqb (length (pairs 1 (readings m x (at_last m x f) m.n))) x) (returns (pairs 1 (readings m x (at_last m x f) m.n))) _
      (ne_eqb _ x (λ q. ne (sym (view-size x f was) ∙ q)))))

pub step_is_first_access : (m : Machine) → Held m → (p : ℕ) → accepted (step_of m p) ≡ true → FirstAccess m (step_of m p).machine p
step_is_first_access m h p a =
    first_access_lem m (step_of m p).machine h p (what_calls_did.step m p a).0 (effects_of_calls.step m h p a) (stepped m h p a)

-- An enter and a crash.
no_access : (m m' : Machine) (p : ℕ) → OthersStay m m' p → RegistersStay m m' → NoAccess m m' p
no_access m m' p rest stay =
    record {
      size = rest.size;
      registers = register_stays m m' stay;
      others = rest.others;
      programs = λ q lq ne.
          ap (λ P. program_at m' q P.stage P.value) (rest.others q lq ne)
          ∙ program_alike m m' q (stage_of m q) (value_of m q) rest.size (λ i _. ap (λ l. cell_in l (level_of (stage_of m q)) i) stay.cells);
    }

pub enter_is_start : (m : Machine) → Held m → (p v : ℕ) → accepted (enter_of m p v) ≡ true
    → (program_of (enter_of m p v).machine p ≡ update_snapshot m.n p v) × NoAccess m (enter_of m p v).machine p
enter_is_start m h p v a =
    let e : EnterEffect m (enter_of m p v).machine p v = effects_of_calls.enter m h p v a in (
      ap₂ (λ (s : Stage) (u : ℕ). program_at (enter_of m p v).machine p s u) e.stage e.value
          ∙ ap (λ n. rec_update_snapshot n p m.n v) e.rest.size,
      no_access m (enter_of m p v).machine p e.rest e.registers,
    )

pub crash_is_end : (m : Machine) → Held m → (p : ℕ) → accepted (crash_of m p) ≡ true
    → (program_of (crash_of m p).machine p ≡ halted) × NoAccess m (crash_of m p).machine p
crash_is_end m h p a =
    let e : CrashEffect m (crash_of m p).machine p = effects_of_calls.crash m h p a in
    (halts (stage_of (crash_of m p).machine p) e.never_moves, no_access m (crash_of m p).machine p e.rest e.registers)
  where
    halts : (s : Stage) → crashed s ≡ true → program_at (crash_of m p).machine p s (value_of (crash_of m p).machine p) ≡ halted
    halts Absent t = refl
    halts (Running x k f) t = absurd (false≢true t)
    halts (Finished x w) t = absurd (false≢true t)
    halts (Crashed x k f) t = refl

-- A finished process: the pairs of the list are those of its view.
abbrev pair_of : ℕ → ℕ → Pair
pair_of j v = record { process = j; value = v }

-- a pair of the list is a register that was found, and the other way round
pairs_split : (j : ℕ) (reg : List Register) (r : Register) → pairs j (reg ++ (r ∷ [])) ≡ pairs j reg ++ pairs (j + length reg) (r ∷ [])
unfolding pairs
pairs_split j [] r = let e : j ≡ j + 0 = omega arith in ap (λ i. pairs i (r ∷ [])) e
pairs_split j (empty ∷ reg) r =
    let e : suc j + length reg ≡ j + suc (length reg) = omega arith in
    pairs_split (suc j) reg r ∙ ap (λ i. pairs (suc j) reg ++ pairs i (r ∷ [])) e
pairs_split j (holds v ∷ reg) r =
    let e : suc j + length reg ≡ j + suc (length reg) = omega arith in
    ap (λ l. pair_of j v ∷ l) (pairs_split (suc j) reg r ∙ ap (λ i. pairs (suc j) reg ++ pairs i (r ∷ [])) e)

readings-length : (m : Machine) (x f k : ℕ) → length (readings m x f k) ≡ k
unfolding readings
readings-length m x f zero = refl
readings-length m x f (suc k) =
    more _ _ (length-append (readings m x f k) (found m x f (suc k) ∷ [])) (readings-length m x f k)
  where
    more : (a b : ℕ) → a ≡ b + 1 → b ≡ k → a ≡ suc k
    more a b e q = omega arith

record Found (m : Machine) (x f k j v : ℕ) : Type 0 where
  low : 1 ≤ j
  high : j ≤ k
  seen : has f j ≡ true
  held : cell_of m x j ≡ v

-- the list with one register more
pub pairs_next : (m : Machine) (x f k : ℕ)
    → pairs 1 (readings m x f (suc k)) ≡ pairs 1 (readings m x f k) ++ pairs (suc k) (found m x f (suc k) ∷ [])
unfolding readings
pairs_next m x f k =
    pairs_split 1 (readings m x f k) (found m x f (suc k))
    ∙ ap (λ i. pairs 1 (readings m x f k) ++ pairs i (found m x f (suc k) ∷ [])) (place _ (readings-length m x f k))
  where
    place : (l : ℕ) → l ≡ k → 1 + l ≡ suc k
    place l e = omega arith

one_listed : (b : Bool) (k c j v : ℕ) → b ≡ true → j ≡ k → c ≡ v → Memᴰ (pair_of j v) (pairs k (cond b (holds c) empty ∷ []))
unfolding pairs
one_listed true k c j v t e q = Memᴰ.head (ap₂ pair_of e (sym q))
one_listed false k c j v t e q = absurd (false≢true t)

one_unlisted : (b : Bool) (k c j v : ℕ) → Memᴰ (pair_of j v) (pairs k (cond b (holds c) empty ∷ [])) → (b ≡ true) × (j ≡ k) × (c ≡ v)
unfolding pairs
one_unlisted true k c j v s =
    let e : pair_of j v ≡ pair_of k c = Memᴰ.eq_of_singleton s in (refl, ap (λ P. P.process) e, sym (ap (λ P. P.value) e))
one_unlisted false k c j v s = absurd (Memᴰ.not-nil s)

listed : (m : Machine) (x f k j v : ℕ) → Found m x f k j v → Memᴰ (pair_of j v) (pairs 1 (readings m x f k))
listed m x f zero j v s = absurd (let z : ⊥ = omega (arith, s.low, s.high) in z)
listed m x f (suc k) j v s =
    subst (λ l. Memᴰ (pair_of j v) l) (sym (pairs_next m x f k)) (go (equal_or_not j (suc k)) (listed m x f k j v))
  where
    below : j ≢ suc k → j ≤ k
    below ne = omega (arith, s.high)

    go : (j ≡ suc k) ⊎ (j ≢ suc k) → (Found m x f k j v → Memᴰ (pair_of j v) (pairs 1 (readings m x f k)))
        → Memᴰ (pair_of j v) (pairs 1 (readings m x f k) ++ pairs (suc k) (found m x f (suc k) ∷ []))
    go (inl e) further =
        Memᴰ.append_right (pairs 1 (readings m x f k))
        (one_listed (has f (suc k)) (suc k) (cell_of m x (suc k)) j v (ap (has f) (sym e) ∙ s.seen) e (ap (cell_of m x) (sym e) ∙ s.held))
    go (inr ne) further =
        Memᴰ.append_left (pairs (suc k) (found m x f (suc k) ∷ []))
        (further (record { low = s.low; high = below ne; seen = s.seen; held = s.held }))

unlisted : (m : Machine) (x f k j v : ℕ) → Memᴰ (pair_of j v) (pairs 1 (readings m x f k)) → Found m x f k j v
unfolding readings pairs
unlisted m x f zero j v s = absurd (Memᴰ.not-nil s)
unlisted m x f (suc k) j v s =
    go (Memᴰ.append_cases (pairs 1 (readings m x f k)) (subst (λ l. Memᴰ (pair_of j v) l) (pairs_next m x f k) s)) (unlisted m x f k j v)
  where
    here : j ≡ suc k → (1 ≤ j) × (j ≤ suc k)
    here e = omega arith

    go : Memᴰ (pair_of j v) (pairs 1 (readings m x f k)) ⊎ Memᴰ (pair_of j v) (pairs (suc k) (found m x f (suc k) ∷ []))
        → (Memᴰ (pair_of j v) (pairs 1 (readings m x f k)) → Found m x f k j v) → Found m x f (suc k) j v
    go (inl t) further =
        let before : Found m x f k j v = further t in
        record { low = before.low; high = omega (arith, before.high); seen = before.seen; held = before.held }
    go (inr t) further =
        let e = one_unlisted (has f (suc k)) (suc k) (cell_of m x (suc k)) j v t in
        record { low = (here e.1).0; high = (here e.1).1; seen = ap (has f) e.1 ∙ e.0; held = ap (cell_of m x) e.1 ∙ e.2 }

pub view_is_returned : ViewIsReturned
view_is_returned m sh p given = go (stage_of m p) refl given.ended
  where
    p32 : p ≤ 32
    p32 = omega (arith, given.high, sh.most)

    go : (s : Stage) → stage_of m p ≡ s → finished s ≡ true → Returned m p
    go Absent e t = absurd (false≢true t)
    go (Running x k f) e t = absurd (false≢true t)
    go (Crashed x k f) e t = absurd (false≢true t)
    go (Finished x w) e t =
        record {
          list = pairs 1 (readings m x w m.n);
          returned = ap (λ s. program_at m p s (value_of m p)) e;
          count = pairs-count m x w m.n ∙ size_stands m sh x ended.low ended.high w ended.stands ∙ sym (ap (λ s. size (found_of s)) e);
          pairs = λ j v. (to j v, back j v);
        }
      where
        ended : Ended m.n (row_of m) x w
        ended = subst (ShapedStage m.n (row_of m)) e (sh.process p given.low p32).stage

        to : (j v : ℕ) → View m p j v → Memᴰ (pair_of j v) (pairs 1 (readings m x w m.n))
        to j v s =
            listed m x w m.n j v
            (record {
              low = s.low;
              high = s.high;
              seen = ap (λ t. has (found_of t) j) (sym e) ∙ s.seen;
              held = ap (λ t. cell_of m (level_of t) j) (sym e) ∙ s.held;
            })

        back : (j v : ℕ) → Memᴰ (pair_of j v) (pairs 1 (readings m x w m.n)) → View m p j v
        back j v l =
            let s : Found m x w m.n j v = unlisted m x w m.n j v l in
            record {
              low = s.low;
              high = s.high;
              seen = ap (λ t. has (found_of t) j) e ∙ s.seen;
              held = ap (λ t. cell_of m (level_of t) j) e ∙ s.held;
            }

-- whether a program begins with an access, by the stage
pub program_goes : (m : Machine) (p x k f v : ℕ) → Going m.n (row_of m) x k f → accesses (program_at m p (Running x k f) v) ≡ true
program_goes m p x zero f v g = ap accesses (rec_writes m.n p x v g.low)
program_goes m p x (suc k) f v g = ap accesses (running_reads m p x k f v g.accesses)
