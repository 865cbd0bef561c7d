-- A run of the machine is a run of Fig. 8.16: an accepted call of the machine is the same call of the figure's world, and both accept the same calls.
use mathlib.Core.Path.{◌≡◌, refl, sym, ap, ap₂, subst, ◌∙◌}
use mathlib.Core.Logic.{◌⊎◌, inl, inr, ◌≢◌}
use mathlib.Core.Bool.{Bool, true, false, not, ◌&&◌, cond, true≢false, false≢true}
use mathlib.Core.List.{List}
use Prim.Native.Nat.{ℕ, zero, suc, ◌-◌, ◌≤◌}
use native.Mathlib.Omega.{arith}
use lib.Dec.{leb, eqb}
use borrow.Author.Tests.{leb-true, le-leb, eq-eqb, ne_eqb, eqb-true}
use Rattle.rules.specs.declared.Stage.{Stage}
use Rattle.rules.specs.declared.Stage.TheVariants.{Absent, Running, Finished, Crashed}
use Rattle.rules.specs.declared.Machine.{Machine}
use Rattle.rules.specs.declared.Process.{Process}
use Rattle.rules.specs.Stands.{process_of, stage_of, value_of, row_of, cell_of, entered}
use Rattle.rules.specs.Shape.{Held, ShapedStage, Shaped}
use Rattle.rules.specs.Calls.{accepted, fresh, enter_of, step_of, crash_of}
use Rattle.rules.specs.Statements.{Valid}
use Rattle.rules.proofs.Laws.Small.{and_first, and_second, equal_or_not, is_false}
use Rattle.rules.proofs.Laws.Shape.{shaped_record, record_shaped}
use Rattle.rules.proofs.Laws.Did.{running, what_calls_did, what_calls_do}
use Rattle.rules.proofs.Laws.Refused.{refused_hands_back}
use Rattle.rules.proofs.Laws.Effects.{effects_of_calls}
use Rattle.world.specs.Programs.{Register, empty, holds, writes, reads, returns, halted, accesses, registers_after, remains_after}
use Rattle.world.specs.Calls.{leaves}
use Rattle.world.specs.World.{World, start, among, changed, takes, does, world_taker}
use Rattle.world.proofs.Follows.{Follows, kept, same-leaves}
use Rattle.history.specs.Runs.{Call, enters, steps, crashes, answer, after, machine_taker, runs}
use Rattle.history.specs.Figure.{Address, REG, same_address, Code, update_snapshot, figure}
use Rattle.history.specs.AsWorld.{register, program_at, program_of, world_of}
use Rattle.history.specs.Theorems.{FiguresCall, CallIsFigures}
use Rattle.history.specs.IsFigure.{EveryRunIsFigure}
use Rattle.history.specs.Demand.{figure_runs}
use Rattle.history.proofs.Moves.{stepped, meets_after, every_state_shaped, blank, nobody_yet}
use Rattle.history.proofs.Invariant.{Inv, inv_after, inv_fresh}
use Rattle.history.proofs.Answers.{step-accesses}
use Rattle.sets.specs.Members.{has}
use Rattle.sets.proofs.Laws.{has_zero, same_truth}
use Rattle.history.proofs.Figure.{REGS, FirstAccess, rec_writes, running_reads, step_is_first_access, enter_is_start, crash_is_end, program_goes}
use Rattle.history.proofs.Levels.{step_falls, crashed-entered}

-- one of 1 to n
pub among_of : (n p : ℕ) → 1 ≤ p → p ≤ n → among n p ≡ true
among_of n p lo hi = ap₂ (λ (a b : Bool). a && b) (le-leb 1 p lo) (le-leb p n hi)

pub low_of : (n p : ℕ) → among n p ≡ true → 1 ≤ p
low_of n p t = leb-true 1 p (and_first (leb 1 p) _ t)

pub high_of : (n p : ℕ) → among n p ≡ true → p ≤ n
high_of n p t = leb-true p n (and_second (leb 1 p) _ t)

-- a process 1 to n of a state that a run leaves
known : (m : Machine) → Inv m → (p : ℕ) → among m.n p ≡ true → Valid m p
known m I p t = record { shape = record_shaped m I.meets.shape; low = low_of m.n p t; high = high_of m.n p t }

-- the register is one of the n rows of n
abbrev in_grid : ℕ → Address → Bool
in_grid n a = among n a.row && among n a.register

-- a clipped function of which one value is another
changed_one : {X : Type 0} (n p : ℕ) (f g : ℕ → X) (d x : X) → among n p ≡ true → f p ≡ x
    → ((q : ℕ) → 1 ≤ q → q ≤ n → q ≢ p → f q ≡ g q) → (q : ℕ) → cond (among n q) (f q) d ≡ changed (λ r. cond (among n r) (g r) d) p x q
changed_one {X} n p f g d x t e others q = go (equal_or_not q p)
  where
    by : (b : Bool) → among n q ≡ b → q ≢ p → cond b (f q) d ≡ cond b (g q) d
    by true i ne = others q (low_of n q i) (high_of n q i) ne
    by false i ne = refl

    go : (q ≡ p) ⊎ (q ≢ p) → cond (among n q) (f q) d ≡ cond (eqb q p) x (cond (among n q) (g q) d)
    go (inl h) =
        ap (λ r. cond (among n r) (f r) d) h ∙ ap (λ b. cond b (f p) d) t ∙ e ∙ sym (ap (λ b. cond b x (cond (among n q) (g q) d)) (eq-eqb q p h))
    go (inr ne) = by (among n q) refl ne ∙ sym (ap (λ b. cond b x (cond (among n q) (g q) d)) (ne_eqb q p ne))

-- or of which none is
changed-none : {X : Type 0} (n : ℕ) (f g : ℕ → X) (d : X) → ((q : ℕ) → 1 ≤ q → q ≤ n → f q ≡ g q) → (q : ℕ)
    → cond (among n q) (f q) d ≡ cond (among n q) (g q) d
changed-none {X} n f g d same q = go (among n q) refl
  where
    go : (b : Bool) → among n q ≡ b → cond b (f q) d ≡ cond b (g q) d
    go true i = same q (low_of n q i) (high_of n q i)
    go false i = refl

-- worlds are equal where they agree
world_by : {A R : Type 0} (w u : World A R) → ((a : A) → w.registers a ≡ u.registers a) → ((p : ℕ) → w.entered p ≡ u.entered p)
    → ((p : ℕ) → w.remains p ≡ u.remains p) → w ≡ u
world_by w u r e m = λ i. record { registers = λ a. r a i; entered = λ p. e p i; remains = λ p. m p i }

-- The first access of a program is to a register of the grid.
abbrev FirstIn : ℕ → Code → Type 0
FirstIn n (writes a v next) = in_grid n a ≡ true
FirstIn n (reads a next) = in_grid n a ≡ true
FirstIn n (returns r) = Unit {0}
FirstIn n halted = Unit {0}

grid_of : (n x i : ℕ) → 1 ≤ x → x ≤ n → among n i ≡ true → in_grid n (REG x i) ≡ true
grid_of n x i lo hi t = ap₂ (λ (a b : Bool). a && b) (among_of n x lo hi) t

first_in : (m : Machine) (p : ℕ) (s : Stage) (v : ℕ) → among m.n p ≡ true → ShapedStage m.n (row_of m) s → FirstIn m.n (program_at m p s v)
first_in m p Absent v t g = tt
first_in m p (Running x zero f) v t g =
    subst (FirstIn m.n) (sym (rec_writes m.n p x v g.low)) (grid_of m.n x p g.low g.high t)
first_in m p (Running x (suc k) f) v t g =
    subst (FirstIn m.n) (sym (running_reads m p x k f v g.accesses))
    (grid_of m.n x (suc k) g.low g.high (among_of m.n (suc k) (omega arith) g.accesses))
first_in m p (Finished x w) v t g = tt
first_in m p (Crashed x k f) v t g = tt

-- a first access reads and writes the same on registers that are clipped to the grid
module _ (n : ℕ) (R W : Address → Register) (same : (a : Address) → in_grid n a ≡ true → W a ≡ R a) where
  remains_clipped : (P : Code) → FirstIn n P → remains_after R P ≡ remains_after W P
  remains_clipped (writes a v next) t = refl
  remains_clipped (reads a next) t = ap next (sym (same a t))
  remains_clipped (returns r) t = refl
  remains_clipped halted t = refl

  registers_clipped : (P : Code) (a : Address) → in_grid n a ≡ true → registers_after same_address R P a ≡ registers_after same_address W P a
  registers_clipped (writes b v next) a t = ap (λ r. cond (same_address a b) (holds v) r) (sym (same a t))
  registers_clipped (reads b next) a t = sym (same a t)
  registers_clipped (returns r) a t = sym (same a t)
  registers_clipped halted a t = sym (same a t)

-- and it changes nothing outside
same_in : (n : ℕ) (a b : Address) → same_address a b ≡ true → in_grid n b ≡ true → in_grid n a ≡ true
same_in n a b e t =
    ap₂ (λ (x i : ℕ). among n x && among n i) (eqb-true a.row b.row (and_first (eqb a.row b.row) _ e))
    (eqb-true a.register b.register (and_second (eqb a.row b.row) _ e))
    ∙ t

outside : (n : ℕ) (W : Address → Register) (P : Code) → FirstIn n P → (a : Address) → in_grid n a ≡ false → W a ≡ empty
    → registers_after same_address W P a ≡ empty
outside n W (writes b v next) t a f e =
    ap (λ c. cond c (holds v) (W a)) (is_false (same_address a b) (λ s. true≢false (sym (same_in n a b s t) ∙ f))) ∙ e
outside n W (reads b next) t a f e = e
outside n W (returns r) t a f e = e
outside n W halted t a f e = e

-- A call of process p that leaves m' of m.
module _ (m m' : Machine) (size : m'.n ≡ m.n) where
  abbrev W : Address → Register
  W = (world_of m).registers

  -- inside the grid the world's registers are the machine's
  clipped : (a : Address) → in_grid m.n a ≡ true → W a ≡ REGS m a
  clipped a t = ap (λ b. cond b (REGS m a) empty) t

  registers_as : (f : Address → Register) → ((a : Address) → in_grid m.n a ≡ true → REGS m' a ≡ f a)
      → ((a : Address) → in_grid m.n a ≡ false → empty ≡ f a) → (a : Address) → (world_of m').registers a ≡ f a
  registers_as f inner outer a = ap (λ n. cond (in_grid n a) (REGS m' a) empty) size ∙ go (in_grid m.n a) refl
    where
      go : (b : Bool) → in_grid m.n a ≡ b → cond b (REGS m' a) empty ≡ f a
      go true t = inner a t
      go false t = outer a t

  registers_stay : ((y j : ℕ) → register m' y j ≡ register m y j) → (a : Address) → (world_of m').registers a ≡ W a
  registers_stay e =
      registers_as W (λ a t. e a.row a.register ∙ sym (clipped a t)) (λ a f. sym (ap (λ b. cond b (REGS m a) empty) f))

  entered_as : (p : ℕ) → among m.n p ≡ true → ((q : ℕ) → 1 ≤ q → q ≢ p → process_of m' q ≡ process_of m q) → entered (stage_of m' p) ≡ true → (q : ℕ)
      → (world_of m').entered q ≡ changed (world_of m).entered p true q
  entered_as p t others e q =
      ap (λ n. cond (among n q) (entered (stage_of m' q)) false) size
      ∙ changed_one m.n p (λ r. entered (stage_of m' r)) (λ r. entered (stage_of m r)) false true t e
      (λ r lo hi ne. ap (λ (P : Process). entered P.stage) (others r lo ne)) q

  entered_stays : (p : ℕ) → ((q : ℕ) → 1 ≤ q → q ≢ p → process_of m' q ≡ process_of m q) → entered (stage_of m' p) ≡ entered (stage_of m p) → (q : ℕ)
      → (world_of m').entered q ≡ (world_of m).entered q
  entered_stays p others e q =
      ap (λ n. cond (among n q) (entered (stage_of m' q)) false) size
      ∙ changed-none m.n (λ r. entered (stage_of m' r)) (λ r. entered (stage_of m r)) false (λ r lo hi. go r lo (equal_or_not r p)) q
    where
      go : (r : ℕ) → 1 ≤ r → (r ≡ p) ⊎ (r ≢ p) → entered (stage_of m' r) ≡ entered (stage_of m r)
      go r lo (inl h) = ap (λ q. entered (stage_of m' q)) h ∙ e ∙ sym (ap (λ q. entered (stage_of m q)) h)
      go r lo (inr ne) = ap (λ (P : Process). entered P.stage) (others r lo ne)

  remains_as : (p : ℕ) (P : Code) → among m.n p ≡ true → program_of m' p ≡ P
      → ((q : ℕ) → 1 ≤ q → q ≤ m.n → q ≢ p → program_of m' q ≡ program_of m q) → (q : ℕ)
      → (world_of m').remains q ≡ changed (world_of m).remains p P q
  remains_as p P t e others q =
      ap (λ n. cond (among n q) (program_of m' q) halted) size ∙ changed_one m.n p (program_of m') (program_of m) halted P t e others q

-- a process that a call speaks of
module _ (m : Machine) (p : ℕ) (ok : Valid m p) where
  valid_among : among m.n p ≡ true
  valid_among = among_of m.n p ok.low ok.high

  valid_shape : Shaped m
  valid_shape = shaped_record m ok.shape

  valid_remains : (world_of m).remains p ≡ program_of m p
  valid_remains = ap (λ b. cond b (program_of m p) halted) valid_among

enter_figures : (m : Machine) → Held m → (p v : ℕ) → accepted (enter_of m p v) ≡ true → FiguresCall m (enters p v)
enter_figures m h p v a =
    let ok : Valid m p = (what_calls_did.enter m p v a).0 in
    let t = valid_among m p ok in
    let e = enter_is_start m h p v a in
    let n = e.1 in
    let m' = (enter_of m p v).machine in
    let was = (what_calls_did.enter m p v a).1.was in
    record {
      takes = ap₂ (λ (b c : Bool). b && not (cond b c false)) t (ap entered was);
      does = world_by (world_of m') (does (figure m.n) (world_of m) (enters p v)) (registers_stay m m' n.size n.registers)
          (entered_as m m' n.size p t n.others (ap entered (effects_of_calls.enter m h p v a).stage))
          (remains_as m m' n.size p (update_snapshot m.n p v) t e.0 (λ q lo hi ne. n.programs q lo ne));
    }

crash_figures : (m : Machine) → Held m → (p : ℕ) → accepted (crash_of m p) ≡ true → FiguresCall m (crashes p)
crash_figures m h p a =
    let ok : Valid m p = (what_calls_did.crash m p a).0 in
    let t = valid_among m p ok in
    let e = crash_is_end m h p a in
    let n = e.1 in
    let m' = (crash_of m p).machine in
    let d = (what_calls_did.crash m p a).1 in
    let goes : accesses (program_of m p) ≡ true
    = ap (λ s. accesses (program_at m p s (value_of m p))) d.was
    ∙ program_goes m p d.level d.made d.found (value_of m p) (running m p ok d.level d.made d.found d.was) in
    record {
      takes = ap accesses (valid_remains m p ok) ∙ goes;
      does = world_by (world_of m') (does (figure m.n) (world_of m) (crashes p)) (registers_stay m m' n.size n.registers)
          (entered_stays m m' n.size p n.others
          (crashed-entered (stage_of m' p) (effects_of_calls.crash m h p a).never_moves ∙ sym (ap entered d.was)))
          (remains_as m m' n.size p halted t e.0 (λ q lo hi ne. n.programs q lo ne));
    }

step_figures : (m : Machine) → Held m → (p : ℕ) → accepted (step_of m p) ≡ true → FiguresCall m (steps p)
step_figures m h p a =
    record {
      takes = ap accesses (valid_remains m p ok) ∙ f.one;
      does = world_by (world_of m') (does (figure m.n) (world_of m) (steps p)) registers
          (entered_stays m m' f.size p f.others (falls.1 ∙ sym falls.0))
          (remains_as m m' f.size p (remains_after (W m m' f.size) ((world_of m).remains p)) t rest (λ q lo hi ne. f.programs q lo (most q hi) ne));
    }
  where
    ok : Valid m p
    ok = (what_calls_did.step m p a).0

    m' : Machine
    m' = (step_of m p).machine

    f : FirstAccess m m' p
    f = step_is_first_access m h p a

    t : among m.n p ≡ true
    t = valid_among m p ok

    falls : (entered (stage_of m p) ≡ true) × (entered (stage_of m' p) ≡ true)
    falls = let s = step_falls m m' p (stepped m h p a) in (s.0, s.1)

    most : (q : ℕ) → q ≤ m.n → q ≤ 32
    most q hi = omega (arith, (valid_shape m p ok).most)

    inside : FirstIn m.n (program_of m p)
    inside = first_in m p (stage_of m p) (value_of m p) t ((valid_shape m p ok).process p ok.low (most p ok.high)).stage

    rest : program_of m' p ≡ remains_after (W m m' f.size) ((world_of m).remains p)
    rest =
        f.rest ∙ remains_clipped m.n (REGS m) (W m m' f.size) (clipped m m' f.size) (program_of m p) inside
        ∙ sym (ap (remains_after (W m m' f.size)) (valid_remains m p ok))

    registers : (b : Address) → (world_of m').registers b ≡ registers_after same_address (world_of m).registers ((world_of m).remains p) b
    registers =
        registers_as m m' f.size (registers_after same_address (world_of m).registers ((world_of m).remains p))
        (λ b i.
        let x = and_first (among m.n b.row) (among m.n b.register) i in
        let y = and_second (among m.n b.row) (among m.n b.register) i in
        f.registers b.row b.register (low_of m.n b.row x) (most b.row (high_of m.n b.row x)) (low_of m.n b.register y)
        (most b.register (high_of m.n b.register y))
        ∙ registers_clipped m.n (REGS m) (W m m' f.size) (clipped m m' f.size) (program_of m p) b i
        ∙ sym (ap (λ P. registers_after same_address (world_of m).registers P b) (valid_remains m p ok)))
        (λ b o.
        sym (ap (λ P. registers_after same_address (world_of m).registers P b) (valid_remains m p ok)
        ∙ outside m.n (world_of m).registers (program_of m p) inside b o (ap (λ c. cond c (REGS m b) empty) o)))

pub call_is_figures : CallIsFigures
call_is_figures m h (enters p v) a = enter_figures m h p v a
call_is_figures m h (steps p) a = step_figures m h p a
call_is_figures m h (crashes p) a = crash_figures m h p a

-- Both accept the same calls: on a state that a run leaves, what the figure's world takes the machine accepts.
step_taken : (m : Machine) → Inv m → (p : ℕ) → accesses ((world_of m).remains p) ≡ true → accepted (step_of m p) ≡ true
step_taken m I p t = go (among m.n p) refl t
  where
    go : (b : Bool) → among m.n p ≡ b → accesses (cond b (program_of m p) halted) ≡ true → accepted (step_of m p) ≡ true
    go true i t = step-accesses m I p (known m I p i) ∙ t
    go false i t = absurd (false≢true t)

crash_taken : (m : Machine) → Inv m → (p : ℕ) → accesses ((world_of m).remains p) ≡ true → accepted (crash_of m p) ≡ true
crash_taken m I p t = go (among m.n p) refl t
  where
    at : Valid m p → (s : Stage) → stage_of m p ≡ s → accesses (program_at m p s (value_of m p)) ≡ true → accepted (crash_of m p) ≡ true
    at ok Absent e t = absurd (false≢true t)
    at ok (Running x k f) e t = ap accepted (what_calls_do.crashes m p ok x k f e)
    at ok (Finished x w) e t = absurd (false≢true t)
    at ok (Crashed x k f) e t = absurd (false≢true t)

    go : (b : Bool) → among m.n p ≡ b → accesses (cond b (program_of m p) halted) ≡ true → accepted (crash_of m p) ≡ true
    go true i t = at (known m I p i) (stage_of m p) refl t
    go false i t = absurd (false≢true t)

enter_taken : (m : Machine) → Inv m → (p v : ℕ) → (among m.n p && not ((world_of m).entered p)) ≡ true → accepted (enter_of m p v) ≡ true
enter_taken m I p v t = go (among m.n p) refl t
  where
    at : Valid m p → (s : Stage) → stage_of m p ≡ s → not (entered s) ≡ true → accepted (enter_of m p v) ≡ true
    at ok Absent e t = ap accepted (what_calls_do.enters m p ok v e)
    at ok (Running x k f) e t = absurd (false≢true t)
    at ok (Finished x w) e t = absurd (false≢true t)
    at ok (Crashed x k f) e t = absurd (false≢true t)

    go : (b : Bool) → among m.n p ≡ b → (b && not (cond b (entered (stage_of m p)) false)) ≡ true → accepted (enter_of m p v) ≡ true
    go true i t = at (known m I p i) (stage_of m p) refl t
    go false i t = absurd (false≢true t)

taken : (m : Machine) → Inv m → (c : Call) → takes (figure m.n) (world_of m) c ≡ true → accepted (answer m c) ≡ true
taken m I (enters p v) t = enter_taken m I p v t
taken m I (steps p) t = step_taken m I p t
taken m I (crashes p) t = crash_taken m I p t

-- a refused call hands back the state
handed_back : (m : Machine) (c : Call) → accepted (answer m c) ≡ false → after m c ≡ m
handed_back m (enters p v) a = refused_hands_back.enter m p v a
handed_back m (steps p) a = refused_hands_back.step m p a
handed_back m (crashes p) a = refused_hands_back.crash m p a

pub same-accepted : (m : Machine) → Inv m → (c : Call) → accepted (answer m c) ≡ takes (figure m.n) (world_of m) c
same-accepted m I c =
    same_truth (accepted (answer m c)) (takes (figure m.n) (world_of m) c) (λ a. (call_is_figures m I.meets.held c a).takes) (taken m I c)

same_after : (m : Machine) → Inv m → (c : Call) → world_of (after m c) ≡ (world_taker (figure m.n)).after (world_of m) c
same_after m I c = go (accepted (answer m c)) refl
  where
    go : (b : Bool) → accepted (answer m c) ≡ b → world_of (after m c) ≡ cond (takes (figure m.n) (world_of m) c) (does (figure m.n) (world_of m) c) (world_of m)
    go true a =
        (call_is_figures m I.meets.held c a).does
        ∙ sym (ap (λ b. cond b (does (figure m.n) (world_of m) c) (world_of m)) (call_is_figures m I.meets.held c a).takes)
    go false a =
        ap world_of (handed_back m c a) ∙ sym (ap (λ b. cond b (does (figure m.n) (world_of m) c) (world_of m)) (sym (same-accepted m I c) ∙ a))

-- the states of the runs of a machine of n processes
pub record OfRuns (n : ℕ) (m : Machine) : Type 0 where
  pub size : m.n ≡ n
  pub inv : Inv m

pub machine_follows : (n : ℕ) → Follows machine_taker (world_taker (figure n)) world_of (OfRuns n)
machine_follows n =
    record {
      keeps = λ m r c. record { size = kept-size m r.inv c ∙ r.size; inv = inv_after m r.inv c };
      accepts = λ m r c. same-accepted m r.inv c ∙ ap (λ k. takes (figure k) (world_of m) c) r.size;
      after = λ m r c. same_after m r.inv c ∙ ap (λ k. (world_taker (figure k)).after (world_of m) c) r.size;
    }
  where
    kept-size : (m : Machine) → Inv m → (c : Call) → (after m c).n ≡ m.n
    kept-size m I c = (meets_after m.n m I.meets c).size

pub of_runs : (n : ℕ) → 1 ≤ n → n ≤ 32 → OfRuns n (fresh n)
of_runs n lo hi = record { size = refl; inv = inv_fresh n lo hi }

-- nobody has entered a fresh machine, and nothing stands in its registers
pub fresh_world : (n : ℕ) → 1 ≤ n → n ≤ 32 → world_of (fresh n) ≡ start (figure n)
fresh_world n lo hi =
    world_by (world_of (fresh n)) (start (figure n)) nothing (λ p. unseen (among n p) (ap (λ (P : Process). entered P.stage) (nobody_yet n p)))
    (λ p. unseen (among n p) (ap (λ (P : Process). program_at (fresh n) p P.stage P.value) (nobody_yet n p)))
  where
    unseen : {X : Type 0} {x d : X} (b : Bool) → x ≡ d → cond b x d ≡ d
    unseen true e = e
    unseen false e = refl

    nothing : (a : Address) → (world_of (fresh n)).registers a ≡ empty
    nothing a = unseen (in_grid n a) (ap (λ b. cond b (holds (cell_of (fresh n) a.row a.register)) empty) (ap (λ s. has s a.register) (blank 32 (a.row - 1) 0) ∙ has_zero a.register))

pub every_run_is_figure : EveryRunIsFigure
every_run_is_figure n lo hi cs =
    let f = machine_follows n in
    let r = of_runs n lo hi in
    let w : world_of (runs n cs) ≡ figure_runs n cs
    = same-leaves machine_taker (world_taker (figure n)) world_of (OfRuns n) f (fresh n) r cs
    ∙ ap (λ u. leaves (world_taker (figure n)) u cs) (fresh_world n lo hi) in
    record {
      world = w;
      accepts = λ c.
          f.accepts (runs n cs) (kept machine_taker (world_taker (figure n)) world_of (OfRuns n) f (fresh n) r cs) c
          ∙ ap (λ u. takes (figure n) u c) w;
    }

-- what is left of a process's program
pub same_remains : (n : ℕ) → 1 ≤ n → n ≤ 32 → (cs : List Call) (p : ℕ) → 1 ≤ p → p ≤ n → program_of (runs n cs) p ≡ (figure_runs n cs).remains p
same_remains n lo hi cs p lp hp =
    sym (ap (λ k. cond (among k p) (program_of (runs n cs) p) halted) (every_state_shaped n lo hi cs).size
    ∙ ap (λ b. cond b (program_of (runs n cs) p) halted) (among_of n p lp hp))
    ∙ ap (λ w. w.remains p) (every_run_is_figure n lo hi cs).world
