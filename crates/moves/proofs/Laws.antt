-- The calls as the code makes them: what the first tests leave, and what a step comes to by its move.
use mathlib.Core.Path.{◌≡◌, refl, sym, ap, subst, ◌∙◌}
use mathlib.Core.Bool.{Bool, true, false, ◌&&◌, cond}
use Prim.Native.Nat.{ℕ, ◌+◌, ◌-◌, ◌≤◌}
use native.Mathlib.Omega.{arith}
use lib.Dec.{leb, ltb, eqb}
use borrow.Author.Tests.{leb-true, eqb-true}
use Rattle.std.specs.Prelude.{Result, Ok, Err}
use Rattle.sets.specs.Members.{size}
use Rattle.rules.specs.declared.Stage.{Stage}
use Rattle.rules.specs.declared.Stage.TheVariants.{Absent, Running, Finished, Crashed}
use Rattle.rules.specs.declared.Process.{Process}
use Rattle.rules.specs.declared.Machine.{Machine}
use Rattle.rules.specs.declared.Answer.{Answer}
use Rattle.rules.specs.declared.Answer.TheVariants.{NotShaped, NoProcess, NeverEntered, HasCrashed, HasFinished, NoLevelBelow}
use Rattle.rules.specs.declared.Called.{Called}
use Rattle.rules.specs.Stands.{process_of, stage_of, value_of, row_of}
use Rattle.rules.specs.State.{with_process, with_stage}
use Rattle.rules.specs.Shape.{ShapedStage, shaped}
use Rattle.rules.specs.Calls.{done, refused, tested, reading, write, settle, access, step_at, step_of}
use Rattle.rules.specs.Statements.{Valid}
use Rattle.rules.proofs.Laws.Small.{and_first, and_second}
use Rattle.rules.proofs.Laws.Shape.{shaped_record}
use Rattle.rules.proofs.Laws.Did.{goes_on, steps}
use Rattle.moves.specs.declared.Runner.{Runner}
use Rattle.moves.specs.declared.Move.TheVariants.{Write, Turn}
use Rattle.moves.specs.Coded.Asked.{asked_of, runner_at, runner_in, runner_of}
use Rattle.moves.specs.Coded.Moves.{after_read, turn, move_in, move_of, moved, StepIsMove}

pub most : (m : Machine) → shaped m ≡ true → m.n ≤ 32
most m e = (shaped_record m e).most

pub passed : (m : Machine) (p : ℕ) → shaped m ≡ true → (leb 1 p && leb p m.n) ≡ true → Valid m p
passed m p e f =
    record { shape = e; low = leb-true 1 p (and_first (leb 1 p) (leb p m.n) f); high = leb-true p m.n (and_second (leb 1 p) (leb p m.n) f) }

pub asked_valid : (m : Machine) (p : ℕ) (P : Process) → Ok P ≡ asked_of m p → Valid m p × (process_of m p ≡ P)
asked_valid m p P = go (shaped m) (leb 1 p && leb p m.n) refl refl
  where
    go : (s r : Bool) → shaped m ≡ s → (leb 1 p && leb p m.n) ≡ r
        → Ok P ≡ cond s (cond r (Ok (process_of m p)) (Err NoProcess)) (Err NotShaped) → Valid m p × (process_of m p ≡ P)
    go true true s r e = (passed m p s r, (cc))
    go true false s r e = cc
    go false r s q e = cc

pub refused-call : (m : Machine) (p : ℕ) (a : Answer) (c : Called) → Err a ≡ asked_of m p → tested m p c ≡ refused a m
refused-call m p a c = go (shaped m) (leb 1 p && leb p m.n)
  where
    go : (s r : Bool) → Err a ≡ cond s (cond r (Ok (process_of m p)) (Err NoProcess)) (Err NotShaped)
        → cond s (cond r c (refused NoProcess m)) (refused NotShaped m) ≡ refused a m
    go true true e = cc
    go true false e = cc
    go false r e = cc

-- how a process of a well shaped machine stands
pub standing : (m : Machine) (p : ℕ) → Valid m p → (s : Stage) → stage_of m p ≡ s → ShapedStage m.n (row_of m) s
standing m p h s e =
    let r = shaped_record m h.shape in
    subst (ShapedStage m.n (row_of m)) e (r.process p h.low (let u : p ≤ 32 = omega (arith, h.high, r.most) in u)).stage

-- process p runs, as r says
pub record Runs (m : Machine) (p : ℕ) (r : Runner) : Type 0 where
  pub valid : Valid m p
  pub stage : stage_of m p ≡ Running r.level r.made r.found
  pub value : value_of m p ≡ r.value

pub runs : (m : Machine) (p : ℕ) (r : Runner) → Ok r ≡ runner_of m p → Runs m p r
runs m p r = go (asked_of m p) refl
  where
    by : (s : Stage) (w : ℕ) → Ok r ≡ runner_at s w → (s ≡ Running r.level r.made r.found) × (w ≡ r.value)
    by Absent w e = cc
    by (Running y l g) w e = ((cc), (cc))
    by (Finished y u) w e = cc
    by (Crashed y l g) w e = cc

    go : (q : Result Process Answer) → q ≡ asked_of m p → Ok r ≡ runner_in q → Runs m p r
    go (Ok P) e q =
        let u = asked_valid m p P e in
        let b = by P.stage P.value q in
        record { valid = u.0; stage = ap (λ (P : Process). P.stage) u.1 ∙ b.0; value = ap (λ (P : Process). P.value) u.1 ∙ b.1 }
    go (Err a) e q = cc

-- it has a number and a level, and a row there
pub record InPlace (p : ℕ) (r : Runner) : Type 0 where
  pub some : 1 ≤ p
  pub most : p ≤ 32
  pub low : 1 ≤ r.level
  pub high : r.level ≤ 32

pub runs_in_place : (m : Machine) (p : ℕ) (r : Runner) → Runs m p r → InPlace p r
runs_in_place m p r R =
    let s = standing m p R.valid (Running r.level r.made r.found) R.stage in
    let n = most m R.valid.shape in
    record { some = R.valid.low; most = omega (arith, R.valid.high, n); low = s.low; high = omega (arith, s.high, n) }

pub in_place : (m : Machine) (p : ℕ) (r : Runner) → Ok r ≡ runner_of m p → InPlace p r
in_place m p r e = runs_in_place m p r (runs m p r e)

-- a call that refuses 4, 5 and 6 by the stage
pub record Refuses (m : Machine) (at : Stage → Called) : Type 0 where
  pub absent : at Absent ≡ refused NeverEntered m
  pub finished : (x w : ℕ) → at (Finished x w) ≡ refused HasFinished m
  pub crashed : (x k f : ℕ) → at (Crashed x k f) ≡ refused HasCrashed m

pub refused_running : (m : Machine) (p : ℕ) (a : Answer) (at : Stage → Called) → Refuses m at → Err a ≡ runner_of m p
    → tested m p (at (stage_of m p)) ≡ refused a m
refused_running m p a at r = go (asked_of m p) refl
  where
    by : (s : Stage) (v : ℕ) → Err a ≡ runner_at s v → at s ≡ refused a m
    by Absent v e = let h = r.absent in cc
    by (Running x k f) v e = cc
    by (Finished x w) v e = let h = r.finished x w in cc
    by (Crashed x k f) v e = let h = r.crashed x k f in cc

    go : (q : Result Process Answer) → q ≡ asked_of m p → Err a ≡ runner_in q → tested m p (at (stage_of m p)) ≡ refused a m
    go (Ok P) e q =
        let v = asked_valid m p P e in
        goes_on m p v.0 (at (stage_of m p)) ∙ ap (λ (P : Process). at P.stage) v.1 ∙ by P.stage P.value q
    go (Err b) e q = let h = refused-call m p b (at (stage_of m p)) e in cc

-- A step is its move made.
access_moves : (m : Machine) (p : ℕ) (r : Runner) → value_of m p ≡ r.value → access m p r.level r.made r.found ≡ moved m p (move_in m (Ok r))
unfolding access settle
access_moves m p r e = go (eqb k 0) (ltb k m.n) (eqb (size g) x) (eqb x 1)
  where
    x : ℕ
    x = r.level

    k : ℕ
    k = r.made

    f : ℕ
    f = r.found

    g : ℕ
    g = reading (row_of m x) k f

    go : (z a b d : Bool)
        → cond z (done (write m p x f))
        (cond a (done (with_stage m p (Running x (k + 1) g)))
        (cond b (done (with_stage m p (Finished x g))) (cond d (refused NoLevelBelow m) (done (with_stage m p (Running (x - 1) 0 0))))))
        ≡ moved m p (cond z (Ok (Write r))
        (turn r.value (cond a (Ok (Running x (k + 1) g)) (cond b (Ok (Finished x g)) (cond d (Err NoLevelBelow) (Ok (Running (x - 1) 0 0)))))))
    go true a b d = cc
    go false true b d = cc
    go false false true d = cc
    go false false false true = refl
    go false false false false = cc

pub step_is_move : StepIsMove
unfolding step_of
step_is_move m p = go (runner_of m p) refl
  where
    go : (q : Result Runner Answer) → q ≡ runner_of m p → step_of m p ≡ moved m p (move_in m q)
    go (Ok r) e =
        let R = runs m p r e in
        steps m p R.valid r.level r.made r.found R.stage ∙ access_moves m p r R.value
    go (Err a) e = refused_running m p a (λ s. step_at s m p) (record { absent = refl; finished = λ x w. refl; crashed = λ x k f. refl }) e

pub refused_step : (m : Machine) (p : ℕ) (a : Answer) → Err a ≡ move_of m p → step_of m p ≡ refused a m
refused_step m p a e = step_is_move m p ∙ ap (moved m p) (sym e)

pub write_step : (m : Machine) (p : ℕ) (r : Runner) → Ok (Write r) ≡ move_of m p → step_of m p ≡ moved m p (Ok (Write r))
write_step m p r e = step_is_move m p ∙ ap (moved m p) (sym e)

pub turn_step : (m : Machine) (p : ℕ) (P : Process) → Ok (Turn P) ≡ move_of m p → step_of m p ≡ done (with_process m p P)
turn_step m p P e = step_is_move m p ∙ ap (moved m p) (sym e)

-- Who moves has passed the tests.
module _ (m : Machine) (p : ℕ) where
  -- rule 4: who writes runs, and has made no access at its level
  pub write-runs : (r : Runner) → move_of m p ≡ Ok (Write r) → Runs m p r × (r.made ≡ 0)
  write-runs r = go (runner_of m p) refl
    where
      turns : (v : ℕ) (q : Result Stage Answer) → turn v q ≡ Ok (Write r) → ⊥
      turns v (Ok s) e = cc
      turns v (Err a) e = cc

      by : (s : Runner) (z : Bool) → eqb s.made 0 ≡ z → Ok s ≡ runner_of m p
          → cond z (Ok (Write s)) (turn s.value (after_read m.n (row_of m s.level) s)) ≡ Ok (Write r) → Runs m p r × (r.made ≡ 0)
      by s true z e q =
          let h : s ≡ r = cc in
          subst (λ (s : Runner). Runs m p s × (s.made ≡ 0)) h (runs m p s e, eqb-true s.made 0 z)
      by s false z e q = absurd (turns s.value (after_read m.n (row_of m s.level) s) q)

      go : (q : Result Runner Answer) → q ≡ runner_of m p → move_in m q ≡ Ok (Write r) → Runs m p r × (r.made ≡ 0)
      go (Ok s) e q = by s (eqb s.made 0) refl e q
      go (Err a) e q = cc

  pub turn_valid : (P : Process) → move_of m p ≡ Ok (Turn P) → Valid m p
  turn_valid P = go (runner_of m p) refl
    where
      go : (q : Result Runner Answer) → q ≡ runner_of m p → move_in m q ≡ Ok (Turn P) → Valid m p
      go (Ok s) e q = (runs m p s e).valid
      go (Err a) e q = cc

  -- who writes is in place
  pub write_in_place : (r : Runner) → Ok (Write r) ≡ move_of m p → InPlace p r
  write_in_place r e = runs_in_place m p r (write-runs r (sym e)).0

pub ruleset step_laws = (refused_step, write_step, turn_step, write_in_place)
