-- Demand 3 of Fig. 8.16, from the machine's: the machine is the figure's world after every list of calls.
use mathlib.Core.Path.{◌≡◌, refl, sym, ap, subst, ◌∙◌}
use mathlib.Core.Logic.{◌⊎◌, inl, inr, ◌≢◌}
use mathlib.Core.Bool.{Bool, true, false, ◌||◌, cond, true≢false, false≢true}
use mathlib.Core.List.{List, [], ◌∷◌, ◌++◌, Memᴰ}
use Prim.Native.Nat.{ℕ, zero, suc, ◌+◌, ◌-◌, ◌*◌, ◌≤◌}
use native.Mathlib.Omega.{arith}
use lib.Dec.{eqb}
use lib.ListN.{length, replicate}
use borrow.Author.Tests.{eqb-true}
use Rattle.sets.specs.Immediate.{Inside, Immediate}
use Rattle.sets.proofs.Laws.{same_truth, count_mono}
use Rattle.rules.specs.declared.Stage.{Stage}
use Rattle.rules.specs.declared.Stage.TheVariants.{Absent, Running, Finished, Crashed}
use Rattle.rules.specs.declared.Process.{Process}
use Rattle.rules.specs.declared.Machine.{Machine}
use Rattle.rules.proofs.Laws.Did.{what_calls_did}
use Rattle.rules.proofs.Laws.Effects.{effects_of_calls}
use Rattle.rules.proofs.Laws.Keeps.{every_state_meets}
use Rattle.rules.proofs.Laws.Small.{or_true, or_left, or_right}
use Rattle.rules.specs.Stands.{stage_of, value_of, row_of, entered}
use Rattle.rules.specs.State.{finished, crashed, level_of}
use Rattle.rules.specs.Shape.{ShapedStage}
use Rattle.rules.specs.Calls.{fresh}
use Rattle.rules.specs.Statements.{Meets}
use Rattle.world.specs.Programs.{returns, halted, accesses}
use Rattle.world.specs.Calls.{Call, steps, crashes, counts, ever, deposits}
use Rattle.world.specs.World.{among, world_taker}
use Rattle.world.proofs.Follows.{same-counts, same-ever, same-deposits}
use Rattle.history.specs.Runs.{machine_taker, runs, accepted_step_of, accepted_steps, at_level, reached, given, after}
use Rattle.history.specs.Figure.{Pair, Code, figure}
use Rattle.history.specs.AsWorld.{program_at, program_of, world_of}
use Rattle.history.specs.Views.{Has, View}
use Rattle.history.specs.Theorems.{ReachedIsBegun}
use Rattle.history.specs.Demand.{figure_runs, accesses_made, deposited, in_row, begun, Returned, InView, EveryRunDemandThree}
use Rattle.history.proofs.Moves.{meets_after, every_state_shaped, nobody_yet, Stepped, writing, finding, ending, falling, stepped, by_call}
use Rattle.history.proofs.Levels.{at_most_x_reach_x}
use Rattle.history.proofs.World.{OfRuns, machine_follows, of_runs, fresh_world, same_remains, every_run_is_figure, among_of, low_of, high_of}
use Rattle.history.proofs.Figure.{rec_writes, running_reads, program_goes, view_is_returned}
use Rattle.history.proofs.Counts.{exact_steps, enough_steps}
use Rattle.history.proofs.Snapshot.{three_properties}
use Rattle.history.proofs.Alone.{wait_free}

-- two ways for a program to end
halts : (l : List Pair) → ◌≡◌ {A = Code} halted (returns l) → ⊥
halts l e = let z : ◌≡◌ {A = ℕ} 0 1 = cc in omega arith

same_list : (l k : List Pair) → ◌≡◌ {A = Code} (returns l) (returns k) → l ≡ k
same_list l k e = cc

module _ (n : ℕ) (lo : 1 ≤ n) (hi : n ≤ 32) (cs : List Call) where
  abbrev m : Machine
  m = runs n cs

  M : Meets n m
  M = every_state_shaped n lo hi cs

  same_made : (p : ℕ) → accepted_steps n cs p ≡ accesses_made n cs p
  same_made p =
      same-counts machine_taker (world_taker (figure n)) world_of (OfRuns n) (machine_follows n) (accepted_step_of p) (fresh n) (of_runs n lo hi) cs
      ∙ ap (λ w. counts (world_taker (figure n)) (accepted_step_of p) w cs) (fresh_world n lo hi)

  same-given : (p : ℕ) → given n cs p ≡ deposited n cs p
  same-given p =
      same-deposits machine_taker (world_taker (figure n)) world_of (OfRuns n) (machine_follows n) (fresh n) (of_runs n lo hi) cs p
      ∙ ap (λ w. deposits (world_taker (figure n)) w cs p) (fresh_world n lo hi)

  -- whoever has something left to do, or has returned, is one of the processes
  someone : (p : ℕ) → (figure_runs n cs).remains p ≢ halted → (1 ≤ p) × (p ≤ n)
  someone p some = go (among n p) refl
    where
      e : (world_of m).remains p ≡ (figure_runs n cs).remains p
      e = ap (λ w. w.remains p) (every_run_is_figure n lo hi cs).world

      go : (b : Bool) → among n p ≡ b → (1 ≤ p) × (p ≤ n)
      go true i = (low_of n p i, high_of n p i)
      go false i = absurd (some (sym e ∙ ap (λ k. cond (among k p) (program_of m p) halted) M.size ∙ ap (λ b. cond b (program_of m p) halted) i))

  -- a process has returned exactly if it has finished
  returned_finished : (p : ℕ) (l : List Pair) → 1 ≤ p → p ≤ n → (s : Stage) → stage_of m p ≡ s → ShapedStage m.n (row_of m) s
      → program_at m p s (value_of m p) ≡ returns l → finished s ≡ true
  returned_finished p l lp hp Absent e g r = absurd (halts l r)
  returned_finished p l lp hp (Running x k f) e g r =
      absurd (true≢false (sym (program_goes m p x k f (value_of m p) g) ∙ ap accesses r))
  returned_finished p l lp hp (Finished x w) e g r = refl
  returned_finished p l lp hp (Crashed x k f) e g r = absurd (halts l r)

  has_returned : (p : ℕ) (l : List Pair) → (figure_runs n cs).remains p ≡ returns l → Has m p
  has_returned p l r =
      let i = someone p (λ z. halts l (sym z ∙ r)) in
      let sh = M.shape in
      record {
        low = i.0;
        high = subst (λ k. p ≤ k) (sym M.size) i.1;
        ended = returned_finished p l i.0 i.1 (stage_of m p) refl (sh.process p i.0 (omega (arith, i.1))).stage
            (same_remains n lo hi cs p i.0 i.1 ∙ r);
      }

  -- what the figure returns is the machine's view
  view_of : (p : ℕ) (h : Has m p) → (figure_runs n cs).remains p ≡ returns (view_is_returned m M.shape p h).list
  view_of p h = sym (same_remains n lo hi cs p h.low (subst (λ k. p ≤ k) M.size h.high)) ∙ (view_is_returned m M.shape p h).returned

  returned_of : (p : ℕ) → Has m p → Returned n cs p
  returned_of p h = record { view = (view_is_returned m M.shape p h).list; there = view_of p h }

  pair_in : (p j v : ℕ) → View m p j v → Has m p → InView n cs p j v
  unfolding returned_of
  pair_in p j v s h = record { of = returned_of p h; pair = ((view_is_returned m M.shape p h).pairs j v).0 s }

  pair_out : (p j v : ℕ) → InView n cs p j v → View m p j v
  pair_out p j v i =
      let h : Has m p = has_returned p i.of.view i.of.there in
      let e : i.of.view ≡ (view_is_returned m M.shape p h).list
      = same_list i.of.view (view_is_returned m M.shape p h).list (sym i.of.there ∙ view_of p h) in
      ((view_is_returned m M.shape p h).pairs j v).1 (subst (Memᴰ (record { process = j; value = v })) e i.pair)

  has_of : {p : ℕ} → Returned n cs p → Has m p
  has_of {p} r = has_returned p r.view r.there

  properties : Immediate (Returned n cs) (InView n cs) (deposited n cs)
  properties =
      record {
        self_inclusion = λ i r. pair_in i i (deposited n cs i) (subst (View m i i) (same-given i) (I.self_inclusion i (has_of r))) (has_of r);
        containment = λ i j r s. both i j r s (I.containment i j (has_of r) (has_of s));
        simultaneity = λ i j r s a b.
            let e = I.simultaneity i j (has_of r) (has_of s) (subst (View m i j) (sym (same-given j)) (pair_out i j (deposited n cs j) a))
            (subst (View m j i) (sym (same-given i)) (pair_out j i (deposited n cs i) b)) in
            (inside i j s e.0, inside j i r e.1);
      }
    where
      I : Immediate (Has m) (View m) (given n cs)
      I = three_properties n lo hi cs

      inside : (i j : ℕ) → Returned n cs j → Inside (View m i) (View m j) → Inside (InView n cs i) (InView n cs j)
      inside i j s f k v w = pair_in j k v (f k v (pair_out i k v w)) (has_of s)

      both : (i j : ℕ) → Returned n cs i → Returned n cs j → Inside (View m i) (View m j) ⊎ Inside (View m j) (View m i)
          → Inside (InView n cs i) (InView n cs j) ⊎ Inside (InView n cs j) (InView n cs i)
      both i j r s (inl f) = inl (inside i j s f)
      both i j r s (inr f) = inr (inside j i r f)

  exact : (p : ℕ) (r : Returned n cs p) → accesses_made n cs p ≡ (n + 1) * (n - length r.view + 1)
  exact p r =
      let h = has_of r in
      let v = view_is_returned m M.shape p h in
      let e : r.view ≡ v.list = same_list r.view v.list (sym r.there ∙ view_of p h) in
      sym (same_made p) ∙ exact_steps n lo hi cs p h
      ∙ ap (λ s. (n + 1) * (n - s + 1)) (sym v.count ∙ sym (ap length e))

  finished_returned : (p : ℕ) → 1 ≤ p → p ≤ n → finished (stage_of m p) ≡ true → Returned n cs p
  finished_returned p lp hp e = returned_of p (record { low = lp; high = subst (λ k. p ≤ k) (sym M.size) hp; ended = e })

  enough : (p : ℕ) → 1 ≤ p → p ≤ n → n * (n + 1) ≤ accesses_made n cs p → Returned n cs p
  enough p lp hp h = finished_returned p lp hp (enough_steps n lo hi cs p lp hp (subst (λ k. n * (n + 1) ≤ k) (sym (same_made p)) h))

-- a process that is not halted has entered and has not crashed
going : (m : Machine) (p : ℕ) (s : Stage) → program_at m p s (value_of m p) ≢ halted → (entered s ≡ true) × (crashed s ≡ false)
going m p Absent ne = absurd (ne refl)
going m p (Running x k f) ne = (refl, refl)
going m p (Finished x w) ne = (refl, refl)
going m p (Crashed x k f) ne = absurd (ne refl)

nobody_waits : (n : ℕ) → 1 ≤ n → n ≤ 32 → (cs : List Call) (p : ℕ) → (figure_runs n cs).remains p ≢ halted → (k : ℕ)
    → n * (n + 1) ≤ accesses_made n cs p + k → Returned n (cs ++ replicate k (steps p)) p
nobody_waits n lo hi cs p some k h =
    let i = someone n lo hi cs p some in
    let g = going (runs n cs) p (stage_of (runs n cs) p) (λ z. some (sym (same_remains n lo hi cs p i.0 i.1) ∙ z)) in
    finished_returned n lo hi (cs ++ replicate k (steps p)) p i.0 i.1
    (wait_free n lo hi cs p i.0 i.1 g.0 g.1 k (subst (λ a. n * (n + 1) ≤ a + k) (sym (same_made n lo hi cs p)) h))

-- Levels. A process goes at level x while it runs there, and rests there once it has finished or crashed.
abbrev goes_at : ℕ → Stage → Bool
goes_at x Absent = false
goes_at x (Running y k f) = eqb y x
goes_at x (Finished y w) = false
goes_at x (Crashed y k f) = false

abbrev rests_at : ℕ → Stage → Bool
rests_at x Absent = false
rests_at x (Running y k f) = false
rests_at x (Finished y w) = eqb y x
rests_at x (Crashed y k f) = eqb y x

row_goes : (m : Machine) (p x : ℕ) (s : Stage) → ShapedStage m.n (row_of m) s → goes_at x s ≡ in_row x (program_at m p s (value_of m p))
row_goes m p x Absent g = refl
row_goes m p x (Running y zero f) g = sym (ap (in_row x) (rec_writes m.n p y (value_of m p) g.low))
row_goes m p x (Running y (suc k) f) g = sym (ap (in_row x) (running_reads m p y k f (value_of m p) g.accesses))
row_goes m p x (Finished y w) g = refl
row_goes m p x (Crashed y k f) g = refl

goes_there : (x : ℕ) (s : Stage) → goes_at x s ≡ true → eqb (level_of s) x ≡ true
goes_there x Absent t = absurd (false≢true t)
goes_there x (Running y k f) t = t
goes_there x (Finished y w) t = absurd (false≢true t)
goes_there x (Crashed y k f) t = absurd (false≢true t)

rests_there : (x : ℕ) (s : Stage) → rests_at x s ≡ true → eqb (level_of s) x ≡ true
rests_there x Absent t = absurd (false≢true t)
rests_there x (Running y k f) t = absurd (false≢true t)
rests_there x (Finished y w) t = t
rests_there x (Crashed y k f) t = t

there_cases : (x : ℕ) → 1 ≤ x → (s : Stage) → eqb (level_of s) x ≡ true → (goes_at x s ≡ true) ⊎ (rests_at x s ≡ true)
there_cases x lx Absent t = absurd (let z : 0 ≡ x = eqb-true 0 x t in omega arith)
there_cases x lx (Running y k f) t = inl t
there_cases x lx (Finished y w) t = inr t
there_cases x lx (Crashed y k f) t = inr t

module _ (n x p : ℕ) (lx : 1 ≤ x) (lp : 1 ≤ p) where
  -- whoever rests at a level after a call went there before it, or rested there
  rests_after : (m : Machine) → Meets n m → (c : Call) → rests_at x (stage_of (after m c) p) ≡ true
      → (goes_at x (stage_of m p) ≡ true) ⊎ (rests_at x (stage_of m p) ≡ true)
  rests_after m M =
      by_call m M.held p lp (λ c. rests_at x (stage_of (after m c) p) ≡ true → (goes_at x (stage_of m p) ≡ true) ⊎ (rests_at x (stage_of m p) ≡ true))
      (λ c e _ _ t. inr (ap (λ (P : Process). rests_at x P.stage) (sym e) ∙ t))
      (λ v a t. absurd (false≢true (sym (ap (rests_at x) (effects_of_calls.enter m M.held p v a).stage) ∙ t)))
      (λ a t. by_step (stepped m M.held p a) t)
      (λ a t.
      let d = (what_calls_did.crash m p a).1 in
      let e = effects_of_calls.crash m M.held p a in
      inl (ap (goes_at x) d.was ∙ ap (λ l. eqb l x) (sym (e.level ∙ ap level_of d.was)) ∙ rests_there x (stage_of (after m (crashes p)) p) t))
    where
      by_step : Stepped m (after m (steps p)) p → rests_at x (stage_of (after m (steps p)) p) ≡ true
          → (goes_at x (stage_of m p) ≡ true) ⊎ (rests_at x (stage_of m p) ≡ true)
      by_step (writing y f was now) t = absurd (false≢true (sym (ap (rests_at x) now) ∙ t))
      by_step (finding y k f was low high now) t = absurd (false≢true (sym (ap (rests_at x) now) ∙ t))
      by_step (ending y f was e now) t = inl (ap (goes_at x) was ∙ sym (ap (rests_at x) now) ∙ t)
      by_step (falling y f was ne two now) t = absurd (false≢true (sym (ap (rests_at x) now) ∙ t))

  abbrev goes : Machine → Bool
  goes m = goes_at x (stage_of m p)

  there_goes : (m : Machine) → Meets n m → (cs : List Call) → ever machine_taker (at_level x p) m cs ≡ true
      → (ever machine_taker goes m cs ≡ true) ⊎ (rests_at x (stage_of m p) ≡ true)
  unfolding ever
  there_goes m M [] t = there_cases x lx (stage_of m p) t
  there_goes m M (c ∷ cs) t =
      go (or_true (at_level x p m) (ever machine_taker (at_level x p) (after m c) cs) t) (there_goes (after m c) (meets_after n m M c) cs)
    where
      here : (goes m ≡ true) ⊎ (rests_at x (stage_of m p) ≡ true)
          → ((goes m || ever machine_taker goes (after m c) cs) ≡ true) ⊎ (rests_at x (stage_of m p) ≡ true)
      here (inl g) = inl (or_left (goes m) _ g)
      here (inr r) = inr r

      go : (at_level x p m ≡ true) ⊎ (ever machine_taker (at_level x p) (after m c) cs ≡ true)
          → (ever machine_taker (at_level x p) (after m c) cs ≡ true
          → (ever machine_taker goes (after m c) cs ≡ true) ⊎ (rests_at x (stage_of (after m c) p) ≡ true))
          → ((goes m || ever machine_taker goes (after m c) cs) ≡ true) ⊎ (rests_at x (stage_of m p) ≡ true)
      go (inl t) further = here (there_cases x lx (stage_of m p) t)
      go (inr t) further = later (further t)
        where
          later : (ever machine_taker goes (after m c) cs ≡ true) ⊎ (rests_at x (stage_of (after m c) p) ≡ true)
              → ((goes m || ever machine_taker goes (after m c) cs) ≡ true) ⊎ (rests_at x (stage_of m p) ≡ true)
          later (inl e) = inl (or_right (goes m) _ e)
          later (inr r) = here (rests_after m M c r)

  goes_reaches : (m : Machine) (cs : List Call) → ever machine_taker goes m cs ≡ true → ever machine_taker (at_level x p) m cs ≡ true
  unfolding ever
  goes_reaches m [] t = goes_there x (stage_of m p) t
  goes_reaches m (c ∷ cs) t = go (or_true (goes m) (ever machine_taker goes (after m c) cs) t) (goes_reaches (after m c) cs)
    where
      go : (goes m ≡ true) ⊎ (ever machine_taker goes (after m c) cs ≡ true)
          → (ever machine_taker goes (after m c) cs ≡ true → ever machine_taker (at_level x p) (after m c) cs ≡ true)
          → (at_level x p m || ever machine_taker (at_level x p) (after m c) cs) ≡ true
      go (inl g) further = or_left (at_level x p m) _ (goes_there x (stage_of m p) g)
      go (inr e) further = or_right (at_level x p m) _ (further e)

pub reached_is_begun : ReachedIsBegun
reached_is_begun n lo hi cs x p lx lp hp =
    same_truth (reached n cs x p) (ever machine_taker (goes n x p lx lp) (fresh n) cs) (λ t. first (there_goes n x p lx lp (fresh n) M cs t))
    (goes_reaches n x p lx lp (fresh n) cs)
    ∙ same-ever machine_taker (world_taker (figure n)) world_of (OfRuns n) (machine_follows n) (goes n x p lx lp) (λ w. in_row x (w.remains p)) rows
    (fresh n) (of_runs n lo hi) cs
    ∙ ap (λ w. ever (world_taker (figure n)) (λ w. in_row x (w.remains p)) w cs) (fresh_world n lo hi)
  where
    M : Meets n (fresh n)
    M = every_state_meets.starts n lo hi

    first : (ever machine_taker (goes n x p lx lp) (fresh n) cs ≡ true) ⊎ (rests_at x (stage_of (fresh n) p) ≡ true)
        → ever machine_taker (goes n x p lx lp) (fresh n) cs ≡ true
    first (inl e) = e
    first (inr r) = absurd (false≢true (sym (ap (λ (P : Process). rests_at x P.stage) (nobody_yet n p)) ∙ r))

    rows : (m : Machine) → OfRuns n m → goes_at x (stage_of m p) ≡ in_row x ((world_of m).remains p)
    rows m r =
        row_goes m p x (stage_of m p) (r.inv.meets.shape.process p lp (omega arith)).stage
        ∙ sym (ap (in_row x) (ap (λ b. cond b (program_of m p) halted) (among_of m.n p lp (subst (λ k. p ≤ k) (sym r.size) hp))))

pub every_run_demand_three : EveryRunDemandThree
every_run_demand_three n lo hi cs =
    record {
      levels = λ x lx hx.
          let most = at_most_x_reach_x n lo hi cs x lx hx in
          omega (
            arith,
            count_mono (begun n cs x) (reached n cs x) n (λ p lp hp t. reached_is_begun n lo hi cs x p lx lp hp ∙ t),
          );
      properties = properties n lo hi cs;
      exact = exact n lo hi cs;
      enough = enough n lo hi cs;
      nobody_waits = nobody_waits n lo hi cs;
    }
