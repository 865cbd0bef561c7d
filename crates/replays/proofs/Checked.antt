-- The checker accepts what is written of a state that a run or an order file leaves: the three properties of runs, carried over to the views of the file.
use Prim.Native.Nat.{ℕ, ◌^◌, ◌≤◌, ◌<◌}
use mathlib.Core.Bool.{Bool, true, false, ◌&&◌, cond}
use mathlib.Core.Path.{◌≡◌, refl, sym, ap, ◌∙◌, subst}
use mathlib.Core.Logic.{⊎_elim, inl, inr}
use mathlib.Core.List.{List, [], ◌∷◌}
use native.Mathlib.Omega.{arith}
use lib.Dec.{eqb}
use lib.ListN.{length}
use Rattle.std.specs.Prelude.{None}
use Rattle.sets.specs.Members.{has}
use Rattle.sets.specs.Immediate.{Immediate, Inside}
use Rattle.sets.proofs.Laws.{has-known}
use Rattle.rules.specs.declared.Machine.{Machine}
use Rattle.rules.specs.Stands.{stage_of, value_of}
use Rattle.rules.specs.State.{found_of}
use Rattle.rules.specs.Shape.{Words, Shaped}
use Rattle.rules.specs.Calls.{accepted, fresh, enter_of, view_of}
use Rattle.rules.proofs.Laws.Shape.{record_shaped}
use Rattle.history.specs.Runs.{Call, enters, steps, crashes, after, runs, given}
use Rattle.history.proofs.Moves.{given_from}
use Rattle.history.specs.Views.{Has, View}
use Rattle.history.proofs.Given.{value_given}
use Rattle.formats.specs.declared.ViewsRead.{ViewsRead}
use Rattle.formats.specs.Numbers as numbers
use Rattle.formats.specs.Records.{header_of}
use Rattle.formats.specs.Views.{seen_by}
use Rattle.formats.specs.ViewFile.{read_of, read_whole}
use Rattle.formats.specs.Promises.{Bytes}
use Rattle.findings.specs.Findings.{check_of}
use Rattle.findings.specs.Verdict.{judged}
use Rattle.findings.specs.Properties as properties
use Rattle.findings.proofs.Accepts.{accepts_exactly}
use Rattle.findings.proofs.FirstBreak.{yes_is_no_finding}
use Rattle.findings.proofs.Verdicts.{read_then_checked}
use Rattle.replays.specs.Replays.{replay_of, calls_of, processes_of}
use Rattle.replays.specs.OrderFile.{FileCalls}
use Rattle.replays.specs.Writes.{views_of, bytes_of}
use Rattle.replays.specs.Promises.{Accepted, EveryRunAccepted, EveryFileAccepted, DemandThree}
use Rattle.replays.proofs.Views.{seen}
use Rattle.replays.proofs.RoundTrip.{view-found, owner_known, owner_finished, owner_below, named_below, value_named, written_reads_back}
use Rattle.replays.proofs.FileOfCalls.{file_calls}
use Rattle.replays.proofs.Promises.{few_processes, demand_three, every_file_counted, every_file_demand_three}
use Rattle.world.specs.Calls.{deposits}

-- The views of a machine and those of its file are the same pairs.
module _ (m : Machine) (S : Shaped m) where
  has_of : (i : ℕ) → properties.Has (views_of m) i → Has m i
  has_of i h = record { low = (owner_known m S i h).0; high = owner_below m S i h; ended = owner_finished m S i h }

  module _ (i : ℕ) (h : Has m i) where
    top : i ≤ 32
    top = omega (arith, h.high, S.most)

    -- the set of a finished process is its view
    set_is : seen_by (views_of m) i ≡ found_of (stage_of m i)
    set_is = seen m i h.low top ∙ view-found (stage_of m i) h.ended

    in_view : (j : ℕ) → has (found_of (stage_of m i)) j ≡ true → has (view_of (stage_of m i)) j ≡ true
    in_view j e = ap (λ (w : ℕ). has w j) (view-found (stage_of m i) h.ended) ∙ e

    pair-view : (j x : ℕ) → properties.Pair (views_of m) i j x → View m i j x
    pair-view j x p =
        let e : has (found_of (stage_of m i)) j ≡ true = ap (λ (w : ℕ). has w j) (sym set_is) ∙ p.named in
        record {
          low = (has-known (found_of (stage_of m i)) j e).0;
          high = named_below m S i h.low top j (in_view j e);
          seen = e;
          held = sym (value_named m S i h.low top j (in_view j e)) ∙ p.holds;
        }

    view-pair : (j x : ℕ) → View m i j x → properties.Pair (views_of m) i j x
    view-pair j x v =
        record {
          named = ap (λ (w : ℕ). has w j) set_is ∙ v.seen;
          holds = value_named m S i h.low top j (in_view j v.seen) ∙ v.held;
        }

  module _ (g : ℕ → ℕ) (I : Immediate (Has m) (View m) g) where
    -- what a process deposited is its value in its own view
    given_is : (i : ℕ) → Has m i → properties.own_value (views_of m) i ≡ g i
    given_is i h = (view-pair i h i (g i) (I.self_inclusion i h)).holds

    inside : (i j : ℕ) (hi : Has m i) (hj : Has m j) → Inside (View m i) (View m j)
        → Inside (properties.Pair (views_of m) i) (properties.Pair (views_of m) j)
    inside i j hi hj f k x p = view-pair j hj k x (f k x (pair-view i hi k x p))

    pub obeys : properties.Obeys (views_of m)
    obeys =
        record {
          self_inclusion = λ i a.
              let h = has_of i a in
              subst (properties.Pair (views_of m) i i) (sym (given_is i h)) (view-pair i h i (g i) (I.self_inclusion i h));
          containment = λ i j a b.
              let hi = has_of i a in
              let hj = has_of j b in
              ⊎_elim (λ f. inl (inside i j hi hj f)) (λ f. inr (inside j i hj hi f)) (I.containment i j hi hj);
          simultaneity = λ i j a b p q.
              let hi = has_of i a in
              let hj = has_of j b in
              let s = I.simultaneity i j hi hj (subst (View m i j) (given_is j hj) (pair-view i hi j (properties.own_value (views_of m) j) p))
              (subst (View m j i) (given_is i hi) (pair-view j hj i (properties.own_value (views_of m) i) q)) in
              (inside i j hi hj s.0, inside j i hj hi s.1);
        }

    pub yes : check_of (views_of m) ≡ None
    yes = (yes_is_no_finding (views_of m)).1 ((accepts_exactly (views_of m)).1 obeys)

-- The values that an order file gives are 32-bit numbers.
given_if : (b : Bool) (v o : ℕ) → v < 2 ^ 32 → o < 2 ^ 32 → cond b v o < 2 ^ 32
given_if true v o p q = p
given_if false v o p q = q

given_below : (m : Machine) (cs : List Call) (p : ℕ) → FileCalls cs → given_from m cs p < 2 ^ 32
unfolding deposits
given_below m [] p w = omega arith
given_below m (enters q v ∷ cs) p w =
    given_if (eqb q p && accepted (enter_of m q v)) v (given_from (after m (enters q v)) cs p) w.0.1 (given_below (after m (enters q v)) cs p w.1)
given_below m (steps q ∷ cs) p w = given_below (after m (steps q)) cs p w.1
given_below m (crashes q ∷ cs) p w = given_below (after m (crashes q)) cs p w.1

-- so the state that a file leaves holds 32-bit numbers
pub file_words : (s : List ℕ) → Bytes s → (budget : ℕ) → Words (replay_of s budget).machine
file_words s b budget i low high =
    let f = few_processes s (header_of s) refl in
    omega (
      arith,
      ap (λ (m : Machine). value_of m i) (every_file_counted s budget).state,
      value_given (processes_of s) f.0 f.1 (calls_of s budget) i low high,
      given_below (fresh (processes_of s)) (calls_of s budget) i (file_calls s b budget (header_of s) refl),
    )

-- the properties of a run are those of its file
accepts : (n : ℕ) (cs : List Call) (m : Machine) → DemandThree n cs m → Words m → Accepted m
accepts n cs m d w =
    let ok : check_of (views_of m) ≡ None = yes m d.shape.shape (given n cs) d.properties in
    let back : read_of (bytes_of m) ≡ read_whole (bytes_of m) (views_of m) = written_reads_back m d.shape.held w (record_shaped m d.shape.shape) in
    record {
      checked = ok;
      verdict = read_then_checked (bytes_of m) (ap (λ (r : ViewsRead). numbers.is_whole r.answer) back)
          ∙ ap (λ (r : ViewsRead). judged (length (bytes_of m)) (check_of r.views)) back
          ∙ ap (judged (length (bytes_of m))) ok;
    }

pub every_run_accepted : EveryRunAccepted
every_run_accepted n low high cs w = accepts n cs (runs n cs) (demand_three n low high cs) w

pub every_file_accepted : EveryFileAccepted
every_file_accepted f budget =
    let s = f.content in
    accepts (processes_of s) (calls_of s budget) (replay_of s budget).machine (every_file_demand_three s budget) (file_words s f.bytes budget)
