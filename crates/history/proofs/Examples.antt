-- The printed run, computed on the world of Fig. 8.16, which the machine follows.
use mathlib.Core.Path.{◌≡◌, refl, ap, ◌∙◌}
use mathlib.Core.Bool.{Bool, true, false}
use mathlib.Core.List.{List, [], ◌∷◌}
use Prim.Native.Nat.{ℕ, ◌≤◌}
use lib.Dec.{lit≤}
use Rattle.rules.specs.Calls.{fresh}
use Rattle.world.specs.Calls.{leaves, counts, ever, deposits}
use Rattle.world.specs.Counts.{admits}
use Rattle.world.specs.World.{World, start, world_taker}
use Rattle.world.proofs.Follows.{same-counts, same-deposits, same-admits}
use Rattle.history.specs.Runs.{Call, enters, machine_taker, runs, tally, accepted_step_of, accepted_step, is_accepted, is_refused, reached, given, has_entered}
use Rattle.history.specs.Figure.{Address, Pair, Code, collect, pairs, rec_update_snapshot, figure}
use Rattle.history.specs.AsWorld.{program_of, world_of}
use Rattle.history.specs.Demand.{figure_runs, begun}
use Rattle.history.specs.Examples.{printed, PrintedCounts, PrintedLevels, PrintedEntered, PrintedViews}
use Rattle.history.proofs.World.{OfRuns, machine_follows, of_runs, fresh_world, same_remains}
use Rattle.history.proofs.Demand.{reached_is_begun}

abbrev F : World Address (List Pair)
F = start (figure 2)

counted : (test : Call → Bool → Bool) (k : ℕ) → counts (world_taker (figure 2)) test F printed ≡ k → tally test (fresh 2) printed ≡ k
counted test k e =
    same-counts machine_taker (world_taker (figure 2)) world_of (OfRuns 2) (machine_follows 2) test (fresh 2) (of_runs 2 (lit≤ tt) (lit≤ tt)) printed
    ∙ ap (λ w. counts (world_taker (figure 2)) test w printed) (fresh_world 2 (lit≤ tt) (lit≤ tt)) ∙ e

deposited : (p v : ℕ) → deposits (world_taker (figure 2)) F printed p ≡ v → given 2 printed p ≡ v
deposited p v e =
    same-deposits machine_taker (world_taker (figure 2)) world_of (OfRuns 2) (machine_follows 2) (fresh 2) (of_runs 2 (lit≤ tt) (lit≤ tt)) printed p
    ∙ ap (λ w. deposits (world_taker (figure 2)) w printed p) (fresh_world 2 (lit≤ tt) (lit≤ tt)) ∙ e

entered_by : (cs : List Call) (p : ℕ) (b : Bool) → admits (world_taker (figure 2)) F cs p ≡ b → has_entered 2 cs p ≡ b
entered_by cs p b e =
    same-admits machine_taker (world_taker (figure 2)) world_of (OfRuns 2) (machine_follows 2) (fresh 2) (of_runs 2 (lit≤ tt) (lit≤ tt)) cs p
    ∙ ap (λ w. admits (world_taker (figure 2)) w cs p) (fresh_world 2 (lit≤ tt) (lit≤ tt)) ∙ e

left : (p : ℕ) (P : Code) → 1 ≤ p → p ≤ 2 → (figure_runs 2 printed).remains p ≡ P → program_of (runs 2 printed) p ≡ P
left p P lp hp e = same_remains 2 (lit≤ tt) (lit≤ tt) printed p lp hp ∙ e

level : (x p : ℕ) (b : Bool) → 1 ≤ x → 1 ≤ p → p ≤ 2 → begun 2 printed x p ≡ b → reached 2 printed x p ≡ b
level x p b lx lp hp e = reached_is_begun 2 (lit≤ tt) (lit≤ tt) printed x p lx lp hp ∙ e

pub printed_counts : PrintedCounts
unfolding leaves counts collect pairs rec_update_snapshot
printed_counts =
    record {
      accepted = counted is_accepted 11 refl;
      refused = counted is_refused 1 refl;
      accesses = counted accepted_step 9 refl;
      one = counted (accepted_step_of 1) 6 refl;
      two = counted (accepted_step_of 2) 3 refl;
      three = counted (accepted_step_of 3) 0 refl;
    }

pub printed_levels : PrintedLevels
unfolding leaves ever collect pairs rec_update_snapshot
printed_levels =
    record {
      one_at_2 = level 2 1 true (lit≤ tt) (lit≤ tt) (lit≤ tt) refl;
      two_at_2 = level 2 2 true (lit≤ tt) (lit≤ tt) (lit≤ tt) refl;
      one_at_1 = level 1 1 true (lit≤ tt) (lit≤ tt) (lit≤ tt) refl;
      two_at_1 = level 1 2 false (lit≤ tt) (lit≤ tt) (lit≤ tt) refl;
    }

pub printed_entered : PrintedEntered
unfolding leaves admits collect pairs rec_update_snapshot
printed_entered =
    record {
      one = entered_by printed 1 true refl;
      two = entered_by printed 2 true refl;
      three = entered_by printed 3 false refl;
      refused = entered_by (enters 3 7 ∷ []) 3 false refl;
    }

pub printed_views : PrintedViews
unfolding leaves deposits collect pairs rec_update_snapshot
printed_views =
    record {
      one_given = deposited 1 7 refl;
      two_given = deposited 2 9 refl;
      nobody_given = deposited 3 0 refl;
      one = left 1 _ (lit≤ tt) (lit≤ tt) refl;
      two = left 2 _ (lit≤ tt) (lit≤ tt) refl;
    }
