-- `view_values` meets its contract: below i the array holds what the registers show.
use Rattle.std.proofs.Common.{◌≡◌, ℕ, ◌+◌, ◌-◌, ◌*◌, ◌<◌, cond, length, get_or}
use Rattle.sets.specs.Members.{has}
use Rattle.sight.proofs.view_values.Given as goal

abbrev pub invariant-loop-i : goal.invariant-loop-i
invariant-loop-i l =
    (length l.values ≡ 32) × ((k : ℕ) → k < l.i → get_or l.values k 0 ≡ cond (has l.view (k + 1)) (get_or l.m.values (32 * (l.level - 1) + k) 0) 0)
