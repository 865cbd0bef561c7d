-- What the writer writes of a process is what a look at it shows.
use Prim.Native.Nat.{ℕ, ◌+◌, ◌-◌, ◌≤◌}
use mathlib.Core.Bool.{Bool, true, false, cond, true≢false}
use mathlib.Core.Path.{◌≡◌, refl, sym, ap, ◌∙◌}
use native.Mathlib.Omega.{arith}
use lib.ListN.{get_or}
use Rattle.sets.specs.Members.{has}
use Rattle.rules.specs.declared.Stage.{Stage}
use Rattle.rules.specs.declared.Stage.TheVariants.{Absent, Running, Finished, Crashed}
use Rattle.rules.specs.declared.Standing.{Standing}
use Rattle.rules.specs.declared.Sight.{Sight}
use Rattle.rules.specs.declared.Machine.{Machine}
use Rattle.rules.specs.Shape.{shaped}
use Rattle.rules.specs.Stands.{stage_of, cell_in}
use Rattle.rules.specs.State.{finished, level_of}
use Rattle.rules.specs.Calls.{standing_of, view_of, looked, look_of}
use Rattle.rules.proofs.Laws.Shape.{shaped_record}
use Rattle.rules.proofs.Laws.Looks.{look_valid, row_values_at}
use Rattle.replays.specs.Writes.{views_of}
use Rattle.replays.specs.Promises.{AsLooked, EveryViewLooked}
use Rattle.replays.proofs.Views.{owned, seen, valued}
use Rattle.replays.proofs.RoundTrip.{owner_known, owner_below}

-- finished is what the standing says
abbrev is_finished : Standing → Bool
is_finished Standing.Absent = false
is_finished Standing.Running = false
is_finished Standing.Finished = true
is_finished Standing.Crashed = false

stands : (s : Stage) → finished s ≡ true → standing_of s ≡ Standing.Finished
stands Absent e = absurd (true≢false (sym e))
stands (Running x k f) e = absurd (true≢false (sym e))
stands (Finished x w) e = refl
stands (Crashed x k f) e = absurd (true≢false (sym e))

finishes : (s : Stage) → is_finished (standing_of s) ≡ finished s
finishes Absent = refl
finishes (Running x k f) = refl
finishes (Finished x w) = refl
finishes (Crashed x k f) = refl

as_looked : (m : Machine) → shaped m ≡ true → (i : ℕ) → 1 ≤ i → i ≤ m.n → AsLooked m i
as_looked m e i low high =
    let top : i ≤ 32 = omega (arith, (shaped_record m e).most) in
    let s = stage_of m i in
    let l : look_of m i ≡ looked m s = look_valid m i (record { shape = e; low = low; high = high }) in
    record {
      has_view = (
        λ h. ap (λ (r : Sight). r.standing) l ∙ stands s (sym (owned m i low top) ∙ h),
        λ h. owned m i low top ∙ sym (finishes s) ∙ ap is_finished (sym (ap (λ (r : Sight). r.standing) l) ∙ h),
      );
      set = seen m i low top ∙ sym (ap (λ (r : Sight). r.view) l);
      values = λ j below above.
          let d : j ≡ 1 + (j - 1) = omega arith in
          valued m i low top j below above
          ∙ ap (λ (k : ℕ). cond (has (view_of s) k) (cell_in m.values (level_of s) k) 0) d
          ∙ sym (row_values_at m.values (level_of s) (view_of s) 1 32 (j - 1) (omega arith))
          ∙ sym (ap (λ (r : Sight). get_or r.values (j - 1) 0) l);
    }

pub every_view_looked : EveryViewLooked
unfolding views_of
every_view_looked m e =
    let S = shaped_record m e in
    record { processes = refl; each = as_looked m e; no_other = λ i h. ((owner_known m S i h).0, owner_below m S i h) }
