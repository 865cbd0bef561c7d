-- The file that carries the views of a machine, as the writer stores it.
use Prim.Native.Nat.{ℕ, ◌≤◌}
use mathlib.Core.Bool.{Bool, true, false, cond}
use mathlib.Core.Path.{◌≡◌, refl, sym, ap, ap₂, ◌∙◌}
use mathlib.Core.List.{List, [], ◌∷◌, ◌++◌}
use native.Mathlib.Omega.{arith}
use Rattle.text.proofs.Parts.{joined_ext}
use Rattle.sets.specs.Members.{has}
use Rattle.rules.specs.declared.Stage.{Stage}
use Rattle.rules.specs.declared.Stage.TheVariants.{Absent, Running, Finished, Crashed}
use Rattle.rules.specs.declared.Machine.{Machine}
use Rattle.rules.proofs.Laws.Shape.{shaped_record}
use Rattle.rules.specs.Stands.{stage_of, cell_of}
use Rattle.rules.specs.State.{finished, level_of}
use Rattle.rules.specs.Calls.{view_of}
use Rattle.formats.specs.Records.{word_bytes}
use Rattle.formats.specs.Views.{owns, seen_by, value_by}
use Rattle.formats.specs.ViewFile.{value_bytes, view_bytes, file_of}
use Rattle.replays.specs.Writes.{views_of, bytes_of}
use Rattle.replays.proofs.Views.{owned, seen, valued}
use Rattle.orders.specs.Coded.Places.{member_bytes, record_bytes, stage_bytes, part_of, machine_bytes}

once : (b : Bool) (x : ℕ) → cond b (word_bytes (cond b x 0)) [] ≡ cond b (word_bytes x) []
once true x = refl
once false x = refl

module _ (m : Machine) (i : ℕ) (low : 1 ≤ i) (high : i ≤ 32) where
  -- the record of a process that finished at level x with the view w
  value_bytes_lem : (x w : ℕ) → stage_of m i ≡ Finished x w → (j : ℕ) → 1 ≤ j → j ≤ 32 → value_bytes (views_of m) i j ≡ member_bytes m.values x w j
  value_bytes_lem x w e j below above =
      let s : seen_by (views_of m) i ≡ w = seen m i low high ∙ ap view_of e in
      let v : value_by (views_of m) i j ≡ cond (has w j) (cell_of m x j) 0
      = valued m i low high j below above ∙ ap (λ (s : Stage). cond (has (view_of s) j) (cell_of m (level_of s) j) 0) e in
      ap₂ (λ (a b : ℕ). cond (has a j) (word_bytes b) []) s v ∙ once (has w j) (cell_of m x j)

  shown : (x w : ℕ) → stage_of m i ≡ Finished x w → view_bytes (views_of m) i ≡ record_bytes m.values i x w
  unfolding view_bytes record_bytes
  shown x w e =
      ap₂ (λ (a : ℕ) (l : List ℕ). 86 ∷ 87 ∷ i ∷ word_bytes a ++ l) (seen m i low high ∙ ap view_of e)
      (joined_ext 1 32 (value_bytes (views_of m) i) (member_bytes m.values x w) (λ j below above. value_bytes_lem x w e j below (omega arith)))

  -- what a file gives for a process
  listed : (s : Stage) → stage_of m i ≡ s → cond (owns (views_of m) i) (view_bytes (views_of m) i) [] ≡ stage_bytes m.values i s
  listed Absent e = ap (λ (b : Bool). cond b (view_bytes (views_of m) i) []) (owned m i low high ∙ ap finished e)
  listed (Running x k f) e = ap (λ (b : Bool). cond b (view_bytes (views_of m) i) []) (owned m i low high ∙ ap finished e)
  listed (Crashed x k f) e = ap (λ (b : Bool). cond b (view_bytes (views_of m) i) []) (owned m i low high ∙ ap finished e)
  listed (Finished x w) e =
      ap (λ (b : Bool). cond b (view_bytes (views_of m) i) []) (owned m i low high ∙ ap finished e) ∙ shown x w e

-- The file as the writer stores it.
pub bytes_stored : (m : Machine) → machine_bytes m ≡ bytes_of m
unfolding bytes_of machine_bytes file_of views_of
bytes_stored m =
    ap (λ (l : List ℕ). 77 ∷ 78 ∷ m.n ∷ l)
    (joined_ext 1 32 (part_of m) (λ i. cond (owns (views_of m) i) (view_bytes (views_of m) i) [])
    (λ i low high. sym (listed m i low (omega arith) (stage_of m i) refl)))

pub ruleset stored = (bytes_stored, shaped_record)
