-- Reading record by record: what one turn does to what is left to read. `turns` is enough as long as it is more than the bytes left.
use Prim.Native.Nat.{ℕ, zero, suc, ◌+◌, ◌*◌, ◌≤◌, ◌<◌}
use mathlib.Core.Path.{◌≡◌, refl, ap, ◌∙◌}
use mathlib.Core.List.{List}
use native.Mathlib.Omega.{arith}
use lib.ListN.{length}
use Rattle.std.specs.Prelude.{None, Ok, Err}
use Rattle.sets.specs.Members.{size}
use Rattle.formats.specs.Records.{AtPlace}
use Rattle.formats.specs.declared.FileAnswer.{FileAnswer}
use Rattle.formats.specs.declared.ViewRecord.{ViewRecord}
use Rattle.formats.specs.declared.Views.{Views}
use Rattle.formats.specs.ViewFile.{tested_at, with_view, refused_at, read_whole, read_next, read_from}
use Rattle.formats.proofs.Reading.{View}

-- the turns that are left after one
record Turn (turns : ℕ) (s : List ℕ) (at : ℕ) (v : Views) : Type 0 where
  left : ℕ
  enough : length s ≤ at + left
  step : read_from turns s at v ≡ read_next s at v (tested_at s at v.n v.own) (read_from left s)

turn : (turns : ℕ) (s : List ℕ) (at : ℕ) (v : Views) → at ≤ length s → length s < at + turns → Turn turns s at v
unfolding read_from
turn zero s at v h l = let z : 1 ≤ 0 = omega arith in absurd (omega arith)
turn (suc k) s at v h l = record { left = k; enough = omega arith; step = refl }

-- the same once it is known what stands there
turned : (turns : ℕ) (s : List ℕ) (at : ℕ) (v : Views) (r : AtPlace ViewRecord) (t : Turn turns s at v) → tested_at s at v.n v.own ≡ r
    → read_from turns s at v ≡ read_next s at v r (read_from t.left s)
turned turns s at v r t e = t.step ∙ ap (λ (x : AtPlace ViewRecord). read_next s at v x (read_from t.left s)) e

module _ (turns : ℕ) (s : List ℕ) (at : ℕ) (v : Views) (h : at ≤ length s) (l : length s < at + turns) where
  pub read_end : tested_at s at v.n v.own ≡ Ok None → read_from turns s at v ≡ read_whole s v
  read_end e = turned turns s at v (Ok None) (turn turns s at v h l) e

  pub read_fault : (a : FileAnswer) → tested_at s at v.n v.own ≡ Err a → read_from turns s at v ≡ refused_at s a at
  read_fault a e = turned turns s at v (Err a) (turn turns s at v h l) e

  pub read_view : (p w : ℕ) → tested_at s at v.n v.own ≡ View p w
      → (left : ℕ) × (length s < at + (7 + 4 * size w) + left) × (read_from turns s at v ≡ read_from left s (at + (7 + 4 * size w)) (with_view s at v p w))
  read_view p w e =
      let t : Turn turns s at v = turn turns s at v h l in
      let more : length s < at + (7 + 4 * size w) + t.left = omega (arith, t.enough) in
      (t.left, more, turned turns s at v (View p w) t e)
