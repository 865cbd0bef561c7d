-- What holds before each turn of the reader's two loops, and what a turn does to it.
use Prim.Native.Nat.{ℕ, ◌+◌, ◌-◌, ◌*◌, ◌≤◌, ◌<◌}
use mathlib.Core.Bool.{true, false}
use mathlib.Core.Path.{◌≡◌, refl, sym, ap₂, ◌∙◌}
use mathlib.Core.List.{List}
use native.Mathlib.Omega.{arith}
use lib.ListN.{length, set}
use Rattle.std.specs.Prelude.{Ok, Err, Some, None}
use Rattle.sets.specs.Members.{has, count, size}
use Rattle.formats.specs.declared.FileAnswer.{FileAnswer}
use Rattle.formats.specs.declared.ViewRecord.{ViewRecord}
use Rattle.formats.specs.declared.Views.{Views}
use Rattle.formats.specs.Records.{word_at}
use Rattle.formats.specs.Views.{none_of}
use Rattle.formats.specs.ViewFile.{tested_at, values_read, with_view, refused_at, read_whole, read_from}
use Rattle.formats.proofs.Reading.{Passed, passed}
use Rattle.formats.proofs.Turns.{read_end, read_fault, read_view}
use Rattle.formats.proofs.Values.{count_in, count_out, values_in, values_out}

-- The values of the members of r up to j are stored in those that were, and the place is past them.
pub record Stored (s : List ℕ) (from : ℕ) (r : ViewRecord) (were : List ℕ) (j place : ℕ) (values : List ℕ) : Type 0 where
  pub past : place ≡ from + 4 * count (has r.set) j
  pub stored : values ≡ values_read s from r.process r.set j were

pub stored_none : (s : List ℕ) (from : ℕ) (r : ViewRecord) (were : List ℕ) → Stored s from r were 0 from were
unfolding count values_read
stored_none s from r were = record { past = omega arith; stored = refl }

module _ {s : List ℕ} {from : ℕ} {r : ViewRecord} {were : List ℕ} {j place : ℕ} {values : List ℕ} (t : Stored s from r were j place values)
    {place' : ℕ} {values' : List ℕ} where
  pub stored_member : has r.set (j + 1) ≡ true → place' ≡ place + 4 → values' ≡ set values (32 * (r.process - 1) + j) (word_at s place)
      → Stored s from r were (j + 1) place' values'
  stored_member e p v =
      record {
        past = omega (arith, t.past, count_in (has r.set) j e);
        stored = v ∙ ap₂ (λ (l : List ℕ) (x : ℕ). set l (32 * (r.process - 1) + j) (word_at s x)) t.stored t.past
            ∙ sym (values_in s from r.process r.set j were e);
      }

  pub stored_other : has r.set (j + 1) ≡ false → place' ≡ place → values' ≡ values → Stored s from r were (j + 1) place' values'
  stored_other e p v =
      record {
        past = omega (arith, t.past, count_out (has r.set) j e);
        stored = v ∙ t.stored ∙ sym (values_out s from r.process r.set j were e);
      }

-- The file of n processes is read up to a place, with the views v so far: with enough turns, what is left to read ends as the whole does.
pub record Under (s : List ℕ) (n at : ℕ) (v : Views) : Type 0 where
  pub inside : at ≤ length s
  pub most : v.n ≤ 32
  pub turns : ℕ
  pub enough : length s < at + turns
  pub left : read_from turns s at v ≡ read_from (length s) s 3 (none_of n)

pub under_first : (s : List ℕ) (n : ℕ) → 3 ≤ length s → n ≤ 32 → Under s n 3 (none_of n)
under_first s n h l = record { inside = h; most = l; turns = length s; enough = omega arith; left = refl }

module _ {s : List ℕ} {n at : ℕ} {v : Views} (t : Under s n at v) where
  pub under_end : tested_at s at v.n v.own ≡ Ok None → read_whole s v ≡ read_from (length s) s 3 (none_of n)
  under_end e = sym (read_end t.turns s at v t.inside t.enough e) ∙ t.left

  pub under_fault : (a : FileAnswer) → tested_at s at v.n v.own ≡ Err a → refused_at s a at ≡ read_from (length s) s 3 (none_of n)
  under_fault a e = sym (read_fault t.turns s at v t.inside t.enough a e) ∙ t.left

  pub under_view : (r : ViewRecord) → tested_at s at v.n v.own ≡ Ok (Some r)
      → Passed s at v.n v.own r.process r.set × Under s n (at + (7 + 4 * size r.set)) (with_view s at v r.process r.set)
  under_view r e =
      let p = passed s at v.n v.own r.process r.set e in
      let next = read_view t.turns s at v t.inside t.enough r.process r.set e in
      (p, record { inside = p.whole; most = t.most; turns = next.0; enough = next.1; left = sym next.2 ∙ t.left })
