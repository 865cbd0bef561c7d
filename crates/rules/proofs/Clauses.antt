-- The table of the shape's clauses, by computation. No law stands before it, so a clause made wrong is refused here first.
use mathlib.Core.Path.{◌≡◌, refl}
use mathlib.Core.Bool.{Bool, true, false, not, ◌&&◌}
use mathlib.Core.List.{List, [], ◌∷◌}
use Prim.Native.Nat.{ℕ, ◌*◌, ◌^◌}
use lib.Dec.{leb, ltb, eqb}
use lib.ListN.{length, drop}
use Rattle.sets.specs.Members.{has, count, size}
use Rattle.sets.specs.Sets.{plus, first, every, within}
use Rattle.rules.specs.declared.Process.{Process}
use Rattle.rules.specs.declared.Machine.{Machine}
use Rattle.rules.specs.State.{found_of, wrote}
use Rattle.rules.specs.Shape.{shaped_process, shaped_register, shaped_records, shaped}
use Rattle.rules.specs.Calls.{fresh}
use Rattle.rules.specs.Shapes.{BothSides, rows_above_are_zero, slots_above_are_zero, absent_are_zero, beside_empty_is_zero, level_is_in_range, accesses_are_in_range}
use Rattle.rules.specs.Shapes.{found_was_read, found_is_filled, view_has_its_size, view_is_filled, filled_was_written, written_is_filled, filled_with_its_value}

-- "n is 1 to 32": 0 and 33 are outside.
pub outside : (shaped (fresh 0) ≡ false) × (shaped (fresh 33) ≡ false)
unfolding shaped
outside = (refl, refl)

-- A test that every element of a list passes.
abbrev pub all {ℓ} : {A : Type ℓ} → (A → Bool) → List A → Bool
all f [] = true
all f (a ∷ rest) = f a && all f rest

-- The other clauses, by tests that are cheap to compute. That a state is not well shaped is seen in a record, or in a register of a few rows.
abbrev pub records : Machine → Bool
records m = leb 1 m.n && leb m.n 32 && shaped_records m.n m.filled m.processes

abbrev pub rows : ℕ → Machine → Bool
rows k m = every k (λ x. every 32 (shaped_register m x))

abbrev pub few : List ℕ
few = 1 ∷ 2 ∷ 3 ∷ 32 ∷ []

unfoldable pub seems : Machine → Bool
seems m = records m && all (λ x. all (shaped_register m x) few) few

-- It is well shaped where above n all is zero and the rest is tested.
abbrev pub is_zero : ℕ → Bool
is_zero v = eqb v 0

abbrev pub blank : Machine → Bool
blank m = all is_zero (drop m.n m.filled) && all is_zero (drop (32 * m.n) m.values)

unfoldable pub surely : Machine → Bool
surely m = records m && (blank m && rows m.n m)

-- The declared types hold it.
abbrev pub word : ℕ → Bool
word w = ltb w (2 ^ 32)

abbrev pub found_word : Process → Bool
found_word P = word (found_of P.stage)

abbrev pub lengths : Machine → Bool
lengths m = eqb (length m.filled) 32 && (eqb (length m.values) 1024 && eqb (length m.processes) 32)

unfoldable pub fits : Machine → Bool
fits m = lengths m && (all word m.filled && all found_word m.processes)

-- On each clause, a state that breaks it does not pass, and its neighbour does.
unfoldable pub passes : BothSides → Bool
passes e = not (seems e.broken) && (surely e.neighbour && fits e.neighbour)

pub record Passing (es : List BothSides) : Type 0 where
  pub computed : all passes es ≡ true

pub record EachClause : Type 0 where
  pub rows_above : Passing rows_above_are_zero
  pub slots_above : Passing slots_above_are_zero
  pub absent : Passing absent_are_zero
  pub beside : Passing beside_empty_is_zero
  pub level : Passing level_is_in_range
  pub accesses : Passing accesses_are_in_range
  pub read : Passing found_was_read
  pub found : Passing found_is_filled
  pub size : Passing view_has_its_size
  pub view : Passing view_is_filled
  pub filled : Passing filled_was_written
  pub written : Passing written_is_filled
  pub value : Passing filled_with_its_value

pub each_clause : EachClause
unfolding passes seems surely fits shaped_process shaped_register every within first has plus count size wrote
each_clause =
    record {
      rows_above = record { computed = refl };
      slots_above = record { computed = refl };
      absent = record { computed = refl };
      beside = record { computed = refl };
      level = record { computed = refl };
      accesses = record { computed = refl };
      read = record { computed = refl };
      found = record { computed = refl };
      size = record { computed = refl };
      view = record { computed = refl };
      filled = record { computed = refl };
      written = record { computed = refl };
      value = record { computed = refl };
    }
