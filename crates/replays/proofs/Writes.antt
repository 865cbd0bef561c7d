-- What the view writer answers and leaves, by its two tests.
use Prim.Native.Nat.{ℕ, ◌≤◌, ◌<◌}
use mathlib.Core.Bool.{Bool, true, false, cond, true≢false}
use mathlib.Core.Path.{◌≡◌, refl, sym, ap, ap₂, ◌∙◌}
use mathlib.Core.List.{List, ◌++◌}
use native.Mathlib.Omega.{arith}
use lib.Dec.{leb}
use lib.ListN.{length, drop}
use borrow.Author.Tests.{leb-true, leb-false}
use Rattle.rules.specs.declared.Machine.{Machine}
use Rattle.rules.specs.Shape.{shaped}
use Rattle.rules.proofs.Laws.Shapes.{both_sides}
use Rattle.replays.specs.declared.Written.{Written}
use Rattle.replays.specs.declared.WriteAnswer.TheVariants.{Done, NotShaped, TooShort}
use Rattle.replays.specs.Writes.{write_number, bytes_of, written, write_of, buffer_of}
use Rattle.replays.specs.Promises.{WriteNumbers, EveryWriteNumbered, EveryClauseWritten}

-- an answer, and what it leaves of a buffer
abbrev pub Answers : Machine → List ℕ → Written → List ℕ → Type 0
Answers m b r b' = (r ≡ write_of m (length b)) × (b' ≡ buffer_of m b)

module _ (m : Machine) (b : List ℕ) where
  pub by_tests : (t u : Bool) → shaped m ≡ t → leb (length (bytes_of m)) (length b) ≡ u
      → Answers m b (cond t (cond u (written Done (length (bytes_of m))) (written TooShort 0)) (written NotShaped 0))
      (cond t (cond u (bytes_of m ++ drop (length (bytes_of m)) b) b) b)
  unfolding write_of buffer_of
  by_tests t u e f = (
    sym (ap₂ (λ (x y : Bool). cond x (cond y (written Done (length (bytes_of m))) (written TooShort 0)) (written NotShaped 0)) e f),
    sym (ap₂ (λ (x y : Bool). cond x (cond y (bytes_of m ++ drop (length (bytes_of m)) b) b) b) e f),
  )

-- Each number exactly when it applies, by the two tests.
numbered : (m : Machine) (b : List ℕ) (t u : Bool) → shaped m ≡ t → leb (length (bytes_of m)) (length b) ≡ u → WriteNumbers m b
numbered m b false u e f =
    let a = by_tests m b false u e f in
    let w : write_number (write_of m (length b)).answer ≡ 1 = ap (λ (r : Written). write_number r.answer) (sym a.0) in
    let no : shaped m ≡ true → ⊥ = λ s. true≢false (sym s ∙ e) in
    record {
      one = (λ h. no, λ h. w);
      seventeen = (λ h. absurd (omega arith), λ h. absurd (no h.0));
      none = (λ h. absurd (omega arith), λ h. absurd (no h.0));
      nothing = λ h. (ap (λ (r : Written). r.bytes) (sym a.0), sym a.1);
      written = λ h. absurd (omega arith);
    }
numbered m b true false e f =
    let a = by_tests m b true false e f in
    let w : write_number (write_of m (length b)).answer ≡ 17 = ap (λ (r : Written). write_number r.answer) (sym a.0) in
    let short : length b < length (bytes_of m) = leb-false (length (bytes_of m)) (length b) f in
    record {
      one = (λ h. absurd (omega arith), λ h. absurd (h e));
      seventeen = (λ h. (e, short), λ h. w);
      none = (λ h. absurd (omega arith), λ h. absurd (omega (arith, h.1)));
      nothing = λ h. (ap (λ (r : Written). r.bytes) (sym a.0), sym a.1);
      written = λ h. absurd (omega arith);
    }
numbered m b true true e f =
    let a = by_tests m b true true e f in
    let w : write_number (write_of m (length b)).answer ≡ 0 = ap (λ (r : Written). write_number r.answer) (sym a.0) in
    let long : length (bytes_of m) ≤ length b = leb-true (length (bytes_of m)) (length b) f in
    record {
      one = (λ h. absurd (omega arith), λ h. absurd (h e));
      seventeen = (λ h. absurd (omega arith), λ h. absurd (omega (arith, h.1)));
      none = (λ h. (e, long), λ h. w);
      nothing = λ h. absurd (h w);
      written = λ h. (ap (λ (r : Written). r.bytes) (sym a.0), sym a.1);
    }

pub every_write_numbered : EveryWriteNumbered
every_write_numbered m b = numbered m b (shaped m) (leb (length (bytes_of m)) (length b)) refl refl

-- the states on both sides of each clause of the shape
pub every_clause_written : EveryClauseWritten
every_clause_written e h =
    record {
      broken = λ b.
          let w = every_write_numbered e.broken b in
          let one : write_number (write_of e.broken (length b)).answer ≡ 1 = w.one.1 (λ s. true≢false (sym s ∙ (both_sides e h).broken)) in
          (one, (w.nothing (λ z. omega arith)).1);
      neighbour = λ b o. (every_write_numbered e.neighbour b).one.0 o (both_sides e h).neighbour;
    }
