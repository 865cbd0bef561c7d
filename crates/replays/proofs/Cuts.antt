-- 11 is given exactly where an order file ends after one byte of a mark, and 24 exactly where it ends later in a record: what the lines of the table before
-- them say.
use Prim.Native.Nat.{ℕ, ◌+◌, ◌≤◌, ◌<◌}
use mathlib.Core.Bool.{Bool, true, false, not, ◌||◌, cond}
use mathlib.Core.Path.{◌≡◌, refl, sym, ap, ◌∙◌, subst}
use mathlib.Core.Logic.{◌⊎◌, inl, inr, ⊎_elim}
use mathlib.Core.List.{List, ◌∷◌}
use native.Mathlib.Nat.{eq-or-lt_of_le}
use native.Mathlib.Omega.{arith}
use lib.Dec.{ltb, eqb}
use lib.ListN.{length}
use borrow.Author.Tests.{ltb-true, eqb-true, eqb-false, lt-ltb, eq-eqb, ne_eqb}
use Rattle.sets.specs.Lines.{Line, when, first_that}
use Rattle.sets.proofs.Laws.{either}
use Rattle.sets.proofs.Lines.{pass, says, first_is}
use Rattle.history.specs.Runs.{Call}
use Rattle.formats.proofs.Cuts.{header_one, one_header, header_ends, ends_header}
use Rattle.replays.specs.Table.{marked, order_lines, Holds, Refusal}
use Rattle.replays.specs.Cuts.{Comes, EndsInMark, EndsInBody, in_header, in_enter, in_short, CutsExactly, EveryCutExactly}
use Rattle.replays.proofs.Orders.{mark_other}
use Rattle.replays.proofs.WholeFile.{refused_exactly}

-- which of the three
one_of : (en st cr : Bool) → not (en || st || cr) ≡ false → en ≡ false → (st || cr) ≡ true
one_of en true cr m e = refl
one_of en false true m e = refl
one_of true false false m e = cc
one_of false false false m e = cc

either_of : (st cr : Bool) → (st || cr) ≡ true → (st ≡ true) ⊎ (cr ≡ true)
either_of true cr e = inl refl
either_of false cr e = inr e

-- an `ST` or a `CR` is neither of the others
pub no_enter : (s : List ℕ) (at : ℕ) → (marked s at "ST" || marked s at "CR") ≡ true → (marked s at "MN" ≡ false) × (marked s at "EN" ≡ false)
no_enter s at e =
    ⊎_elim
    (λ t. (mark_other s at "ST" "MN" t, mark_other s at "ST" "EN" t))
    (λ t. (mark_other s at "CR" "MN" t, mark_other s at "CR" "EN" t))
    (either_of (marked s at "ST") (marked s at "CR") e)

-- A later record, after the budget's line.
abbrev pub lines_at : List ℕ → ℕ → ℕ → List Call → List Line
lines_at s budget at cs = when 13 (eqb (length cs) budget) ∷ order_lines s at

module _ (s : List ℕ) (budget at : ℕ) where
  comes_if : (cs : List Call) → Holds s at cs → length cs ≤ budget → eqb (length cs) budget ≡ false → Comes s budget at
  comes_if cs h l e =
      record { calls = cs; held = h; left = ⊎_elim (λ q. absurd (eqb-false (length cs) budget e q)) (λ q. q) (eq-or-lt_of_le l) }

  record_one : (cs : List Call) → Holds s at cs → length cs ≤ budget → first_that (lines_at s budget at cs) ≡ 11 → EndsInMark s budget at
  record_one cs h l z =
      let t = says (lines_at s budget at cs) 11 z in
      ⊎_elim
      (λ e. record { comes = inr (comes_if cs h l t.off); ends = eqb-true (length s) (at + 1) e })
      (λ e. absurd (omega (arith, e.next.next.next.next)))
      t.next

  spent_not : (c : Comes s budget at) → eqb (length c.calls) budget ≡ false
  spent_not c = ne_eqb (length c.calls) budget (λ z. omega (arith, c.left))

  pub one_record : (c : Comes s budget at) → length s ≡ at + 1 → first_that (lines_at s budget at c.calls) ≡ 11
  one_record c e = first_is (lines_at s budget at c.calls) 11 (pass (spent_not c) (inl (eq-eqb (length s) (at + 1) e)))

  record_ends : (cs : List Call) → Holds s at cs → length cs ≤ budget → at < length s → first_that (lines_at s budget at cs) ≡ 24 → EndsInBody s budget
  record_ends cs h l k z =
      let t = says (lines_at s budget at cs) 24 z in
      let c = comes_if cs h l t.off in
      let more = eqb-false (length s) (at + 1) t.next.off in
      let other = t.next.next.next in
      let body : (b : Bool) → marked s at "EN" ≡ b → cond b (ltb (length s) (at + 7)) (ltb (length s) (at + 3)) ≡ true
      = λ b e. ap (λ (x : Bool). cond x (ltb (length s) (at + 7)) (ltb (length s) (at + 3))) (sym e)
      ∙ ⊎_elim (λ d. d) (λ d. absurd (omega (arith, d.next))) other.next in
      ⊎_elim
      (λ e. in_enter c e (omega (arith, more)) (ltb-true (length s) (at + 7) (body true e)))
      (λ e. in_short c (one_of (marked s at "EN") (marked s at "ST") (marked s at "CR") other.off e)
      (omega (arith, more, ltb-true (length s) (at + 3) (body false e))))
      (either (marked s at "EN"))

  -- the other way
  pub enter-ends : (c : Comes s budget at) → marked s at "EN" ≡ true → at + 2 ≤ length s → length s < at + 7
      → first_that (lines_at s budget at c.calls) ≡ 24
  enter-ends c e l h =
      first_is (lines_at s budget at c.calls) 24
      (pass (spent_not c)
      (pass (ne_eqb (length s) (at + 1) (λ z. omega arith))
      (pass (mark_other s at "EN" "MN" e)
      (pass (ap (λ (b : Bool). not (b || marked s at "ST" || marked s at "CR")) e)
      (inl (ap (λ (b : Bool). cond b (ltb (length s) (at + 7)) (ltb (length s) (at + 3))) e ∙ lt-ltb (length s) (at + 7) h))))))

  pub short_ends : (c : Comes s budget at) → (marked s at "ST" || marked s at "CR") ≡ true → length s ≡ at + 2
      → first_that (lines_at s budget at c.calls) ≡ 24
  short_ends c e h =
      let n = no_enter s at e in
      first_is (lines_at s budget at c.calls) 24
      (pass (spent_not c)
      (pass (ne_eqb (length s) (at + 1) (λ z. omega arith))
      (pass n.0
      (pass (ap (λ (b : Bool). not (b || marked s at "ST" || marked s at "CR")) n.1 ∙ ap not e)
      (inl (ap (λ (b : Bool). cond b (ltb (length s) (at + 7)) (ltb (length s) (at + 3))) n.1 ∙ lt-ltb (length s) (at + 3) (omega arith)))))))

-- Both numbers, of a whole file.
module _ (s : List ℕ) (budget : ℕ) where
  mark_if : (at : ℕ) → Refusal s budget 11 at → EndsInMark s budget at
  mark_if at =
      ⊎_elim
      (λ p. record { comes = inl p.0; ends = omega (arith, p.0, header_one s p.1) })
      (λ p. record_one s budget at p.0 p.1 p.2 p.4)

  if_mark : (at : ℕ) → EndsInMark s budget at → Refusal s budget 11 at
  if_mark at m =
      ⊎_elim
      (λ z. inl (z, one_header s (omega (arith, z, m.ends))))
      (λ c. inr (c.calls, c.held, omega (arith, c.left), omega (arith, m.ends), one_record s budget at c m.ends))
      m.comes

  body_if : (at : ℕ) → Refusal s budget 24 at → EndsInBody s budget
  body_if at = ⊎_elim (λ p. in_header (header_ends s p.1)) (λ p. record_ends s budget at p.0 p.1 p.2 p.3 p.4)

  if_body : EndsInBody s budget → (at : ℕ) × Refusal s budget 24 at
  if_body (in_header h) = (0, inl (refl, ends_header s h))
  if_body (in_enter {at = at} c e l h) = (at, inr (c.calls, c.held, omega (arith, c.left), omega arith, enter-ends s budget at c e l h))
  if_body (in_short {at = at} c e h) = (at, inr (c.calls, c.held, omega (arith, c.left), omega arith, short_ends s budget at c e h))

  cuts : CutsExactly s budget
  cuts =
      record {
        eleven = λ place. (
          λ p. let r = (refused_exactly s budget 11 place (λ z. omega arith)).0 p in subst (EndsInMark s budget) (sym r.2) (mark_if r.0 r.1),
          λ m. (refused_exactly s budget 11 place (λ z. omega arith)).1 (place, if_mark place m, refl),
        );
        twenty_four = λ place. (
          λ p. let r = (refused_exactly s budget 24 place (λ z. omega arith)).0 p in (body_if r.0 r.1, r.2),
          λ b. let r = if_body b.0 in (refused_exactly s budget 24 place (λ z. omega arith)).1 (r.0, r.1, b.1),
        );
      }

pub every_cut_exactly : EveryCutExactly
every_cut_exactly = cuts
