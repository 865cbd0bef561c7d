-- 11 is given exactly where the file ends after one byte of a mark, and 24 exactly where it ends later in a record: what the lines of the table before
-- them say.
use Prim.Native.Nat.{ℕ, ◌+◌, ◌≤◌, ◌<◌}
use mathlib.Core.Bool.{Bool, true, false, not, ◌&&◌, and-eq-true_iff}
use mathlib.Core.Path.{◌≡◌, refl, sym, ap, ap₂, subst}
use mathlib.Core.Logic.{inl, inr, ⊎_elim}
use mathlib.Core.List.{List}
use native.Mathlib.Omega.{arith}
use lib.Dec.{leb}
use lib.ListN.{length}
use borrow.Author.Tests.{leb-true, ltb-true, ltb-false, eqb-true, eqb-false, le-leb, lt-ltb, le-ltb, eq-eqb, ne_eqb}
use Rattle.sets.specs.Lines.{first_that}
use Rattle.sets.specs.Sets.{first, within}
use Rattle.sets.proofs.Lines.{pass, says, first_is}
use Rattle.formats.specs.Records.{byte_at, spells}
use Rattle.formats.specs.Table.{header_lines, process_at, set_at, end_at, viewed, record_lines, Reached, Refusal}
use Rattle.formats.specs.Cuts.{EndsInHeader, EndsInMark, ViewMark, NoneBefore, EndsInBody, in_header, in_fixed, in_values, CutsExactly, EveryCutExactly}
use Rattle.formats.proofs.Table.{mark_bytes}
use Rattle.formats.proofs.WholeFile.{refused_exactly}

pub not_true : (b : Bool) → not b ≡ false → b ≡ true
not_true true e = refl
not_true false e = cc

-- The first record.
module _ (s : List ℕ) where
  pub header_one : first_that (header_lines s) ≡ 11 → length s ≡ 1
  header_one z = ⊎_elim (λ t. eqb-true (length s) 1 t) (λ t. absurd (omega (arith, t.next.next.next.next))) (says (header_lines s) 11 z).next

  pub one_header : length s ≡ 1 → first_that (header_lines s) ≡ 11
  one_header e = first_is (header_lines s) 11 (pass (ne_eqb (length s) 0 (λ z. omega arith)) (inl (eq-eqb (length s) 1 e)))

  pub header_ends : first_that (header_lines s) ≡ 24 → EndsInHeader s
  header_ends z =
      let none = says (header_lines s) 24 z in
      let one = none.next in
      let other = one.next in
      ⊎_elim
      (λ d. record {
        mark = not_true (spells "MN" (byte_at s 0) (byte_at s 1)) other.off;
        ends = omega (arith, eqb-false (length s) 0 none.off, eqb-false (length s) 1 one.off, ltb-true (length s) 3 d);
      })
      (λ d. absurd (omega (arith, d.next.next)))
      other.next

  pub ends_header : EndsInHeader s → first_that (header_lines s) ≡ 24
  ends_header h =
      first_is (header_lines s) 24
      (pass (ne_eqb (length s) 0 (λ z. omega (arith, h.ends)))
      (pass (ne_eqb (length s) 1 (λ z. omega (arith, h.ends)))
      (pass (ap not h.mark) (inl (lt-ltb (length s) 3 (omega (arith, h.ends)))))))

-- A later record.
module _ (s : List ℕ) (at : ℕ) (before : List ℕ) where
  record_one : first_that (record_lines s at before) ≡ 11 → length s ≡ at + 1
  record_one z =
      ⊎_elim
      (λ t. eqb-true (length s) (at + 1) t)
      (λ t. absurd (omega (arith, t.next.next.next.next.next.next.next.next)))
      (says (record_lines s at before) 11 z)

  one_record : length s ≡ at + 1 → first_that (record_lines s at before) ≡ 11
  one_record e = first_is (record_lines s at before) 11 (inl (eq-eqb (length s) (at + 1) e))

  -- the tests of 14, 15 and 16
  pub none_before : not (leb 1 (process_at s at) && leb (process_at s at) (byte_at s 2)) ≡ false → viewed s (process_at s at) before ≡ false
      → not (within (set_at s at) (first (byte_at s 2))) ≡ false → NoneBefore s at before
  none_before e f g =
      let p = process_at s at in
      let n = byte_at s 2 in
      let k = (and-eq-true_iff (leb 1 p) (leb p n)).0 (not_true (leb 1 p && leb p n) e) in
      record { low = leb-true 1 p k.0; high = leb-true p n k.1; new = f; inside = not_true (within (set_at s at) (first n)) g }

  pub known : NoneBefore s at before → not (leb 1 (process_at s at) && leb (process_at s at) (byte_at s 2)) ≡ false
  known w = ap₂ (λ (a b : Bool). not (a && b)) (le-leb 1 (process_at s at) w.low) (le-leb (process_at s at) (byte_at s 2) w.high)

  -- a `VW` is no `MN`
  pub not_again : spells "VW" (byte_at s at) (byte_at s (at + 1)) ≡ true → spells "MN" (byte_at s at) (byte_at s (at + 1)) ≡ false
  not_again m =
      let b = mark_bytes 86 87 (byte_at s at) (byte_at s (at + 1)) m in
      ap₂ (spells "MN") b.0 b.1

  record_ends : Reached s at before → at < length s → first_that (record_lines s at before) ≡ 24 → EndsInBody s
  record_ends r l z =
      let one = says (record_lines s at before) 24 z in
      let other = one.next.next in
      let more = eqb-false (length s) (at + 1) one.off in
      let marked : ViewMark s at before
      = record { comes = r; mark = not_true (spells "VW" (byte_at s at) (byte_at s (at + 1))) other.off } in
      ⊎_elim
      (λ d. in_fixed marked (omega (arith, more)) (ltb-true (length s) (at + 7) d))
      (λ d. let e = d.next in
      ⊎_elim
      (λ h. in_values marked (ltb-false (length s) (at + 7) d.off) (none_before e.off e.next.off e.next.next.off)
      (ltb-true (length s) (end_at s at) h))
      (λ h. absurd (omega (arith, h.next)))
      e.next.next.next)
      other.next

  fixed_ends : ViewMark s at before → at + 2 ≤ length s → length s < at + 7 → first_that (record_lines s at before) ≡ 24
  fixed_ends m l h =
      first_is (record_lines s at before) 24
      (pass (ne_eqb (length s) (at + 1) (λ z. omega arith))
      (pass (not_again m.mark) (pass (ap not m.mark) (inl (lt-ltb (length s) (at + 7) h)))))

  values_end : ViewMark s at before → at + 7 ≤ length s → NoneBefore s at before → length s < end_at s at → first_that (record_lines s at before) ≡ 24
  values_end m l w h =
      first_is (record_lines s at before) 24
      (pass (ne_eqb (length s) (at + 1) (λ z. omega arith))
      (pass (not_again m.mark)
      (pass (ap not m.mark)
      (inr (pass (le-ltb (length s) (at + 7) l)
      (pass (known w) (pass w.new (pass (ap not w.inside) (inl (lt-ltb (length s) (end_at s at) h))))))))))

-- Both numbers, of a whole file.
module _ (s : List ℕ) where
  mark_if : (at : ℕ) → Refusal s 11 at → EndsInMark s at
  mark_if at =
      ⊎_elim
      (λ p. record { comes = inl p.0; ends = omega (arith, p.0, header_one s p.1) })
      (λ p. record { comes = inr (p.0, p.1); ends = record_one s at p.0 p.3 })

  if_mark : (at : ℕ) → EndsInMark s at → Refusal s 11 at
  if_mark at m =
      ⊎_elim
      (λ z. inl (z, one_header s (omega (arith, z, m.ends))))
      (λ r. inr (r.0, r.1, omega (arith, m.ends), one_record s at r.0 m.ends))
      m.comes

  body_if : (at : ℕ) → Refusal s 24 at → EndsInBody s
  body_if at = ⊎_elim (λ p. in_header (header_ends s p.1)) (λ p. record_ends s at p.0 p.1 p.2 p.3)

  if_body : EndsInBody s → (at : ℕ) × Refusal s 24 at
  if_body (in_header h) = (0, inl (refl, ends_header s h))
  if_body (in_fixed {at = at} {before = before} m l h) = (at, inr (before, m.comes, omega arith, fixed_ends s at before m l h))
  if_body (in_values {at = at} {before = before} m l n h) = (at, inr (before, m.comes, omega arith, values_end s at before m l n h))

  cuts : CutsExactly s
  cuts =
      record {
        eleven = λ place. (
          λ p. let r = (refused_exactly s 11 place (λ z. omega arith)).0 p in subst (EndsInMark s) (sym r.2) (mark_if r.0 r.1),
          λ m. (refused_exactly s 11 place (λ z. omega arith)).1 (place, if_mark place m, refl),
        );
        twenty_four = λ place. (
          λ p. let r = (refused_exactly s 24 place (λ z. omega arith)).0 p in (body_if r.0 r.1, r.2),
          λ b. let r = if_body b.0 in (refused_exactly s 24 place (λ z. omega arith)).1 (r.0, r.1, b.1),
        );
      }

pub every_cut_exactly : EveryCutExactly
every_cut_exactly = cuts
