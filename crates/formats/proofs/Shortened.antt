-- A file cut short reads as before up to the cut: of what stands there each byte is the same.
use Prim.Native.Nat.{ℕ, ◌+◌, ◌*◌, ◌≤◌, ◌<◌}
use mathlib.Core.Bool.{Bool, true, false, not, ◌&&◌, ◌||◌}
use mathlib.Core.Path.{◌≡◌, refl, sym, ap, ap₂, ◌∙◌, subst}
use mathlib.Core.Logic.{inl, inr, ⊎_elim}
use mathlib.Core.List.{List, ◌∷◌}
use native.Mathlib.Omega.{arith}
use lib.Dec.{leb, ltb, eqb}
use lib.ListN.{length, take}
use lib.Seq.{length-take-le, get_or-take}
use borrow.Author.Tests.{ltb-true, ltb-false, le-ltb, ne_eqb}
use Rattle.sets.specs.Lines.{first_that}
use Rattle.sets.specs.Members.{size}
use Rattle.sets.specs.Sets.{first, within}
use Rattle.sets.proofs.Laws.{either}
use Rattle.sets.proofs.Lines.{pass, says, first_is}
use Rattle.formats.specs.declared.ViewsRead.{ViewsRead}
use Rattle.formats.specs.Numbers.{file_number}
use Rattle.formats.specs.Records.{byte_at, word_at, spells}
use Rattle.formats.specs.Table.{header_lines, process_at, set_at, end_at, viewed, record_lines, Reached, start, more}
use Rattle.formats.specs.ViewFile.{read_of}
use Rattle.formats.specs.Cuts.{EndsInHeader, EndsInMark, ViewMark, NoneBefore, EndsInBody, in_header, in_fixed, in_values}
use Rattle.formats.specs.Cuts.{opening, later, EveryCutInside, EveryCutBetween}
use Rattle.formats.proofs.Walked.{Walked, reached_walked}
use Rattle.formats.proofs.WholeFile.{walked_read}
use Rattle.formats.proofs.Cuts.{not_true, none_before, known, not_again, every_cut_exactly}

-- A header of which no line applies.
pub record WholeHeader (s : List ℕ) : Type 0 where
  pub mark : spells "MN" (byte_at s 0) (byte_at s 1) ≡ true
  pub range : not (leb 1 (byte_at s 2) && leb (byte_at s 2) 32) ≡ false
  pub long : 3 ≤ length s

pub header_stands : (s : List ℕ) → first_that (header_lines s) ≡ 0 → WholeHeader s
header_stands s z =
    let other = (says (header_lines s) 0 z).next.next in
    record {
      mark = not_true (spells "MN" (byte_at s 0) (byte_at s 1)) other.off;
      range = other.next.next.off;
      long = ltb-false (length s) 3 other.next.off;
    }

pub stands_header : (s : List ℕ) → WholeHeader s → first_that (header_lines s) ≡ 0
stands_header s w =
    first_is (header_lines s) 0
    (pass (ne_eqb (length s) 0 (λ z. omega (arith, w.long)))
    (pass (ne_eqb (length s) 1 (λ z. omega (arith, w.long)))
    (pass (ap not w.mark) (pass (le-ltb (length s) 3 w.long) (pass w.range refl)))))

-- A later record of which none does.
record WholeView (s : List ℕ) (at : ℕ) (before : List ℕ) : Type 0 where
  mark : spells "VW" (byte_at s at) (byte_at s (at + 1)) ≡ true
  none : NoneBefore s at before
  long : end_at s at ≤ length s

view_stands : (s : List ℕ) (at : ℕ) (before : List ℕ) → first_that (record_lines s at before) ≡ 0 → WholeView s at before
view_stands s at before z =
    let other = (says (record_lines s at before) 0 z).next.next in
    let e = other.next.next in
    record {
      mark = not_true (spells "VW" (byte_at s at) (byte_at s (at + 1))) other.off;
      none = none_before s at before e.off e.next.off e.next.next.off;
      long = ltb-false (length s) (end_at s at) e.next.next.next.off;
    }

stands_view : (s : List ℕ) (at : ℕ) (before : List ℕ) → WholeView s at before → first_that (record_lines s at before) ≡ 0
stands_view s at before w =
    let n = w.none in
    first_is (record_lines s at before) 0
    (pass (ne_eqb (length s) (at + 1) (λ z. omega (arith, w.long)))
    (pass (not_again s at before w.mark)
    (pass (ap not w.mark)
    (pass (le-ltb (length s) (at + 7) (omega (arith, w.long)))
    (pass (known s at before n) (pass n.new (pass (ap not n.inside) (pass (le-ltb (length s) (end_at s at) w.long) refl))))))))

-- reading comes to no place past the end
reached-inside : {s : List ℕ} {at : ℕ} {before : List ℕ} → Reached s at before → (3 ≤ at) × (at ≤ length s)
reached-inside {s} (start z) = (omega arith, (header_stands s z).long)
reached-inside {s} (more {at = at} {before = before} r l z) = (omega (arith, (reached-inside r).0), (view_stands s at before z).long)

-- The first k bytes of a file.
module _ (s : List ℕ) (k : ℕ) (h : k ≤ length s) where
  pub short_length : length (take k s) ≡ k
  short_length = length-take-le k s h

  pub same_byte : (i : ℕ) → i < k → byte_at (take k s) i ≡ byte_at s i
  same_byte i l = get_or-take k s i 0 l

  pub same_word : (i : ℕ) → i + 4 ≤ k → word_at (take k s) i ≡ word_at s i
  same_word i l =
      let a = same_byte i (omega arith) in
      let b = same_byte (i + 1) (omega arith) in
      let c = same_byte (i + 2) (omega arith) in
      let d = same_byte (i + 3) (omega arith) in
      λ j. a j + 256 * b j + 65536 * c j + 16777216 * d j

  same-process : (at : ℕ) → at + 7 ≤ k → process_at (take k s) at ≡ process_at s at
  same-process at l = same_byte (at + 2) (omega arith)

  same_set : (at : ℕ) → at + 7 ≤ k → set_at (take k s) at ≡ set_at s at
  same_set at l = same_word (at + 3) (omega arith)

  same_end : (at : ℕ) → at + 7 ≤ k → end_at (take k s) at ≡ end_at s at
  same_end at l = ap (λ (w : ℕ). at + 7 + 4 * size w) (same_set at l)

  same-viewed : {at : ℕ} {before : List ℕ} → Reached s at before → at ≤ k → (p : ℕ) → viewed (take k s) p before ≡ viewed s p before
  same-viewed (start z) l p = refl
  same-viewed (more {at = at} {before = before} r i z) l p =
      ap₂ (λ (x : ℕ) (b : Bool). eqb x p || b) (same-process at (omega arith)) (same-viewed r (omega arith) p)

  pub same_header : 3 ≤ k → WholeHeader s → WholeHeader (take k s)
  same_header l w =
      record {
        mark = ap₂ (spells "MN") (same_byte 0 (omega arith)) (same_byte 1 (omega arith)) ∙ w.mark;
        range = ap (λ (x : ℕ). not (leb 1 x && leb x 32)) (same_byte 2 (omega arith)) ∙ w.range;
        long = omega (arith, short_length);
      }

  same_mark : (at : ℕ) → at + 2 ≤ k → spells "VW" (byte_at (take k s) at) (byte_at (take k s) (at + 1)) ≡ spells "VW" (byte_at s at) (byte_at s (at + 1))
  same_mark at l = ap₂ (spells "VW") (same_byte at (omega arith)) (same_byte (at + 1) (omega arith))

  same_none : {at : ℕ} {before : List ℕ} → Reached s at before → at + 7 ≤ k → NoneBefore s at before → NoneBefore (take k s) at before
  same_none {at} {before} r l w =
      let p = same-process at l in
      let n = same_byte 2 (omega (arith, (reached-inside r).0)) in
      record {
        low = omega (arith, w.low, p);
        high = omega (arith, w.high, p, n);
        new = ap (λ (x : ℕ). viewed (take k s) x before) p ∙ same-viewed r (omega arith) (process_at s at) ∙ w.new;
        inside = ap₂ (λ (x y : ℕ). within x (first y)) (same_set at l) n ∙ w.inside;
      }

  -- reading comes to the same places
  same-reached : {at : ℕ} {before : List ℕ} → Reached s at before → at ≤ k → Reached (take k s) at before
  same-reached (start z) l = start (stands_header (take k s) (same_header l (header_stands s z)))
  same-reached (more {at = at} {before = before} r i z) l =
      let w = view_stands s at before z in
      let e = same_end at (omega arith) in
      subst (λ (x : ℕ). Reached (take k s) x (at ∷ before)) e
      (more (same-reached r (omega arith)) (omega (arith, short_length))
      (stands_view (take k s) at before (record {
        mark = same_mark at (omega arith) ∙ w.mark;
        none = same_none r (omega arith) w.none;
        long = omega (arith, e, short_length);
      })))

  -- what ends inside a later record
  module _ {at : ℕ} {before : List ℕ} (r : Reached s at before) (w : WholeView s at before) (l : at < k) (m : k < end_at s at) where
    marked : at + 2 ≤ k → ViewMark (take k s) at before
    marked i = record { comes = same-reached r (omega arith); mark = same_mark at i ∙ w.mark }

    in_body : at + 2 ≤ k → EndsInBody (take k s)
    in_body i =
        ⊎_elim
        (λ q. in_fixed (marked i) (omega (arith, short_length)) (omega (arith, ltb-true k (at + 7) q, short_length)))
        (λ q. let long = ltb-false k (at + 7) q in
        in_values (marked i) (omega (arith, short_length)) (same_none r long w.none) (omega (arith, same_end at long, short_length)))
        (either (ltb k (at + 7)))

-- A header cut after its mark.
pub cut_header : (s : List ℕ) → WholeHeader s → (k : ℕ) → k ≡ 2 → EndsInHeader (take k s)
cut_header s w k e =
    let h : k ≤ length s = omega (arith, w.long) in
    record {
      mark = ap₂ (spells "MN") (same_byte s k h 0 (omega arith)) (same_byte s k h 1 (omega arith)) ∙ w.mark;
      ends = short_length s k h ∙ e;
    }

-- The numbers and the places.
module _ (s : List ℕ) (at k : ℕ) (h : k ≤ length s) where
  one_left : EndsInMark (take k s) at → (file_number (read_of (take k s)).answer ≡ 11) × ((read_of (take k s)).place ≡ at)
  one_left e = ((every_cut_exactly (take k s)).eleven at).1 e

  more_left : EndsInBody (take k s) → (file_number (read_of (take k s)).answer ≡ 24) × ((read_of (take k s)).place ≡ k)
  more_left e = ((every_cut_exactly (take k s)).twenty_four k).1 (e, sym (short_length s k h))

pub every_cut_inside : EveryCutInside
every_cut_inside s at end k (opening z) l m =
    let w = header_stands s z in
    let h : k ≤ length s = omega (arith, w.long) in
    record {
      one = λ e. one_left s 0 k h (record { comes = inl refl; ends = omega (arith, e, short_length s k h) });
      more = λ e. more_left s 0 k h (in_header (cut_header s w k (omega arith)));
    }
every_cut_inside s at end k (later {before = before} r i z) l m =
    let w = view_stands s at before z in
    let h : k ≤ length s = omega (arith, w.long) in
    record {
      one = λ e. one_left s at k h (record { comes = inr (before, same-reached s k h r (omega arith)); ends = omega (arith, e, short_length s k h) });
      more = λ e. more_left s at k h (in_body s k h r w l m e);
    }

pub every_cut_between : EveryCutBetween
every_cut_between s at before r =
    let h = (reached-inside r).1 in
    let w = reached_walked (same-reached s at h r (omega arith)) in
    ap (λ (x : ViewsRead). file_number x.answer)
    (walked_read (subst (λ (x : ℕ). Walked (take at s) x before w.0) (sym (short_length s at h)) w.1))
