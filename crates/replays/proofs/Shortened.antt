-- An order file cut short holds the same calls up to the cut: of what stands there each byte is the same.
use Prim.Native.Nat.{ℕ, ◌+◌, ◌≤◌, ◌<◌}
use Prim.Native.String.{String}
use mathlib.Core.Bool.{Bool, true, not, ◌||◌, cond}
use mathlib.Core.Path.{◌≡◌, refl, sym, ap, ap₂, ◌∙◌, subst, subst₂}
use mathlib.Core.Logic.{◌≢◌, inl, inr, ⊎_elim}
use mathlib.Core.List.{List, [], ◌∷◌, ◌++◌}
use native.Mathlib.Omega.{arith}
use lib.Dec.{ltb, eqb}
use lib.ListN.{length, take}
use borrow.Author.Tests.{eqb-true, eqb-false, le-ltb, ne_eqb}
use Rattle.sets.specs.Lines.{first_that}
use Rattle.sets.proofs.Laws.{either}
use Rattle.sets.proofs.Lines.{pass, first_is}
use Rattle.history.specs.Runs.{Call, enters, steps, crashes}
use Rattle.formats.specs.Numbers.{file_number}
use Rattle.formats.specs.Records.{spells}
use Rattle.formats.proofs.Shortened.{header_stands, stands_header, short_length, same_byte, same_word, same_header, cut_header}
use Rattle.formats.specs.Table.{header_lines}
use Rattle.replays.specs.Replays.{replay_of, calls_of}
use Rattle.replays.specs.Table.{marked, order_lines, Stands, Holds, start, enter, step, crash}
use Rattle.replays.specs.Cuts.{Comes, EndsInMark, EndsInBody, in_header, in_enter, in_short, opening, entering, stepping, crashing, CutInside, EveryCutInside, EveryCutBetween}
use Rattle.replays.proofs.Orders.{mark_other, enter_long, step_long, crash_long}
use Rattle.replays.proofs.WholeFile.{calls_before, no_calls_of, whole_exactly}
use Rattle.replays.proofs.Cuts.{lines_at, no_enter, one_record, enter-ends, short_ends, every_cut_exactly}

-- A record whose mark and body are there stands whole.
module _ (s : List ℕ) (at : ℕ) where
  enter_if : marked s at "EN" ≡ true → at + 7 ≤ length s → Stands s at "EN"
  enter_if e l =
      record {
        left = omega arith;
        whole =
            first_is (order_lines s at) 0
            (pass (ne_eqb (length s) (at + 1) (λ z. omega arith))
            (pass (mark_other s at "EN" "MN" e)
            (pass (ap (λ (b : Bool). not (b || marked s at "ST" || marked s at "CR")) e)
            (pass (ap (λ (b : Bool). cond b (ltb (length s) (at + 7)) (ltb (length s) (at + 3))) e ∙ le-ltb (length s) (at + 7) l) refl))));
        mark = e;
      }

  short_if : (t : String) → marked s at t ≡ true → (marked s at "ST" || marked s at "CR") ≡ true → at + 3 ≤ length s → Stands s at t
  short_if t e o l =
      let n = no_enter s at o in
      record {
        left = omega arith;
        whole =
            first_is (order_lines s at) 0
            (pass (ne_eqb (length s) (at + 1) (λ z. omega arith))
            (pass n.0
            (pass (ap (λ (b : Bool). not (b || marked s at "ST" || marked s at "CR")) n.1 ∙ ap not o)
            (pass (ap (λ (b : Bool). cond b (ltb (length s) (at + 7)) (ltb (length s) (at + 3))) n.1 ∙ le-ltb (length s) (at + 3) l) refl))));
        mark = e;
      }

  -- an `ST` and a `CR` are one of the two
  step_or : marked s at "ST" ≡ true → (marked s at "ST" || marked s at "CR") ≡ true
  step_or e = ap (λ (b : Bool). b || marked s at "CR") e

  crash_or : marked s at "CR" ≡ true → (marked s at "ST" || marked s at "CR") ≡ true
  crash_or e = ap₂ ◌||◌ (mark_other s at "CR" "ST" e) e

-- calls are held at no place past the end
held_inside : {s : List ℕ} {at : ℕ} {cs : List Call} → Holds s at cs → at ≤ length s
held_inside {s} (start z) = (header_stands s z).long
held_inside {s} (enter {at = at} h r) = enter_long s at r
held_inside {s} (step {at = at} h r) = step_long s at r
held_inside {s} (crash {at = at} h r) = crash_long s at r

-- The first k bytes of a file.
module _ (s : List ℕ) (k : ℕ) (h : k ≤ length s) where
  same_mark : (at : ℕ) (t : String) → at + 2 ≤ k → marked (take k s) at t ≡ marked s at t
  same_mark at t l = ap₂ (spells t) (same_byte s k h at (omega arith)) (same_byte s k h (at + 1) (omega arith))

  same_held : {at : ℕ} {cs : List Call} → Holds s at cs → at ≤ k → Holds (take k s) at cs
  same_held (start z) l = start (stands_header (take k s) (same_header s k h l (header_stands s z)))
  same_held (enter {at = at} {cs = cs} g r) l =
      subst₂ (λ (p v : ℕ). Holds (take k s) (at + 7) (cs ++ enters p v ∷ [])) (same_byte s k h (at + 2) (omega arith)) (same_word s k h (at + 3) (omega arith))
      (enter (same_held g (omega arith)) (enter_if (take k s) at (same_mark at "EN" (omega arith) ∙ r.mark) (omega (arith, short_length s k h))))
  same_held (step {at = at} {cs = cs} g r) l =
      let e = same_mark at "ST" (omega arith) ∙ r.mark in
      subst (λ (p : ℕ). Holds (take k s) (at + 3) (cs ++ steps p ∷ [])) (same_byte s k h (at + 2) (omega arith))
      (step (same_held g (omega arith)) (short_if (take k s) at "ST" e (step_or (take k s) at e) (omega (arith, short_length s k h))))
  same_held (crash {at = at} {cs = cs} g r) l =
      let e = same_mark at "CR" (omega arith) ∙ r.mark in
      subst (λ (p : ℕ). Holds (take k s) (at + 3) (cs ++ crashes p ∷ [])) (same_byte s k h (at + 2) (omega arith))
      (crash (same_held g (omega arith)) (short_if (take k s) at "CR" e (crash_or (take k s) at e) (omega (arith, short_length s k h))))

-- What ends inside a record, and the calls before it.
module _ (s : List ℕ) (budget : ℕ) (cs : List Call) (at k : ℕ) (h : k ≤ length s) (l : at < k) where
  one_left : EndsInMark (take k s) budget at → (file_number (replay_of (take k s) budget).answer ≡ 11) × ((replay_of (take k s) budget).place ≡ at)
  one_left e = ((every_cut_exactly (take k s) budget).eleven at).1 e

  more_left : EndsInBody (take k s) budget → (file_number (replay_of (take k s) budget).answer ≡ 24) × ((replay_of (take k s) budget).place ≡ k)
  more_left e = ((every_cut_exactly (take k s) budget).twenty_four k).1 (e, sym (short_length s k h))

  -- a later record, from its mark on
  module _ (g : Holds s at cs) (b : length cs < budget)
      (body : (c : Comes (take k s) budget at) → at + 2 ≤ k → EndsInBody (take k s) budget × (first_that (lines_at (take k s) budget at c.calls) ≡ 24)) where
    comes : Comes (take k s) budget at
    comes = record { calls = cs; held = same_held s k h g (omega arith); left = b }

    ends_at : k ≡ at + 1 → length (take k s) ≡ at + 1
    ends_at e = short_length s k h ∙ e

    calls_if : (m : ℕ) → m ≢ 0 → first_that (lines_at (take k s) budget at cs) ≡ m → calls_of (take k s) budget ≡ cs
    unfolding comes
    calls_if m n e = calls_before (take k s) budget at cs comes.held b (omega (arith, short_length s k h)) (λ z. n (sym e ∙ z))

    later : CutInside s budget cs at k
    unfolding comes
    later =
        record {
          one = λ e. one_left (record { comes = inr comes; ends = ends_at e });
          more = λ e. more_left (body comes e).0;
          calls =
              ⊎_elim
              (λ e. calls_if 11 (λ z. omega arith) (one_record (take k s) budget at comes (ends_at (eqb-true k (at + 1) e))))
              (λ e. calls_if 24 (λ z. omega arith) (body comes (omega (arith, eqb-false k (at + 1) e))).1)
              (either (eqb k (at + 1)));
        }

pub every_cut_inside : EveryCutInside
every_cut_inside s budget cs at end k (opening z) b l m =
    let w = header_stands s z in
    let h : k ≤ length s = omega (arith, w.long) in
    let long = short_length s k h in
    let no : first_that (header_lines (take k s)) ≢ 0 = λ e. omega (arith, (header_stands (take k s) e).long, long) in
    record {
      one = λ e. one_left s budget [] 0 k h l (record { comes = inl refl; ends = omega (arith, e, long) });
      more = λ e. more_left s budget [] 0 k h l (in_header (cut_header s w k (omega arith)));
      calls = no_calls_of (take k s) budget no;
    }
every_cut_inside s budget cs at end k (entering g r) b l m =
    let h : k ≤ length s = omega (arith, enter_long s at r) in
    let long = short_length s k h in
    later s budget cs at k h l g b
    (λ c e. let q = same_mark s k h at "EN" e ∙ r.mark in (
      in_enter c q (omega (arith, long)) (omega (arith, long)),
      enter-ends (take k s) budget at c q (omega (arith, long)) (omega (arith, long)),
    ))
every_cut_inside s budget cs at end k (stepping g r) b l m =
    let h : k ≤ length s = omega (arith, step_long s at r) in
    let long = short_length s k h in
    later s budget cs at k h l g b
    (λ c e. let q = step_or (take k s) at (same_mark s k h at "ST" e ∙ r.mark) in
    (in_short c q (omega (arith, long)), short_ends (take k s) budget at c q (omega (arith, long))))
every_cut_inside s budget cs at end k (crashing g r) b l m =
    let h : k ≤ length s = omega (arith, crash_long s at r) in
    let long = short_length s k h in
    later s budget cs at k h l g b
    (λ c e. let q = crash_or (take k s) at (same_mark s k h at "CR" e ∙ r.mark) in
    (in_short c q (omega (arith, long)), short_ends (take k s) budget at c q (omega (arith, long))))

pub every_cut_between : EveryCutBetween
every_cut_between s budget cs at g b =
    let h = held_inside g in
    (whole_exactly (take at s) budget cs).1
    (subst (λ (x : ℕ). Holds (take at s) x cs) (sym (short_length s at h)) (same_held s at h g (omega arith)), b)
