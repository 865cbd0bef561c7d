-- Reading along a whole file: it comes to its end, or to the first record that is refused, and each number is given exactly when it applies there.
-- So a file that is read gives views in range, and a refused one none.
use Prim.Native.Nat.{ℕ, zero, suc, ◌+◌, ◌*◌, ◌≤◌, ◌<◌}
use mathlib.Core.Bool.{true, false, true≢false}
use mathlib.Core.Path.{◌≡◌, refl, sym, ap, ◌∙◌, subst}
use mathlib.Core.Logic.{inl, inr, ◌≢◌, ⊎_elim}
use mathlib.Core.List.{List, [], ◌∷◌}
use native.Mathlib.Nat.{eq-or-lt_of_le}
use native.Mathlib.Omega.{arith}
use lib.ListN.{length}
use borrow.Author.Tests.{eqb-true}
use Rattle.std.specs.Prelude.{Result, Some, None, Ok, Err}
use Rattle.sets.specs.Members.{size}
use Rattle.formats.specs.declared.FileAnswer.{FileAnswer}
use Rattle.formats.specs.declared.ViewRecord.{ViewRecord}
use Rattle.formats.specs.declared.Views.{Views}
use Rattle.formats.specs.declared.ViewsRead.{ViewsRead}
use Rattle.formats.specs.Numbers.{file_number, is_whole}
use Rattle.formats.specs.Records.{header_of, AtPlace}
use Rattle.formats.specs.Views.{none_of}
use Rattle.formats.specs.Range.{InRange}
use Rattle.formats.specs.ViewFile.{tested_at, with_view, refused_at, read_whole, read_next, read_from, read_by, read_of}
use Rattle.formats.specs.Table.{Refusal, place_given, RefusedExactly, ReadExactly}
use Rattle.formats.specs.Promises.{ReadInRange, ReadPlace, RefusedGivesNone}
use Rattle.formats.proofs.Reading.{View, passed, opened}
use Rattle.formats.proofs.Turns.{read_end, read_fault, read_view}
use Rattle.formats.proofs.Ranges.{walked_in_range}
use Rattle.formats.proofs.Table.{fault_number, header_number, header_refused, not_end, record_refused, at_end}
use Rattle.formats.proofs.Walked.{Walked, start, more, walked_carried, walked_number, walked_reached, reached_walked, carried_one}

-- At a place that reading comes to, the rest is read with turns enough.
record Comes (s : List ℕ) (at : ℕ) (v : Views) : Type 0 where
  turns : ℕ
  enough : length s < at + turns
  inside : at ≤ length s
  same : read_of s ≡ read_from turns s at v

comes : {s : List ℕ} {at : ℕ} {before : List ℕ} {v : Views} → Walked s at before v → Comes s at v
unfolding read_of
comes {s} (start {n = n} e) =
    record { turns = length s; enough = omega arith; inside = (opened s n e).long; same = ap (read_by s) e }
comes {s} (more {at = at} {v = v} {p = p} {w = w} r e) =
    let c : Comes s at v = comes r in
    let next = read_view c.turns s at v c.inside c.enough p w e in
    record { turns = next.0; enough = next.1; inside = (passed s at v.n v.own p w e).whole; same = c.same ∙ next.2 }

-- Where reading ends.
data Ends (s : List ℕ) (r : ViewsRead) : Type 0 where
  whole : (places : List ℕ) (v : Views) → Walked s (length s) places v → r ≡ read_whole s v → Ends s r
  refused : (a : FileAnswer) (at : ℕ) (before : List ℕ) (v : Views) → Walked s at before v → at < length s
      → tested_at s at v.n v.own ≡ Err a → r ≡ refused_at s a at → Ends s r

ends_by : (s : List ℕ) (at : ℕ) (before : List ℕ) (v : Views) → Walked s at before v → at ≤ length s → (next : ℕ → Views → ViewsRead)
    → ((p w : ℕ) → tested_at s at v.n v.own ≡ View p w → Ends s (next (at + (7 + 4 * size w)) (with_view s at v p w)))
    → (x : AtPlace ViewRecord) → tested_at s at v.n v.own ≡ x → Ends s (read_next s at v x next)
ends_by s at before v r l next go (Ok None) e =
    ⊎_elim
    (λ q. whole before v (subst (λ (y : ℕ). Walked s y before v) q r) refl)
    (λ q. absurd (not_end s at v.n v.own q e))
    (eq-or-lt_of_le l)
ends_by s at before v r l next go (Err a) e =
    ⊎_elim
    (λ q. let z : ◌≡◌ {A = AtPlace ViewRecord} (Ok None) (Err a) = sym (at_end s at v.n v.own (omega arith)) ∙ e in
    cc)
    (λ q. refused a at before v r q e refl)
    (eq-or-lt_of_le l)
ends_by s at before v r l next go (Ok (Some x)) e = go x.process x.set e

ends : (turns : ℕ) (s : List ℕ) (at : ℕ) (before : List ℕ) (v : Views) → Walked s at before v → at ≤ length s → length s < at + turns
    → Ends s (read_from turns s at v)
unfolding read_from
ends zero s at before v r l h = absurd (omega arith)
ends (suc k) s at before v r l h =
    ends_by s at before v r l (read_from k s)
    (λ p w e. ends k s (at + (7 + 4 * size w)) (at ∷ before) (with_view s at v p w) (more r e) (passed s at v.n v.own p w e).whole (omega arith))
    (tested_at s at v.n v.own) refl

-- a file's header, or where its reading ends
data FileEnds (s : List ℕ) : Type 0 where
  header : (a : FileAnswer) → header_of s ≡ Err a → read_of s ≡ refused_at s a 0 → FileEnds s
  records : Ends s (read_of s) → FileEnds s

file_by : (s : List ℕ) (x : Result ℕ FileAnswer) → header_of s ≡ x → FileEnds s
unfolding read_of
file_by s (Err a) e = header a e (ap (read_by s) e)
file_by s (Ok n) e =
    records (subst (Ends s) (sym (ap (read_by s) e)) (ends (length s) s 3 [] (none_of n) (start e) (opened s n e).long (omega arith)))

file_ends : (s : List ℕ) → FileEnds s
file_ends s = file_by s (header_of s) refl

-- a refusal is no whole reading
never_whole : (s : List ℕ) (a : FileAnswer) (at : ℕ) (v : Views) → file_number a ≢ 0 → read_of s ≡ refused_at s a at → read_of s ≡ read_whole s v → ⊥
never_whole s a at v n e f = n (ap (λ (r : ViewsRead). file_number r.answer) (sym e ∙ f))

read_whole_lem : (s : List ℕ) (v : Views) → read_of s ≡ read_whole s v → FileEnds s → (places : List ℕ) × Walked s (length s) places v
read_whole_lem s v e (header a h q) = absurd (never_whole s a 0 v (header_refused s a h) q e)
read_whole_lem s v e (records (whole places u r q)) = (places, subst (Walked s (length s) places) (ap (λ (x : ViewsRead). x.views) (sym q ∙ e)) r)
read_whole_lem s v e (records (refused a at before u r l t q)) = absurd (never_whole s a at v (record_refused s at u.n u.own a l t) q e)

pub walked_read : {s places : List ℕ} {v : Views} → Walked s (length s) places v → read_of s ≡ read_whole s v
walked_read {s} {places} {v} r =
    let c = comes r in
    c.same ∙ read_end c.turns s (length s) v c.inside c.enough (at_end s (length s) v.n v.own (omega arith))

pub read_exactly : ReadExactly
read_exactly s v = (
  λ e. let w = read_whole_lem s v e (file_ends s) in (w.0, walked_reached w.1, walked_carried w.1),
  λ p. let w = reached_walked p.1 in
      walked_read w.1 ∙ ap (read_whole s) (carried_one s p.0 w.0 v (walked_carried w.1) p.2),
)

-- the place of a refusal, by its number
refused_place : (s : List ℕ) (a : FileAnswer) (k at : ℕ) → read_of s ≡ refused_at s a at → file_number a ≡ k → (read_of s).place ≡ place_given s k at
refused_place s a k at q e = ap (λ (x : ViewsRead). x.place) q ∙ ap (λ (x : ℕ). place_given s x at) e

-- number k applies at a record, and the place answered with it
Refused : List ℕ → ℕ → ℕ → Type 0
Refused s k place = (at : ℕ) × Refusal s k at × (place ≡ place_given s k at)

refusal : (s : List ℕ) (k place : ℕ) → k ≢ 0 → file_number (read_of s).answer ≡ k → (read_of s).place ≡ place → FileEnds s → Refused s k place
unfolding Refused
refusal s k place n e p (header a h q) =
    let number : file_number a ≡ k = sym (ap (λ (x : ViewsRead). file_number x.answer) q) ∙ e in
    (0, inl (refl, sym (header_number s) ∙ ap fault_number h ∙ number), sym p ∙ refused_place s a k 0 q number)
refusal s k place n e p (records (whole places v r q)) = absurd (n (sym e ∙ ap (λ (x : ViewsRead). file_number x.answer) q))
refusal s k place n e p (records (refused a at before v r l t q)) =
    let number : file_number a ≡ k = sym (ap (λ (x : ViewsRead). file_number x.answer) q) ∙ e in
    (at, inr (before, walked_reached r, l, sym (walked_number r l) ∙ ap fault_number t ∙ number), sym p ∙ refused_place s a k at q number)

-- the other way
Answers : List ℕ → ℕ → ℕ → Type 0
Answers s k at = (file_number (read_of s).answer ≡ k) × ((read_of s).place ≡ place_given s k at)

answers : (s : List ℕ) (a : FileAnswer) (k at : ℕ) → read_of s ≡ refused_at s a at → file_number a ≡ k → Answers s k at
unfolding Answers
answers s a k at q e = (ap (λ (x : ViewsRead). file_number x.answer) q ∙ e, refused_place s a k at q e)

header_answers : (s : List ℕ) (k : ℕ) → k ≢ 0 → (x : Result ℕ FileAnswer) → header_of s ≡ x → fault_number x ≡ k → Answers s k 0
unfolding read_of
header_answers s k n (Ok m) e f = absurd (n (sym f))
header_answers s k n (Err a) e f = answers s a k 0 (ap (read_by s) e) f

record_answers : (s : List ℕ) (k at : ℕ) (before : List ℕ) (v : Views) → k ≢ 0 → Walked s at before v
    → (x : AtPlace ViewRecord) → tested_at s at v.n v.own ≡ x → fault_number x ≡ k → Answers s k at
record_answers s k at before v n r (Ok None) e f = absurd (n (sym f))
record_answers s k at before v n r (Ok (Some x)) e f = absurd (n (sym f))
record_answers s k at before v n r (Err a) e f =
    let c = comes r in
    answers s a k at (c.same ∙ read_fault c.turns s at v c.inside c.enough a e) f

refused_at_lem : (s : List ℕ) (k at : ℕ) → k ≢ 0 → Refusal s k at → Answers s k at
refused_at_lem s k at n =
    ⊎_elim
    (λ p. subst (Answers s k) (sym p.0) (header_answers s k n (header_of s) refl (header_number s ∙ p.1)))
    (λ p. let w = reached_walked p.1 in
    let v = w.0 in
    record_answers s k at p.0 v n w.1 (tested_at s at v.n v.own) refl (walked_number w.1 p.2 ∙ p.3))

pub refused_exactly : RefusedExactly
unfolding Refused Answers
refused_exactly s k place n = (
  λ p. refusal s k place n p.0 p.1 (file_ends s),
  λ p. let a = refused_at_lem s k p.0 n p.1 in (a.0, a.1 ∙ sym p.2),
)

-- an answer that is accepted is no refusal, and the other way round
zero_if : (a : FileAnswer) → is_whole a ≡ true → file_number a ≡ 0
zero_if a e = eqb-true (file_number a) 0 e

-- so it was read to the end
record ToTheEnd (s : List ℕ) : Type 0 where
  places : List ℕ
  views : Views
  walked : Walked s (length s) places views
  same : read_of s ≡ read_whole s views

to_the_end : (s : List ℕ) → is_whole (read_of s).answer ≡ true → FileEnds s → ToTheEnd s
to_the_end s t (header a h q) = absurd (header_refused s a h (sym (ap (λ (x : ViewsRead). file_number x.answer) q) ∙ zero_if (read_of s).answer t))
to_the_end s t (records (whole places v r q)) = record { places = places; views = v; walked = r; same = q }
to_the_end s t (records (refused a at before v r l e q)) =
    absurd (record_refused s at v.n v.own a l e (sym (ap (λ (x : ViewsRead). file_number x.answer) q) ∙ zero_if (read_of s).answer t))

pub read_in_range : ReadInRange
read_in_range f t =
    let s = f.content in
    let e = to_the_end s t (file_ends s) in
    subst InRange (sym (ap (λ (x : ViewsRead). x.views) e.same)) (walked_in_range s (length s) e.places e.views f.bytes e.walked)

pub read_place : ReadPlace
read_place s t = ap (λ (x : ViewsRead). x.place) (to_the_end s t (file_ends s)).same

none_if : (s : List ℕ) → is_whole (read_of s).answer ≡ false → FileEnds s → (read_of s).views ≡ none_of 0
none_if s t (header a h q) = ap (λ (x : ViewsRead). x.views) q
none_if s t (records (whole places v r q)) = absurd (true≢false (sym (ap (λ (x : ViewsRead). is_whole x.answer) q) ∙ t))
none_if s t (records (refused a at before v r l e q)) = ap (λ (x : ViewsRead). x.views) q

pub refused_gives_none : RefusedGivesNone
refused_gives_none s t = none_if s t (file_ends s)
