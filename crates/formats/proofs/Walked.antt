-- The definition of reading and the table walk a file alike: the places that the definition comes to are the table's, with the views that the
-- records before them carry.
use Prim.Native.Nat.{ℕ, ◌+◌, ◌-◌, ◌*◌, ◌≤◌, ◌<◌}
use mathlib.Core.Bool.{Bool, true, false, ◌||◌, true≢false, or-true}
use mathlib.Core.Path.{◌≡◌, refl, sym, ap, ◌∙◌, subst}
use mathlib.Core.Logic.{◌≢◌, ⊎_elim}
use mathlib.Core.List.Memᴰ
use mathlib.Core.List.{List, [], ◌∷◌, Memᴰ}
use native.Mathlib.Omega.{arith}
use lib.Dec.{eqb}
use lib.ListN.{length, length-replicate, length-set}
use borrow.Author.Tests.{eqb-true, eq-eqb, ne_eqb}
use Rattle.std.specs.Prelude.{Result, Some, None, Ok, Err}
use Rattle.sets.specs.Members.{has, count, size}
use Rattle.sets.specs.Sets.{plus, first, within}
use Rattle.sets.specs.Lines.{first_that}
use Rattle.sets.proofs.Laws.{either, has-known, has_zero, members_equal, has-plus-same, has-plus_other, plus-below}
use Rattle.formats.specs.declared.FileAnswer.{FileAnswer}
use Rattle.formats.specs.declared.ViewRecord.{ViewRecord}
use Rattle.formats.specs.declared.Views.{Views}
use Rattle.formats.specs.Records.{byte_at, word_at, header_of, AtPlace}
use Rattle.formats.specs.Views.{seen_by, value_by, cell, none_of}
use Rattle.formats.specs.ViewFile.{tested_at, with_view}
use Rattle.formats.specs.Table.{process_at, set_at, value_at, end_at, viewed, record_lines, Reached, Carried}
use Rattle.formats.specs.Table as table
use Rattle.formats.proofs.Reading.{View, Passed, passed, opened}
use Rattle.formats.proofs.Values.{values_length, Room, seen_here, seen_other, value_in_lem, value_out, value_other, by_place, by_cell, zeros, by_one}
use Rattle.formats.proofs.Table.{fault_number, record_number, header_number, header_refused, not_end, record_refused}

-- The places that the definition of reading comes to, each with the records before it and the views read of them.
pub data Walked (s : List ℕ) : ℕ → List ℕ → Views → Type 0 where
  start : {n : ℕ} → header_of s ≡ Ok n → Walked s 3 [] (none_of n)
  more : {at : ℕ} {before : List ℕ} {v : Views} {p w : ℕ} → Walked s at before v → tested_at s at v.n v.own ≡ View p w
      → Walked s (at + (7 + 4 * size w)) (at ∷ before) (with_view s at v p w)

-- a record among those at the places is of its process
viewed_in : (s : List ℕ) {at : ℕ} (places : List ℕ) → Memᴰ at places → viewed s (process_at s at) places ≡ true
viewed_in s [] m = absurd (Memᴰ.not-nil m)
viewed_in s {at} (b ∷ places) m =
    ⊎_elim
    (λ e. ap (λ (t : Bool). t || viewed s (process_at s at) places) (eq-eqb (process_at s b) (process_at s at) (ap (process_at s) (sym e))))
    (λ m. ap (λ (t : Bool). eqb (process_at s b) (process_at s at) || t) (viewed_in s places m) ∙ or-true (eqb (process_at s b) (process_at s at)))
    (Memᴰ.cases_cons m)

pub in_viewed : (s : List ℕ) (p : ℕ) (places : List ℕ) → viewed s p places ≡ true → (at : ℕ) × Memᴰ at places × (process_at s at ≡ p)
in_viewed s p [] e = absurd (true≢false (sym e))
in_viewed s p (b ∷ places) e =
    ⊎_elim
    (λ h. (b, Memᴰ.head refl, eqb-true (process_at s b) p h))
    (λ h. let r = in_viewed s p places (sym (ap (λ (t : Bool). t || viewed s p places) h) ∙ e) in (r.0, Memᴰ.tail r.1, r.2))
    (either (eqb (process_at s b) p))

-- Before any record there are no views,
carried_none : (s : List ℕ) (n : ℕ) → n ≡ byte_at s 2 → Carried s [] (none_of n)
carried_none s n e =
    record {
      n = e;
      own = has_zero;
      seen = λ at m. absurd (Memᴰ.not-nil m);
      value = λ at j m h. absurd (Memᴰ.not-nil m);
      no_view = λ i a b h. zeros 32 (i - 1);
      no_member = λ i j a b c d h. zeros 1024 (cell i j);
      own_fits = omega arith;
      seats = length-replicate {A = ℕ} 32 0;
      cells = length-replicate {A = ℕ} 1024 0;
    }

-- and each record adds its process's.
module _ (s : List ℕ) (at : ℕ) (before : List ℕ) (v : Views) (p w : ℕ) (c : Carried s before v) (most : v.n ≤ 32) (t : Passed s at v.n v.own p w) where
  room : Room v p
  room = record { seats = c.seats; cells = c.cells; low = t.low; high = omega (arith, t.high) }

  -- a record before is of another process
  other : (b : ℕ) → Memᴰ b before → process_at s b ≢ p
  other b m e = true≢false (sym (viewed_in s before m) ∙ ap (λ (q : ℕ). viewed s q before) e ∙ sym (c.own p) ∙ t.new)

  low : (b : ℕ) → Memᴰ b before → 1 ≤ process_at s b
  low b m = (has-known v.own (process_at s b) (c.own (process_at s b) ∙ viewed_in s before m)).0

  out : (j : ℕ) → 1 ≤ j → j ≤ 32 → has w j ≡ false → value_by (with_view s at v p w) p j ≡ 0
  out j a b h =
      let none : seen_by v p ≡ 0 = c.no_view p t.low room.high t.new in
      value_out s at v p w room j a h ∙ c.no_member p j t.low room.high a b (ap (λ (x : ℕ). has x j) none ∙ has_zero j)

  carried_more : Carried s (at ∷ before) (with_view s at v p w)
  carried_more =
      let next : Views = with_view s at v p w in
      record {
        n = c.n;
        own = λ q.
            by_one (λ q. has (plus v.own p) q ≡ (eqb (process_at s at) q || viewed s q before)) p q
            (has-plus-same v.own p t.low room.high
            ∙ sym (ap (λ (b : Bool). b || viewed s p before) (eq-eqb (process_at s at) p (sym t.process))))
            (λ n. has-plus_other v.own p q (λ e. n (sym e)) ∙ c.own q
            ∙ sym (ap (λ (b : Bool). b || viewed s q before) (ne_eqb (process_at s at) q (λ e. n (sym e ∙ sym t.process)))));
        seen = λ b m.
            ⊎_elim
            (λ e. ap (λ (x : ℕ). seen_by next (process_at s x)) e ∙ ap (seen_by next) (sym t.process) ∙ seen_here s at v p w room ∙ t.set
            ∙ ap (set_at s) (sym e))
            (λ m. seen_other s at v p w room (process_at s b) (low b m) (other b m) ∙ c.seen b m)
            (Memᴰ.cases_cons m);
        value = λ b j m h.
            let k = has-known (set_at s b) j h in
            ⊎_elim
            (λ e.
            let q : has w j ≡ true = ap (λ (x : ℕ). has x j) (t.set ∙ ap (set_at s) (sym e)) ∙ h in
            ap (λ (x : ℕ). value_by next (process_at s x) j) e ∙ ap (λ (x : ℕ). value_by next x j) (sym t.process)
            ∙ value_in_lem s at v p w room j k.0 k.1 q
            ∙ ap (λ (x : ℕ). word_at s (at + 7 + 4 * count (has x) (j - 1))) t.set ∙ ap (λ (x : ℕ). value_at s x j) (sym e))
            (λ m. value_other s at v p w room (process_at s b) j (low b m) k.0 k.1 (other b m) ∙ c.value b j m h)
            (Memᴰ.cases_cons m);
        no_view = λ i l h.
            by_one (λ i. has (plus v.own p) i ≡ false → seen_by next i ≡ 0) p i
            (λ e. absurd (true≢false (sym (has-plus-same v.own p t.low room.high) ∙ e)))
            (λ n e. seen_other s at v p w room i l n ∙ c.no_view i l h (sym (has-plus_other v.own p i (λ q. n (sym q))) ∙ e));
        no_member = λ i j l h m k.
            by_one (λ i. has (seen_by next i) j ≡ false → value_by next i j ≡ 0) p i
            (λ e. out j m k (ap (λ (x : ℕ). has x j) (sym (seen_here s at v p w room)) ∙ e))
            (λ n e. value_other s at v p w room i j l m k n
            ∙ c.no_member i j l h m k (ap (λ (x : ℕ). has x j) (sym (seen_other s at v p w room i l n)) ∙ e));
        own_fits = plus-below v.own p c.own_fits;
        seats = length-set v.seen (p - 1) w ∙ c.seats;
        cells = values_length s (at + 7) p w v.values 32 ∙ c.cells;
      }

pub walked_some : {s : List ℕ} {at : ℕ} {before : List ℕ} {v : Views} → Walked s at before v → 1 ≤ v.n
walked_some {s} (start {n = n} e) = (opened s n e).some
walked_some (more r e) = walked_some r

pub walked_most : {s : List ℕ} {at : ℕ} {before : List ℕ} {v : Views} → Walked s at before v → v.n ≤ 32
walked_most {s} (start {n = n} e) = (opened s n e).most
walked_most (more r e) = walked_most r

pub walked_carried : {s : List ℕ} {at : ℕ} {before : List ℕ} {v : Views} → Walked s at before v → Carried s before v
walked_carried {s} (start {n = n} e) = carried_none s n (opened s n e).byte
walked_carried {s} (more {at = at} {before = before} {v = v} {p = p} {w = w} r e) =
    carried_more s at before v p w (walked_carried r) (walked_most r) (passed s at v.n v.own p w e)

-- The table's places are those of the definition.
module _ {s : List ℕ} {at : ℕ} {before : List ℕ} {v : Views} (r : Walked s at before v) where
  pub walked_number : at < length s → fault_number (tested_at s at v.n v.own) ≡ first_that (record_lines s at before)
  walked_number l =
      let c = walked_carried r in
      record_number s at v.n v.own before l c.n (c.own (process_at s at))

-- the place after a view
end_same : (s : List ℕ) (at w : ℕ) → w ≡ set_at s at → at + (7 + 4 * size w) ≡ end_at s at
end_same s at w e = ap (λ (x : ℕ). at + (7 + 4 * size x)) e ∙ omega arith

pub walked_reached : {s : List ℕ} {at : ℕ} {before : List ℕ} {v : Views} → Walked s at before v → Reached s at before
walked_reached {s} (start e) = table.start (sym (header_number s) ∙ ap fault_number e)
walked_reached {s} (more {at = at} {before = before} {v = v} {p = p} {w = w} r e) =
    let t = passed s at v.n v.own p w e in
    let l : at < length s = omega (arith, t.whole) in
    subst (λ (y : ℕ). Reached s y (at ∷ before)) (sym (end_same s at w t.set))
    (table.more (walked_reached r) l (sym (walked_number r l) ∙ ap fault_number e))

-- where no line applies there is a header, or a view
header_by_lem : (s : List ℕ) (x : Result ℕ FileAnswer) → header_of s ≡ x → fault_number x ≡ 0 → (v : Views) × Walked s 3 [] v
header_by_lem s (Ok n) e z = (none_of n, start e)
header_by_lem s (Err a) e z = absurd (header_refused s a e z)

record_by : {s : List ℕ} {at : ℕ} {before : List ℕ} {v : Views} → Walked s at before v → at < length s
    → (x : AtPlace ViewRecord) → tested_at s at v.n v.own ≡ x → fault_number x ≡ 0 → (u : Views) × Walked s (end_at s at) (at ∷ before) u
record_by {s} {at} {before} {v} r l (Ok None) e z = absurd (not_end s at v.n v.own l e)
record_by {s} {at} {before} {v} r l (Err a) e z = absurd (record_refused s at v.n v.own a l e z)
record_by {s} {at} {before} {v} r l (Ok (Some x)) e z =
    let p : ℕ = x.process in
    let w : ℕ = x.set in
    let u : Views = with_view s at v p w in
    (u, subst (λ (y : ℕ). Walked s y (at ∷ before) u) (end_same s at w (passed s at v.n v.own p w e).set) (more r e))

pub reached_walked : {s : List ℕ} {at : ℕ} {before : List ℕ} → Reached s at before → (v : Views) × Walked s at before v
reached_walked {s} (table.start e) = header_by_lem s (header_of s) refl (header_number s ∙ e)
reached_walked {s} (table.more {at = at} r l e) =
    let v = reached_walked r in
    record_by v.1 l (tested_at s at v.0.n v.0.own) refl (walked_number v.1 l ∙ e)

-- The records at places carry one set of views.
module _ (s places : List ℕ) (u v : Views) (c : Carried s places u) (d : Carried s places v) where
  same_seen_lem : (i : ℕ) → 1 ≤ i → i ≤ 32 → seen_by u i ≡ seen_by v i
  same_seen_lem i a b =
      ⊎_elim
      (λ e. let r = in_viewed s i places e in
      ap (seen_by u) (sym r.2) ∙ c.seen r.0 r.1 ∙ sym (d.seen r.0 r.1) ∙ ap (seen_by v) r.2)
      (λ e. c.no_view i a b (c.own i ∙ e) ∙ sym (d.no_view i a b (d.own i ∙ e)))
      (either (viewed s i places))

  -- no values beside a process that is not named
  same_none : (i j : ℕ) → 1 ≤ i → i ≤ 32 → 1 ≤ j → j ≤ 32 → has (seen_by u i) j ≡ false → value_by u i j ≡ value_by v i j
  same_none i j a b k l e =
      c.no_member i j a b k l e ∙ sym (d.no_member i j a b k l (ap (λ (x : ℕ). has x j) (sym (same_seen_lem i a b)) ∙ e))

  same_value : (i j : ℕ) → 1 ≤ i → i ≤ 32 → 1 ≤ j → j ≤ 32 → value_by u i j ≡ value_by v i j
  same_value i j a b k l =
      ⊎_elim
      (λ h. ⊎_elim
      (λ e. let r = in_viewed s i places e in
      let q : has (set_at s r.0) j ≡ true
      = ap (λ (x : ℕ). has x j) (sym (c.seen r.0 r.1) ∙ ap (seen_by u) r.2) ∙ h in
      ap (λ (x : ℕ). value_by u x j) (sym r.2) ∙ c.value r.0 j r.1 q ∙ sym (d.value r.0 j r.1 q)
      ∙ ap (λ (x : ℕ). value_by v x j) r.2)
      (λ e. same_none i j a b k l (ap (λ (x : ℕ). has x j) (c.no_view i a b (c.own i ∙ e)) ∙ has_zero j))
      (either (viewed s i places)))
      (same_none i j a b k l)
      (either (has (seen_by u i) j))

  pub carried_one : u ≡ v
  carried_one =
      let n : u.n ≡ v.n = c.n ∙ sym d.n in
      let own : u.own ≡ v.own
      = members_equal u.own v.own c.own_fits d.own_fits (λ i. c.own i ∙ sym (d.own i)) in
      let seen : u.seen ≡ v.seen = by_place u.seen v.seen 32 c.seats d.seats same_seen_lem in
      let values : u.values ≡ v.values = by_cell u.values v.values c.cells d.cells same_value in
      λ i. record { n = n i; own = own i; seen = seen i; values = values i }

-- Each record before has passed its tests.
pub record Named (s : List ℕ) (n at : ℕ) : Type 0 where
  pub process : process_at s at ≤ n
  pub inside : within (set_at s at) (first n) ≡ true

pub walked_named : {s : List ℕ} {at : ℕ} {before : List ℕ} {v : Views} → Walked s at before v → (b : ℕ) → Memᴰ b before → Named s v.n b
walked_named (start e) b m = absurd (Memᴰ.not-nil m)
walked_named {s} (more {at = at} {v = v} {p = p} {w = w} r e) b m =
    let t = passed s at v.n v.own p w e in
    ⊎_elim
    (λ q. let z : process_at s b ≡ p = ap (process_at s) q ∙ sym t.process in
    record {
      process = subst (λ (x : ℕ). x ≤ v.n) (sym z) t.high;
      inside = ap (λ (x : ℕ). within x (first v.n)) (ap (set_at s) q ∙ sym t.set) ∙ t.inside;
    })
    (λ m. walked_named r b m)
    (Memᴰ.cases_cons m)
