-- A written view file reads back as the same views: after the records of the processes up to i, just their views are read.
use Prim.Native.Nat.{ℕ, zero, suc, ◌+◌, ◌-◌, ◌*◌, ◌/◌, ◌%◌, ◌^◌, ◌≤◌, ◌<◌}
use mathlib.Core.Bool.{Bool, true, false, ◌&&◌, cond, and-false}
use mathlib.Core.Path.{◌≡◌, refl, sym, ap, ap₂, ◌∙◌, subst}
use mathlib.Core.Logic.{◌≢◌, ⊎_elim}
use mathlib.Core.List.{List, [], ◌∷◌, ◌++◌, append_assoc}
use native.Mathlib.Omega.{arith}
use lib.Dec.{leb}
use lib.ListN.{length, length-append, length-replicate, length-set}
use borrow.Author.Tests.{le-leb, lt-leb}
use Rattle.sets.specs.Members.{has, count, size}
use Rattle.sets.specs.Sets.{plus, first, within}
use Rattle.sets.proofs.Laws.{either, has-known, has_zero, true_known, members_equal, has-plus-same, has-plus_other, plus-below, has_first, true_within}
use Rattle.formats.specs.declared.Views.{Views}
use Rattle.formats.specs.Records.{byte_at, word_at, word_bytes}
use Rattle.formats.specs.Views.{owns, seen_by, value_by, cell, none_of}
use Rattle.formats.specs.Range.{InRange, ReadsBack}
use Rattle.text.specs.Parts.{joined}
use Rattle.formats.specs.ViewFile.{value_bytes, view_bytes, file_of, tested_at, with_view, read_whole, read_from, read_by, read_of}
use Rattle.formats.specs.Promises.{Bytes, WritesBytes}
use Rattle.formats.proofs.Reading.{View}
use Rattle.formats.proofs.Tests.{leb_same}
use Rattle.formats.proofs.Values.{values_length, Room, seen_here, seen_other, value_in_lem, value_out, value_other, by_place, by_cell, zeros, by_one}
use Rattle.formats.proofs.Turns.{read_end, read_view}
use Rattle.formats.proofs.Table.{tested_view_lem, header_read, at_end}
use Rattle.formats.proofs.Bytes.{word_back, byte_past, word_past, values_bytes, value_stands}

-- u has just the views that v has of the processes up to i
record Upto (v : Views) (i : ℕ) (u : Views) : Type 0 where
  same : u.n ≡ v.n
  seats : length u.seen ≡ 32
  cells : length u.values ≡ 1024
  fits : u.own < 2 ^ 32
  own : (j : ℕ) → has u.own j ≡ (has v.own j && leb j i)
  seen : (j : ℕ) → 1 ≤ j → j ≤ 32 → seen_by u j ≡ cond (leb j i) (seen_by v j) 0
  value : (j k : ℕ) → 1 ≤ j → j ≤ 32 → 1 ≤ k → k ≤ 32 → value_by u j k ≡ cond (leb j i) (value_by v j k) 0

-- none to begin with, and all at the end
upto_none : (v : Views) → Upto v 0 (none_of v.n)
upto_none v =
    record {
      same = refl;
      seats = length-replicate {A = ℕ} 32 0;
      cells = length-replicate {A = ℕ} 1024 0;
      fits = omega arith;
      own = λ j.
          ⊎_elim
          (λ e. let h = has-known v.own j e in
          has_zero j ∙ sym (ap₂ ◌&&◌ e (lt-leb j 0 (omega arith))))
          (λ e. has_zero j ∙ sym (ap (λ (b : Bool). b && leb j 0) e))
          (either (has v.own j));
      seen = λ j a b. zeros 32 (j - 1) ∙ sym (ap (λ (c : Bool). cond c (seen_by v j) 0) (lt-leb j 0 (omega arith)));
      value = λ j k a b c d. zeros 1024 (cell j k) ∙ sym (ap (λ (e : Bool). cond e (value_by v j k) 0) (lt-leb j 0 (omega arith)));
    }

upto_all : (v u : Views) → InRange v → Upto v 32 u → u ≡ v
upto_all v u r t =
    let own : u.own ≡ v.own
    = members_equal u.own v.own t.fits r.own_fits
    (λ j. ⊎_elim
    (λ e. t.own j ∙ ap (λ (b : Bool). has v.own j && b) (le-leb j 32 (has-known v.own j e).1) ∙ ap (λ (b : Bool). b && true) e ∙ sym e)
    (λ e. t.own j ∙ ap (λ (b : Bool). b && leb j 32) e ∙ sym e)
    (either (has v.own j))) in
    let seen : u.seen ≡ v.seen
    = by_place u.seen v.seen 32 t.seats r.seats
    (λ j a b. t.seen j a b ∙ ap (λ (c : Bool). cond c (seen_by v j) 0) (le-leb j 32 b)) in
    let values : u.values ≡ v.values
    = by_cell u.values v.values t.cells r.cells
    (λ j k a b c d. t.value j k a b c d ∙ ap (λ (e : Bool). cond e (value_by v j k) 0) (le-leb j 32 b)) in
    λ i. record { n = t.same i; own = own i; seen = seen i; values = values i }

-- Process i + 1 or another: for another the tests "up to i" and "up to i + 1" say the same.
other_test : (i j : ℕ) → j ≢ suc i → leb j i ≡ leb j (suc i)
other_test i j n = leb_same j i j (suc i) (λ h. omega arith) (λ h. omega arith)

zero_either : (b : Bool) (x : ℕ) → x ≡ 0 → 0 ≡ cond b x 0
zero_either true x e = sym e
zero_either false x e = refl

-- a process without a view adds nothing
upto_skip : (v u : Views) (i : ℕ) → suc i ≤ 32 → InRange v → owns v (suc i) ≡ false → Upto v i u → Upto v (suc i) u
upto_skip v u i l r e t =
    let none : seen_by v (suc i) ≡ 0 = r.no_view (suc i) (omega arith) l e in
    let above : leb (suc i) i ≡ false = lt-leb (suc i) i (omega arith) in
    record {
      same = t.same;
      seats = t.seats;
      cells = t.cells;
      fits = t.fits;
      own = λ j.
          by_one (λ j. has u.own j ≡ (has v.own j && leb j (suc i))) (suc i) j
          (t.own (suc i) ∙ ap (λ (b : Bool). b && leb (suc i) i) e ∙ sym (ap (λ (b : Bool). b && leb (suc i) (suc i)) e))
          (λ n. t.own j ∙ ap (λ (b : Bool). has v.own j && b) (other_test i j n));
      seen = λ j a b.
          by_one (λ j. 1 ≤ j → j ≤ 32 → seen_by u j ≡ cond (leb j (suc i)) (seen_by v j) 0) (suc i) j
          (λ a b. t.seen (suc i) a b ∙ ap (λ (c : Bool). cond c (seen_by v (suc i)) 0) above ∙ zero_either (leb (suc i) (suc i)) (seen_by v (suc i)) none)
          (λ n a b. t.seen j a b ∙ ap (λ (c : Bool). cond c (seen_by v j) 0) (other_test i j n)) a b;
      value = λ j k a b c d.
          by_one (λ j. 1 ≤ j → j ≤ 32 → value_by u j k ≡ cond (leb j (suc i)) (value_by v j k) 0) (suc i) j
          (λ a b. t.value (suc i) k a b c d ∙ ap (λ (x : Bool). cond x (value_by v (suc i) k) 0) above
          ∙ zero_either (leb (suc i) (suc i)) (value_by v (suc i) k)
          (r.no_member (suc i) k a b c d (ap (λ (x : ℕ). has x k) none ∙ has_zero k)))
          (λ n a b. t.value j k a b c d ∙ ap (λ (x : Bool). cond x (value_by v j k) 0) (other_test i j n)) a b;
    }

-- a record whose values stand where they are looked for adds its process's view
upto_view : (v u : Views) (i : ℕ) (s : List ℕ) (at : ℕ) → suc i ≤ 32 → InRange v → owns v (suc i) ≡ true → Upto v i u
    → ((k : ℕ) → 1 ≤ k → k ≤ 32 → has (seen_by v (suc i)) k ≡ true
    → word_at s (at + 7 + 4 * count (has (seen_by v (suc i))) (k - 1)) ≡ value_by v (suc i) k)
    → Upto v (suc i) (with_view s at u (suc i) (seen_by v (suc i)))
upto_view v u i s at l r e t stands =
    let p : ℕ = suc i in
    let w : ℕ = seen_by v p in
    let room : Room u p = record { seats = t.seats; cells = t.cells; low = omega arith; high = l } in
    let here : leb p p ≡ true = le-leb p p (omega arith) in
    let above : leb p i ≡ false = lt-leb p i (omega arith) in
    record {
      same = t.same;
      seats = length-set u.seen (p - 1) w ∙ t.seats;
      cells = values_length s (at + 7) p w u.values 32 ∙ t.cells;
      fits = plus-below u.own p t.fits;
      own = λ j.
          by_one (λ j. has (plus u.own p) j ≡ (has v.own j && leb j p)) p j
          (has-plus-same u.own p (omega arith) l ∙ sym (ap₂ ◌&&◌ e here))
          (λ n. has-plus_other u.own p j (λ q. n (sym q)) ∙ t.own j ∙ ap (λ (b : Bool). has v.own j && b) (other_test i j n));
      seen = λ j a b.
          by_one (λ j. 1 ≤ j → j ≤ 32 → seen_by (with_view s at u p w) j ≡ cond (leb j p) (seen_by v j) 0) p j
          (λ a b. seen_here s at u p w room ∙ sym (ap (λ (c : Bool). cond c (seen_by v p) 0) here))
          (λ n a b. seen_other s at u p w room j a n ∙ t.seen j a b ∙ ap (λ (c : Bool). cond c (seen_by v j) 0) (other_test i j n)) a b;
      value = λ j k a b c d.
          by_one (λ j. 1 ≤ j → j ≤ 32 → value_by (with_view s at u p w) j k ≡ cond (leb j p) (value_by v j k) 0) p j
          (λ a b. ⊎_elim
          (λ h. value_in_lem s at u p w room k c d h ∙ stands k c d h ∙ sym (ap (λ (x : Bool). cond x (value_by v p k) 0) here))
          (λ h. value_out s at u p w room k c h ∙ t.value p k a b c d ∙ ap (λ (x : Bool). cond x (value_by v p k) 0) above
          ∙ zero_either (leb p p) (value_by v p k) (r.no_member p k a b c d h))
          (either (has w k)))
          (λ n a b. value_other s at u p w room j k a c d n ∙ t.value j k a b c d ∙ ap (λ (x : Bool). cond x (value_by v j k) 0) (other_test i j n)) a b;
    }

-- The record of process p in a file, after `pre` and before `rest`.
abbrev around : Views → ℕ → List ℕ → List ℕ → List ℕ
around v p pre rest = pre ++ (view_bytes v p ++ rest)

module _ (v : Views) (p : ℕ) (pre rest : List ℕ) (r : InRange v) (low : 1 ≤ p) (high : p ≤ 32) (o : owns v p ≡ true) where
  -- its fixed bytes, and then its values
  fixed : List ℕ
  fixed = 86 ∷ 87 ∷ p ∷ word_bytes (seen_by v p)

  tail : List ℕ
  tail = joined 1 32 (value_bytes v p) ++ rest

  parts : view_bytes v p ++ rest ≡ fixed ++ tail
  unfolding view_bytes fixed tail
  parts = refl

  record_length_lem : length (view_bytes v p) ≡ 7 + 4 * size (seen_by v p)
  unfolding view_bytes size
  record_length_lem = omega (arith, values_bytes v p 32)

  byte_here : (k x : ℕ) → byte_at (fixed ++ tail) k ≡ x → byte_at (around v p pre rest) (length pre + k) ≡ x
  byte_here k x e = byte_past pre (view_bytes v p ++ rest) k ∙ ap (λ l. byte_at l k) parts ∙ e

  tested : (own : ℕ) → has own p ≡ false → tested_at (around v p pre rest) (length pre) v.n own ≡ View p (seen_by v p)
  unfolding fixed
  tested own new =
      let w : ℕ = seen_by v p in
      let zero-past : length pre ≡ length pre + 0 = omega arith in
      let inside : within w (first v.n) ≡ true
      = true_within w (first v.n)
      (λ j h. let k = has-known w j h in
      has_first v.n j ∙ ap₂ ◌&&◌ (true_known j k.0 k.1) (le-leb j v.n (r.member p j low high h))) in
      let long : length pre + (7 + 4 * size w) ≤ length (around v p pre rest)
      = omega (arith, length-append pre (view_bytes v p ++ rest), length-append (view_bytes v p) rest, record_length_lem) in
      tested_view_lem (around v p pre rest) (length pre) v.n own p w
      (ap (byte_at (around v p pre rest)) zero-past ∙ byte_here 0 86 refl) (byte_here 1 87 refl) (byte_here 2 p refl)
      (word_past pre (view_bytes v p ++ rest) 3 ∙ ap (λ l. word_at l 3) parts ∙ word_back w tail (r.seen_fits p low high))
      low (r.owner p o) new inside long

  stand : (k : ℕ) → 1 ≤ k → k ≤ 32 → has (seen_by v p) k ≡ true
      → word_at (around v p pre rest) (length pre + 7 + 4 * count (has (seen_by v p)) (k - 1)) ≡ value_by v p k
  unfolding fixed tail
  stand k a b h =
      let m : ℕ = 4 * count (has (seen_by v p)) (k - 1) in
      let place : length pre + 7 + m ≡ length pre + (length fixed + m) = omega arith in
      ap (word_at (around v p pre rest)) place
      ∙ word_past pre (view_bytes v p ++ rest) (length fixed + m)
      ∙ ap (λ l. word_at l (length fixed + m)) parts
      ∙ word_past fixed tail m
      ∙ value_stands v p k rest a b h (r.value_fits p k low high a b)

-- the bytes of process i, none where it has no view
abbrev bytes_of : Views → ℕ → List ℕ
bytes_of v i = cond (owns v i) (view_bytes v i) []

-- The rest of a file, from process i + 1 on, d processes in all, is read to the end.
back : (v : Views) → InRange v → (d i : ℕ) → i + d ≡ 32 → (s pre : List ℕ) (u : Views) (turns : ℕ) → Upto v i u
    → s ≡ pre ++ joined (suc i) d (bytes_of v) → length s < length pre + turns → read_from turns s (length pre) u ≡ read_whole s v
unfolding joined
back v r zero i z s pre u turns t e h =
    let long : length s ≡ length pre = ap length e ∙ length-append pre [] ∙ omega arith in
    let all : i ≡ 32 = omega arith in
    read_end turns s (length pre) u (omega arith) h (at_end s (length pre) u.n u.own (omega arith))
    ∙ ap (read_whole s) (upto_all v u r (subst (λ (y : ℕ). Upto v y u) all t))
back v r (suc d) i z s pre u turns t e h =
    let p : ℕ = suc i in
    let rest : List ℕ = joined (suc p) d (bytes_of v) in
    let high : p ≤ 32 = omega arith in
    let next : p + d ≡ 32 = omega arith in
    ⊎_elim
    (λ o.
    let w : ℕ = seen_by v p in
    let f : s ≡ around v p pre rest
    = e ∙ ap (λ (b : Bool). pre ++ (cond b (view_bytes v p) [] ++ rest)) o in
    let new : has u.own p ≡ false
    = t.own p ∙ ap (λ (b : Bool). has v.own p && b) (lt-leb p i (omega arith)) ∙ and-false (has v.own p) in
    let here : tested_at s (length pre) u.n u.own ≡ View p w
    = ap₂ (λ (l : List ℕ) (n : ℕ). tested_at l (length pre) n u.own) f t.same ∙ tested v p pre rest r (omega arith) high o u.own new in
    let long : length pre ≤ length s = omega (arith, ap length e, length-append pre (joined p (suc d) (bytes_of v))) in
    let step = read_view turns s (length pre) u long h p w here in
    let pre' : List ℕ = pre ++ view_bytes v p in
    let past : length pre' ≡ length pre + (7 + 4 * size w)
    = length-append pre (view_bytes v p) ∙ ap (λ (k : ℕ). length pre + k) (record_length_lem v p pre rest r (omega arith) high o) in
    let whole : s ≡ pre' ++ rest = f ∙ sym (append_assoc pre (view_bytes v p) rest) in
    let u' : Views = with_view s (length pre) u p w in
    let t' : Upto v p u'
    = upto_view v u i s (length pre) high r o t
    (λ k a b q. ap (λ (l : List ℕ). word_at l (length pre + 7 + 4 * count (has w) (k - 1))) f ∙ stand v p pre rest r (omega arith) high o k a b q) in
    step.2
    ∙ ap (λ (k : ℕ). read_from step.0 s k u') (sym past)
    ∙ back v r d p next s pre' u' step.0 t' whole (omega (arith, step.1, past)))
    (λ o.
    let whole : s ≡ pre ++ rest = e ∙ ap (λ (b : Bool). pre ++ (cond b (view_bytes v p) [] ++ rest)) o in
    back v r d p next s pre u turns (upto_skip v u i high r o t) whole h)
    (either (owns v p))

pub reads_back : ReadsBack
unfolding read_of file_of
reads_back v r =
    let pre : List ℕ = 77 ∷ 78 ∷ v.n ∷ [] in
    let s : List ℕ = 77 ∷ 78 ∷ v.n ∷ joined 1 32 (bytes_of v) in
    ap (read_by s) (header_read v.n (joined 1 32 (bytes_of v)) r.some r.most)
    ∙ back v r 32 0 refl s pre (none_of v.n) (length s) (upto_none v) refl (omega arith)

-- What is written is bytes.
pub bytes-none : Bytes []
bytes-none i = omega arith

pub bytes_one : (x : ℕ) (t : List ℕ) → x < 256 → Bytes t → Bytes (x ∷ t)
bytes_one x t h b = elim [ zero ↦ h | suc i ↦ b i ]

pub bytes-append : (l m : List ℕ) → Bytes l → Bytes m → Bytes (l ++ m)
bytes-append [] m a b = b
bytes-append (x ∷ l) m a b = bytes_one x (l ++ m) (a 0) (bytes-append l m (λ i. a (suc i)) b)

bytes-joined : (a k : ℕ) (f : ℕ → List ℕ) → ((i : ℕ) → a ≤ i → i < a + k → Bytes (f i)) → Bytes (joined a k f)
unfolding joined
bytes-joined a zero f h = bytes-none
bytes-joined a (suc k) f h =
    bytes-append (f a) (joined (suc a) k f) (h a (omega arith) (omega arith)) (bytes-joined (suc a) k f (λ i l m. h i (omega arith) (omega arith)))

pub bytes_word : (x : ℕ) → Bytes (word_bytes x)
bytes_word x =
    bytes_one (x % 256) (x / 256 % 256 ∷ x / 65536 % 256 ∷ x / 16777216 % 256 ∷ []) (omega arith)
    (bytes_one (x / 256 % 256) (x / 65536 % 256 ∷ x / 16777216 % 256 ∷ []) (omega arith)
    (bytes_one (x / 65536 % 256) (x / 16777216 % 256 ∷ []) (omega arith) (bytes_one (x / 16777216 % 256) [] (omega arith) bytes-none)))

bytes_if : (b : Bool) (l : List ℕ) → (b ≡ true → Bytes l) → Bytes (cond b l [])
bytes_if true l h = h refl
bytes_if false l h = bytes-none

bytes-view : (v : Views) (i : ℕ) → i < 256 → Bytes (view_bytes v i)
unfolding view_bytes
bytes-view v i h =
    let values : List ℕ = joined 1 32 (value_bytes v i) in
    let set : List ℕ = word_bytes (seen_by v i) ++ values in
    bytes_one 86 (87 ∷ i ∷ set) (omega arith)
    (bytes_one 87 (i ∷ set) (omega arith)
    (bytes_one i set h
    (bytes-append (word_bytes (seen_by v i)) values (bytes_word (seen_by v i))
    (bytes-joined 1 32 (value_bytes v i) (λ j l m. bytes_if (has (seen_by v i) j) (word_bytes (value_by v i j)) (λ e. bytes_word (value_by v i j)))))))

pub writes_bytes : WritesBytes
unfolding file_of
writes_bytes v r =
    let views : List ℕ = joined 1 32 (bytes_of v) in
    bytes_one 77 (78 ∷ v.n ∷ views) (omega arith)
    (bytes_one 78 (v.n ∷ views) (omega arith)
    (bytes_one v.n views (omega (arith, r.most))
    (bytes-joined 1 32 (bytes_of v) (λ i l m. bytes_if (owns v i) (view_bytes v i) (λ e. bytes-view v i (omega arith))))))
