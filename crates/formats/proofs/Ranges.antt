-- The views of a file of bytes that is read are in range.
use Prim.Native.Nat.{ℕ, ◌+◌, ◌-◌, ◌*◌, ◌^◌, ◌≤◌, ◌<◌}
use mathlib.Core.Bool.{true, false, true≢false, and-eq-true_iff}
use mathlib.Core.Path.{◌≡◌, sym, ap, ◌∙◌}
use mathlib.Core.Logic.{⊎_elim}
use mathlib.Core.List.{List}
use native.Mathlib.Omega.{arith}
use lib.Dec.{leb}
use borrow.Author.Tests.{leb-true}
use Rattle.sets.specs.Members.{has, known, count}
use Rattle.sets.specs.Sets.{first}
use Rattle.sets.proofs.Laws.{either, has_zero, has_first, within_true}
use Rattle.formats.specs.declared.Views.{Views}
use Rattle.formats.specs.Records.{word_at}
use Rattle.formats.specs.Views.{owns, seen_by, value_by}
use Rattle.formats.specs.Range.{InRange}
use Rattle.formats.specs.Table.{process_at, set_at, Carried}
use Rattle.formats.specs.Promises.{Bytes}
use Rattle.formats.proofs.Walked.{Walked, Named, in_viewed, walked_some, walked_most, walked_carried, walked_named}

pub word_below : (s : List ℕ) → Bytes s → (at : ℕ) → word_at s at < 2 ^ 32
word_below s b at = omega (arith, b at, b (at + 1), b (at + 2), b (at + 3))

module _ (s : List ℕ) (at : ℕ) (before : List ℕ) (v : Views) (bytes : Bytes s) (r : Walked s at before v) where
  c : Carried s before v
  c = walked_carried r

  -- the record of a process that has a view
  record Of (i : ℕ) : Type 0 where
    place : ℕ
    set : seen_by v i ≡ set_at s place
    value : (j : ℕ) → has (seen_by v i) j ≡ true → value_by v i j ≡ word_at s (place + 7 + 4 * count (has (set_at s place)) (j - 1))
    named : Named s v.n place
    process : process_at s place ≡ i

  record_of : (i : ℕ) → owns v i ≡ true → Of i
  record_of i e =
      let q = in_viewed s i before (sym (c.own i) ∙ e) in
      let set : seen_by v i ≡ set_at s q.0 = ap (seen_by v) (sym q.2) ∙ c.seen q.0 q.1 in
      record {
        place = q.0;
        set = set;
        value = λ j h.
            ap (λ (x : ℕ). value_by v x j) (sym q.2) ∙ c.value q.0 j q.1 (ap (λ (x : ℕ). has x j) (sym set) ∙ h);
        named = walked_named r q.0 q.1;
        process = q.2;
      }

  -- a process with a view, or one that names nobody
  split : (P : Type 0) (i : ℕ) → 1 ≤ i → i ≤ 32 → (Of i → P) → (seen_by v i ≡ 0 → P) → P
  split P i a b f g = ⊎_elim (λ e. f (record_of i e)) (λ e. g (c.no_view i a b e)) (either (owns v i))

  nobody : (i j : ℕ) → seen_by v i ≡ 0 → has (seen_by v i) j ≡ false
  nobody i j e = ap (λ (x : ℕ). has x j) e ∙ has_zero j

  pub walked_in_range : InRange v
  walked_in_range =
      record {
        some = walked_some r;
        most = walked_most r;
        seats = c.seats;
        cells = c.cells;
        own_fits = c.own_fits;
        seen_fits = λ i a b.
            split (seen_by v i < 2 ^ 32) i a b
            (λ o. omega (arith, o.set, word_below s bytes (o.place + 3)))
            (λ e. omega arith);
        value_fits = λ i j a b k l.
            ⊎_elim
            (λ h. split (value_by v i j < 2 ^ 32) i a b
            (λ o. omega (arith, o.value j h, word_below s bytes (o.place + 7 + 4 * count (has (set_at s o.place)) (j - 1))))
            (λ e. absurd (true≢false (sym h ∙ nobody i j e))))
            (λ h. omega (arith, c.no_member i j a b k l h))
            (either (has (seen_by v i) j));
        owner = λ i e. let o = record_of i e in omega (arith, o.process, o.named.process);
        member = λ i j a b h.
            split (j ≤ v.n) i a b
            (λ o.
            let q : has (first v.n) j ≡ true
            = within_true (set_at s o.place) (first v.n) o.named.inside j (ap (λ (x : ℕ). has x j) (sym o.set) ∙ h) in
            leb-true j v.n ((and-eq-true_iff (known j) (leb j v.n)).0 (sym (has_first v.n j) ∙ q)).1)
            (λ e. absurd (true≢false (sym h ∙ nobody i j e)));
        no_view = c.no_view;
        no_member = c.no_member;
      }
