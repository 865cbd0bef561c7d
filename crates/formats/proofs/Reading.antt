-- What a header and a record that are read have passed: the five fixed bytes (24), 14, 15, 16, then the values (24).
use Prim.Native.Nat.{ℕ, ◌+◌, ◌*◌, ◌≤◌}
use mathlib.Core.Bool.{Bool, true, false, not, ◌&&◌, cond, and-eq-true_iff}
use mathlib.Core.Path.{◌≡◌, refl, sym, ap, subst}
use mathlib.Core.List.{List}
use native.Mathlib.Omega.{arith}
use lib.Dec.{leb}
use lib.ListN.{length}
use borrow.Author.Tests.{leb-true}
use Rattle.std.specs.Prelude.{Err, None, Ok, Some}
use Rattle.sets.specs.Members.{has, size}
use Rattle.sets.specs.Sets.{first, within}
use Rattle.formats.specs.declared.FileAnswer.TheVariants.{OutOfRange, NoProcess, SecondView, NamesAbove, BodyCut}
use Rattle.formats.specs.declared.Mark.{Mark}
use Rattle.formats.specs.declared.ViewRecord.{ViewRecord}
use Rattle.formats.specs.Records.{byte_at, word_at, mark_at, fits, header_by, header_of, view_by, view_at, AtPlace}
use Rattle.formats.specs.ViewFile.{values_fit, tested_view, tested_by, tested_at}

pub record Passed (s : List ℕ) (at n own p w : ℕ) : Type 0 where
  pub process : p ≡ byte_at s (at + 2)
  pub set : w ≡ word_at s (at + 3)
  pub low : 1 ≤ p
  pub high : p ≤ n
  pub new : has own p ≡ false
  pub inside : within w (first n) ≡ true
  pub whole : at + (7 + 4 * size w) ≤ length s

-- a view that is read
abbrev pub View : ℕ → ℕ → AtPlace ViewRecord
View p w = Ok (Some (record { process = p; set = w }))

-- what is read is one view
read_one : {p w q x : ℕ} → View p w ≡ View q x → (p ≡ q) × (w ≡ x)
read_one {p} {w} {q} {x} e =
    let v : ◌≡◌ {A = ViewRecord} (record { process = p; set = w }) (record { process = q; set = x }) = cc in
    (ap (λ (r : ViewRecord). r.process) v, ap (λ (r : ViewRecord). r.set) v)

-- a record that has its fixed bytes, and what stands there
record Fixed (s : List ℕ) (at p w : ℕ) : Type 0 where
  process : p ≡ byte_at s (at + 2)
  set : w ≡ word_at s (at + 3)

fixed_if : (s : List ℕ) (at p w : ℕ) (b : Bool) → cond b (View (byte_at s (at + 2)) (word_at s (at + 3))) (Err BodyCut) ≡ View p w → Fixed s at p w
fixed_if s at p w true e = let v = read_one e in record { process = sym v.0; set = sym v.1 }
fixed_if s at p w false e = cc

fixed_by : (s : List ℕ) (at p w : ℕ) (m : Mark) → view_by s at m ≡ View p w → Fixed s at p w
fixed_by s at p w Mark.End e = cc
fixed_by s at p w Mark.Cut e = cc
fixed_by s at p w Mark.Header e = cc
fixed_by s at p w Mark.Enter e = cc
fixed_by s at p w Mark.Step e = cc
fixed_by s at p w Mark.Crash e = cc
fixed_by s at p w Mark.View e = fixed_if s at p w (fits s at 5) e
fixed_by s at p w Mark.Other e = cc

fixed_at : (s : List ℕ) (at p w : ℕ) → view_at s at ≡ View p w → Fixed s at p w
unfolding view_at
fixed_at s at p w e = fixed_by s at p w (mark_at s at) e

-- the four tests of a view
record Tests (a b c d : Bool) (q w p x : ℕ) : Type 0 where
  known : a ≡ true
  new : b ≡ false
  inside : c ≡ true
  whole : d ≡ true
  process : q ≡ p
  set : w ≡ x

tests : (a b c d : Bool) (q w p x : ℕ)
    → cond (not a) (Err NoProcess) (cond b (Err SecondView) (cond (not c) (Err NamesAbove) (cond (not d) (Err BodyCut) (View q w)))) ≡ View p x
    → Tests a b c d q w p x
tests false b c d q w p x e = cc
tests true true c d q w p x e = cc
tests true false false d q w p x e = cc
tests true false true false q w p x e = cc
tests true false true true q w p x e = let v = read_one e in record { known = refl; new = refl; inside = refl; whole = refl; process = v.0; set = v.1 }

passed_view : (s : List ℕ) (at n own q x p w : ℕ) → Fixed s at q x → tested_view s at n own q x ≡ View p w → Passed s at n own p w
passed_view s at n own q x p w f e =
    let t : Tests (leb 1 q && leb q n) (has own q) (within x (first n)) (values_fit s at x) q x p w
    = tests (leb 1 q && leb q n) (has own q) (within x (first n)) (values_fit s at x) q x p w e in
    let k : (leb 1 q ≡ true) × (leb q n ≡ true) = (and-eq-true_iff (leb 1 q) (leb q n)).0 t.known in
    let g : Passed s at n own q x
    = record {
      process = f.process;
      set = f.set;
      low = leb-true 1 q k.0;
      high = leb-true q n k.1;
      new = t.new;
      inside = t.inside;
      whole = omega (arith, leb-true (at + 2 + (5 + 4 * size x)) (length s) t.whole);
    } in
    subst (λ (y : ℕ). Passed s at n own p y) t.set (subst (λ (y : ℕ). Passed s at n own y x) t.process g)

passed_by : (s : List ℕ) (at n own p w : ℕ) (r : AtPlace ViewRecord) → view_at s at ≡ r → tested_by s at n own r ≡ View p w → Passed s at n own p w
passed_by s at n own p w (Ok None) r e = cc
passed_by s at n own p w (Err a) r e = cc
passed_by s at n own p w (Ok (Some v)) r e = passed_view s at n own v.process v.set p w (fixed_at s at v.process v.set r) e

pub passed : (s : List ℕ) (at n own p w : ℕ) → tested_at s at n own ≡ View p w → Passed s at n own p w
unfolding tested_at
passed s at n own p w e = passed_by s at n own p w (view_at s at) refl e

-- a header that is read
pub record Opened (s : List ℕ) (n : ℕ) : Type 0 where
  pub byte : n ≡ byte_at s 2
  pub some : 1 ≤ n
  pub most : n ≤ 32
  pub long : 3 ≤ length s

record HeaderTests (a b : Bool) (x n : ℕ) : Type 0 where
  long : a ≡ true
  range : b ≡ true
  same : x ≡ n

header_tests : (a b : Bool) (x n : ℕ)
    → cond a (cond b (Ok x) (Err OutOfRange)) (Err BodyCut) ≡ Ok n → HeaderTests a b x n
header_tests false b x n e = cc
header_tests true false x n e = cc
header_tests true true x n e = record { long = refl; range = refl; same = cc }

opened_by : (s : List ℕ) (n : ℕ) (m : Mark) → header_by s m ≡ Ok n → Opened s n
opened_by s n Mark.End e = cc
opened_by s n Mark.Cut e = cc
opened_by s n Mark.Header e =
    let b = leb 1 (byte_at s 2) && leb (byte_at s 2) 32 in
    let t : HeaderTests (fits s 0 1) b (byte_at s 2) n = header_tests (fits s 0 1) b (byte_at s 2) n e in
    let k : (leb 1 (byte_at s 2) ≡ true) × (leb (byte_at s 2) 32 ≡ true) = (and-eq-true_iff (leb 1 (byte_at s 2)) (leb (byte_at s 2) 32)).0 t.range in
    let low = leb-true 1 (byte_at s 2) k.0 in
    let high = leb-true (byte_at s 2) 32 k.1 in
    record { byte = sym t.same; some = omega (arith, low, t.same); most = omega (arith, high, t.same); long = leb-true 3 (length s) t.long }
opened_by s n Mark.Enter e = cc
opened_by s n Mark.Step e = cc
opened_by s n Mark.Crash e = cc
opened_by s n Mark.View e = cc
opened_by s n Mark.Other e = cc

pub opened : (s : List ℕ) (n : ℕ) → header_of s ≡ Ok n → Opened s n
unfolding header_of
opened s n e = opened_by s n (mark_at s 0) e
