-- Each of document 01's numbers is given exactly when it applies: at one record, and then along a whole file.
use Prim.Native.Nat.{ℕ, ◌+◌, ◌*◌, ◌≤◌, ◌<◌}
use mathlib.Core.Bool.{Bool, true, false, not, ◌&&◌, cond, and-eq-true_iff}
use mathlib.Core.Path.{◌≡◌, refl, sym, ap, ap₂, ◌∙◌, subst}
use mathlib.Core.Logic.{◌≢◌, ⊎_elim}
use mathlib.Core.List.{List, [], ◌∷◌}
use native.Mathlib.Omega.{arith}
use lib.Dec.{leb, ltb, eqb}
use lib.ListN.{length}
use borrow.Author.Tests.{leb-true, leb-false, eqb-true, le-leb, lt-leb, lt-ltb, le-ltb, eq-eqb, ne_eqb}
use Rattle.std.specs.Prelude.{Result, Some, None, Ok, Err}
use Rattle.sets.specs.Members.{has, size}
use Rattle.sets.specs.Sets.{first, within}
use Rattle.sets.proofs.Laws.{either, same_truth}
use Rattle.formats.specs.declared.FileAnswer.{FileAnswer}
use Rattle.formats.specs.declared.FileAnswer.TheVariants.{OutOfRange, NotHeader, OtherMark, MarkCut, BodyCut, HeaderAgain}
use Rattle.formats.specs.declared.FileAnswer.TheVariants.{NoProcess, SecondView, NamesAbove}
use Rattle.formats.specs.declared.Mark.{Mark}
use Rattle.formats.specs.declared.ViewRecord.{ViewRecord}
use Rattle.formats.specs.Numbers.{file_number}
use Rattle.formats.specs.Records.{byte_at, word_at, is_mark, mark_of, mark_at, fits, header_by, header_of, view_by, view_at, AtPlace}
use Rattle.formats.specs.ViewFile.{values_fit, tested_by, tested_at}
use Rattle.sets.specs.Lines.{when, first_that}
use Rattle.formats.specs.Table.{header_lines, process_at, set_at, end_at, viewed, record_lines}
use Rattle.formats.proofs.Reading.{View}

-- a failed order is the other order
pub not_leb : (a b c : ℕ) → a ≡ c → not (leb a b) ≡ ltb b c
not_leb a b c e =
    ⊎_elim
    (λ t. ap not t ∙ sym (le-ltb b c (omega (arith, leb-true a b t))))
    (λ t. ap not t ∙ sym (lt-ltb b c (omega (arith, leb-false a b t))))
    (either (leb a b))

-- Marks.
pub mark_bytes : (a b x y : ℕ) → is_mark a b x y ≡ true → (x ≡ a) × (y ≡ b)
mark_bytes a b x y e = let t = (and-eq-true_iff (eqb x a) (eqb y b)).0 e in (eqb-true x a t.0, eqb-true y b t.1)

mark_header : (x y : ℕ) → is_mark 77 78 x y ≡ true → mark_of x y ≡ Mark.Header
unfolding mark_of
mark_header x y e = let t = mark_bytes 77 78 x y e in ap₂ mark_of t.0 t.1

mark_view : (x y : ℕ) → is_mark 86 87 x y ≡ true → mark_of x y ≡ Mark.View
unfolding mark_of
mark_view x y e = let t = mark_bytes 86 87 x y e in ap₂ mark_of t.0 t.1

-- neither header nor view
foreign : Bool → Bool → Bool → Mark
foreign a b c = cond a Mark.Enter (cond b Mark.Step (cond c Mark.Crash Mark.Other))

mark_foreign : (x y : ℕ) → is_mark 77 78 x y ≡ false → is_mark 86 87 x y ≡ false
    → mark_of x y ≡ foreign (is_mark 69 78 x y) (is_mark 83 84 x y) (is_mark 67 82 x y)
unfolding mark_of foreign
mark_foreign x y e f =
    let rest : Bool → Mark
    = λ b. cond (is_mark 69 78 x y) Mark.Enter (cond (is_mark 83 84 x y) Mark.Step (cond (is_mark 67 82 x y) Mark.Crash (cond b Mark.View Mark.Other))) in
    ap (λ (b : Bool). cond b Mark.Header (rest (is_mark 86 87 x y))) e ∙ ap rest f

view_foreign : (s : List ℕ) (at : ℕ) (a b c : Bool) → view_by s at (foreign a b c) ≡ Err OtherMark
unfolding foreign
view_foreign s at true b c = refl
view_foreign s at false true c = refl
view_foreign s at false false true = refl
view_foreign s at false false false = refl

-- a mark that is no header's
unheaded : Bool → Bool → Bool → Bool → Mark
unheaded a b c d = cond a Mark.Enter (cond b Mark.Step (cond c Mark.Crash (cond d Mark.View Mark.Other)))

header_unheaded : (s : List ℕ) (a b c d : Bool) → header_by s (unheaded a b c d) ≡ Err NotHeader
unfolding unheaded
header_unheaded s true b c d = refl
header_unheaded s false true c d = refl
header_unheaded s false false true d = refl
header_unheaded s false false false true = refl
header_unheaded s false false false false = refl

-- The record at a place where bytes are left, as a choice by the tests of the table.
fixed_part : List ℕ → ℕ → AtPlace ViewRecord
fixed_part s at = cond (not (fits s at 5)) (Err BodyCut) (View (byte_at s (at + 2)) (word_at s (at + 3)))

turned : (b : Bool) (x y : AtPlace ViewRecord) → cond b x y ≡ cond (not b) y x
turned true x y = refl
turned false x y = refl

view_by_lem : (s : List ℕ) (at x y : ℕ)
    → view_by s at (mark_of x y) ≡ cond (is_mark 77 78 x y) (Err HeaderAgain) (cond (not (is_mark 86 87 x y)) (Err OtherMark) (fixed_part s at))
unfolding fixed_part
view_by_lem s at x y =
    ⊎_elim
    (λ e. ap (view_by s at) (mark_header x y e)
    ∙ sym (ap (λ (b : Bool). cond b (Err HeaderAgain) (cond (not (is_mark 86 87 x y)) (Err OtherMark) (fixed_part s at))) e))
    (λ e. ⊎_elim
    (λ f. ap (view_by s at) (mark_view x y f)
    ∙ turned (fits s at 5) (View (byte_at s (at + 2)) (word_at s (at + 3))) (Err BodyCut)
    ∙ sym (ap₂ (λ (b c : Bool). cond b (Err HeaderAgain) (cond (not c) (Err OtherMark) (fixed_part s at))) e f))
    (λ f. ap (view_by s at) (mark_foreign x y e f)
    ∙ view_foreign s at (is_mark 69 78 x y) (is_mark 83 84 x y) (is_mark 67 82 x y)
    ∙ sym (ap₂ (λ (b c : Bool). cond b (Err HeaderAgain) (cond (not c) (Err OtherMark) (fixed_part s at))) e f))
    (either (is_mark 86 87 x y)))
    (either (is_mark 77 78 x y))

view_at_lem : (s : List ℕ) (at : ℕ) → at < length s
    → view_at s at ≡ cond (eqb (length s) (at + 1)) (Err MarkCut)
    (cond (is_mark 77 78 (byte_at s at) (byte_at s (at + 1))) (Err HeaderAgain)
    (cond (not (is_mark 86 87 (byte_at s at) (byte_at s (at + 1)))) (Err OtherMark) (fixed_part s at)))
unfolding view_at mark_at
view_at_lem s at h =
    let m : Mark = mark_of (byte_at s at) (byte_at s (at + 1)) in
    let push : (b : Bool) → view_by s at (cond b Mark.Cut m) ≡ cond b (Err MarkCut) (view_by s at m) = elim [ true ↦ refl | false ↦ refl ] in
    ap (λ (b : Bool). view_by s at (cond b Mark.End (cond (eqb (length s) (at + 1)) Mark.Cut m))) (lt-leb (length s) at h)
    ∙ push (eqb (length s) (at + 1))
    ∙ ap (λ (r : AtPlace ViewRecord). cond (eqb (length s) (at + 1)) (Err MarkCut) r) (view_by_lem s at (byte_at s at) (byte_at s (at + 1)))

view_end : (s : List ℕ) (at : ℕ) → length s ≤ at → view_at s at ≡ (Ok None)
unfolding view_at mark_at
view_end s at h =
    let mark : Mark = cond (eqb (length s) (at + 1)) Mark.Cut (mark_of (byte_at s at) (byte_at s (at + 1))) in
    ap (λ (b : Bool). view_by s at (cond b Mark.End mark)) (le-leb (length s) at h)

chain : Bool → Bool → Bool → Bool → Bool → Bool → Bool → Bool → AtPlace ViewRecord → AtPlace ViewRecord
chain a b c d e f g h r =
    cond a (Err MarkCut) (cond b (Err HeaderAgain) (cond c (Err OtherMark) (cond d (Err BodyCut)
    (cond e (Err NoProcess) (cond f (Err SecondView) (cond g (Err NamesAbove) (cond h (Err BodyCut) r)))))))

push : (s : List ℕ) (at n own : ℕ) (x : FileAnswer) (b : Bool) (r : AtPlace ViewRecord)
    → tested_by s at n own (cond b (Err x) r) ≡ cond b (Err x) (tested_by s at n own r)
push s at n own x true r = refl
push s at n own x false r = refl

tested_at_lem : (s : List ℕ) (at n own : ℕ) → at < length s
    → tested_at s at n own
    ≡ chain (eqb (length s) (at + 1)) (is_mark 77 78 (byte_at s at) (byte_at s (at + 1))) (not (is_mark 86 87 (byte_at s at) (byte_at s (at + 1))))
    (ltb (length s) (at + 7)) (not (leb 1 (byte_at s (at + 2)) && leb (byte_at s (at + 2)) n)) (has own (byte_at s (at + 2)))
    (not (within (word_at s (at + 3)) (first n))) (ltb (length s) (at + 7 + 4 * size (word_at s (at + 3)))) (View (byte_at s (at + 2)) (word_at s (at + 3)))
unfolding tested_at fixed_part chain
tested_at_lem s at n own h =
    let p = byte_at s (at + 2) in
    let w = word_at s (at + 3) in
    let a = eqb (length s) (at + 1) in
    let b = is_mark 77 78 (byte_at s at) (byte_at s (at + 1)) in
    let c = not (is_mark 86 87 (byte_at s at) (byte_at s (at + 1))) in
    let short : not (fits s at 5) ≡ ltb (length s) (at + 7) = not_leb (at + 2 + 5) (length s) (at + 7) (omega arith) in
    let cut : not (values_fit s at w) ≡ ltb (length s) (at + 7 + 4 * size w)
    = not_leb (at + 2 + (5 + 4 * size w)) (length s) (at + 7 + 4 * size w) (omega arith) in
    ap (tested_by s at n own) (view_at_lem s at h)
    ∙ push s at n own MarkCut a (cond b (Err HeaderAgain) (cond c (Err OtherMark) (fixed_part s at)))
    ∙ ap (λ (r : AtPlace ViewRecord). cond a (Err MarkCut) r) (push s at n own HeaderAgain b (cond c (Err OtherMark) (fixed_part s at)))
    ∙ ap (λ (r : AtPlace ViewRecord). cond a (Err MarkCut) (cond b (Err HeaderAgain) r)) (push s at n own OtherMark c (fixed_part s at))
    ∙ ap (λ (r : AtPlace ViewRecord). cond a (Err MarkCut) (cond b (Err HeaderAgain) (cond c (Err OtherMark) r)))
    (push s at n own BodyCut (not (fits s at 5)) (View p w))
    ∙ ap₂ (λ (d k : Bool). cond a (Err MarkCut) (cond b (Err HeaderAgain) (cond c (Err OtherMark) (cond d (Err BodyCut)
    (cond (not (leb 1 p && leb p n)) (Err NoProcess) (cond (has own p) (Err SecondView) (cond (not (within w (first n))) (Err NamesAbove)
    (cond k (Err BodyCut) (View p w))))))))) short cut

-- the number of what is read: that of its fault, if it has one
abbrev pub fault_number : {T : Type 0} → Result T FileAnswer → ℕ
fault_number (Ok x) = 0
fault_number (Err a) = file_number a

number_chain : (a b c d e f g h : Bool) (p w : ℕ)
    → fault_number (chain a b c d e f g h (View p w))
    ≡ first_that (when 11 a ∷ when 12 b ∷ when 10 c ∷ when 24 d ∷ when 14 e ∷ when 15 f ∷ when 16 g ∷ when 24 h ∷ [])
unfolding chain
number_chain true b c d e f g h p w = refl
number_chain false true c d e f g h p w = refl
number_chain false false true d e f g h p w = refl
number_chain false false false true e f g h p w = refl
number_chain false false false false true f g h p w = refl
number_chain false false false false false true g h p w = refl
number_chain false false false false false false true h p w = refl
number_chain false false false false false false false true p w = refl
number_chain false false false false false false false false p w = refl

-- over the table's lines, where n is the file's and `own` the processes of the records before
pub record_number : (s : List ℕ) (at n own : ℕ) (before : List ℕ) → at < length s → n ≡ byte_at s 2
    → has own (process_at s at) ≡ viewed s (process_at s at) before
    → fault_number (tested_at s at n own) ≡ first_that (record_lines s at before)
record_number s at n own before h e f =
    let p = process_at s at in
    let w = set_at s at in
    let a = eqb (length s) (at + 1) in
    let b = is_mark 77 78 (byte_at s at) (byte_at s (at + 1)) in
    let c = not (is_mark 86 87 (byte_at s at) (byte_at s (at + 1))) in
    let d = ltb (length s) (at + 7) in
    let g = ltb (length s) (end_at s at) in
    ap fault_number (tested_at_lem s at n own h)
    ∙ number_chain a b c d (not (leb 1 p && leb p n)) (has own p) (not (within w (first n))) g p w
    ∙ ap₂ (λ (n : ℕ) (o : Bool). first_that (when 11 a ∷ when 12 b ∷ when 10 c ∷ when 24 d ∷ when 14 (not (leb 1 p && leb p n)) ∷ when 15 o
    ∷ when 16 (not (within w (first n))) ∷ when 24 g ∷ [])) e f

-- what stands at a place where bytes are left is no end, and a fault there has a number
abbrev Tells : AtPlace ViewRecord → Type 0
Tells (Ok None) = ⊥
Tells (Ok (Some r)) = Unit {0}
Tells (Err a) = file_number a ≢ 0

chain_tells : (a b c d e f g h : Bool) (p w : ℕ) → Tells (chain a b c d e f g h (View p w))
unfolding chain
chain_tells true b c d e f g h p w = λ z. omega arith
chain_tells false true c d e f g h p w = λ z. omega arith
chain_tells false false true d e f g h p w = λ z. omega arith
chain_tells false false false true e f g h p w = λ z. omega arith
chain_tells false false false false true f g h p w = λ z. omega arith
chain_tells false false false false false true g h p w = λ z. omega arith
chain_tells false false false false false false true h p w = λ z. omega arith
chain_tells false false false false false false false true p w = λ z. omega arith
chain_tells false false false false false false false false p w = tt

tells : (s : List ℕ) (at n own : ℕ) → at < length s → Tells (tested_at s at n own)
tells s at n own l = subst Tells (sym (tested_at_lem s at n own l)) (chain_tells _ _ _ _ _ _ _ _ _ _)

pub not_end : (s : List ℕ) (at n own : ℕ) → at < length s → tested_at s at n own ≡ Ok None → ⊥
not_end s at n own l e = subst Tells e (tells s at n own l)

pub record_refused : (s : List ℕ) (at n own : ℕ) (x : FileAnswer) → at < length s → tested_at s at n own ≡ Err x → file_number x ≢ 0
record_refused s at n own x l e = subst Tells e (tells s at n own l)

-- The first record.
header_chain_lem : Bool → Bool → Bool → Bool → Bool → Result ℕ FileAnswer → Result ℕ FileAnswer
header_chain_lem a b c d e r =
    cond a (Err NotHeader) (cond b (Err MarkCut) (cond c (Err NotHeader)
    (cond d (Err BodyCut) (cond e (Err OutOfRange) r))))

header_swapped : (b e : Bool) (x y z : Result ℕ FileAnswer) → cond b (cond e x y) z ≡ cond (not b) z (cond (not e) y x)
header_swapped true true x y z = refl
header_swapped true false x y z = refl
header_swapped false e x y z = refl

header_part : List ℕ → Result ℕ FileAnswer
header_part s =
    cond (not (fits s 0 1)) (Err BodyCut)
    (cond (not (leb 1 (byte_at s 2) && leb (byte_at s 2) 32)) (Err OutOfRange) (Ok (byte_at s 2)))

header_by_lem : (s : List ℕ) (x y : ℕ) → header_by s (mark_of x y) ≡ cond (not (is_mark 77 78 x y)) (Err NotHeader) (header_part s)
unfolding mark_of header_part unheaded
header_by_lem s x y =
    ⊎_elim
    (λ e. ap (header_by s) (mark_header x y e)
    ∙ header_swapped (fits s 0 1) (leb 1 (byte_at s 2) && leb (byte_at s 2) 32) (Ok (byte_at s 2)) (Err OutOfRange) (Err BodyCut)
    ∙ sym (ap (λ (b : Bool). cond (not b) (Err NotHeader) (header_part s)) e))
    (λ e. ap (λ (b : Bool). header_by s (cond b Mark.Header (unheaded (is_mark 69 78 x y) (is_mark 83 84 x y) (is_mark 67 82 x y) (is_mark 86 87 x y)))) e
    ∙ header_unheaded s (is_mark 69 78 x y) (is_mark 83 84 x y) (is_mark 67 82 x y) (is_mark 86 87 x y)
    ∙ sym (ap (λ (b : Bool). cond (not b) (Err NotHeader) (header_part s)) e))
    (either (is_mark 77 78 x y))

header_is : (s : List ℕ)
    → header_of s ≡ header_chain_lem (eqb (length s) 0) (eqb (length s) 1) (not (is_mark 77 78 (byte_at s 0) (byte_at s 1))) (ltb (length s) 3)
    (not (leb 1 (byte_at s 2) && leb (byte_at s 2) 32)) (Ok (byte_at s 2))
unfolding header_of mark_at header_part header_chain_lem
header_is s =
    let m : Mark = mark_of (byte_at s 0) (byte_at s 1) in
    let none : leb (length s) 0 ≡ eqb (length s) 0
    = same_truth (leb (length s) 0) (eqb (length s) 0)
    (λ t. let z : length s ≡ 0 = omega (arith, leb-true (length s) 0 t) in eq-eqb (length s) 0 z)
    (λ t. let z : length s ≤ 0 = omega (arith, eqb-true (length s) 0 t) in le-leb (length s) 0 z) in
    let push : (a b : Bool)
    → header_by s (cond a Mark.End (cond b Mark.Cut m)) ≡ cond a (Err NotHeader) (cond b (Err MarkCut) (header_by s m))
    = λ a b. elim a as (λ (a : Bool). header_by s (cond a Mark.End (cond b Mark.Cut m)) ≡ cond a (Err NotHeader) (cond b (Err MarkCut) (header_by s m))) [
      | true ↦ refl
      | false ↦ elim b as (λ (b : Bool). header_by s (cond b Mark.Cut m) ≡ cond b (Err MarkCut) (header_by s m)) [ true ↦ refl | false ↦ refl ]
    ] in
    push (leb (length s) 0) (eqb (length s) 1)
    ∙ ap₂ (λ (a : Bool) (r : Result ℕ FileAnswer). cond a (Err NotHeader) (cond (eqb (length s) 1) (Err MarkCut) r)) none
    (header_by_lem s (byte_at s 0) (byte_at s 1))
    ∙ ap (λ (d : Bool). cond (eqb (length s) 0) (Err NotHeader) (cond (eqb (length s) 1) (Err MarkCut)
    (cond (not (is_mark 77 78 (byte_at s 0) (byte_at s 1))) (Err NotHeader) (cond d (Err BodyCut)
    (cond (not (leb 1 (byte_at s 2) && leb (byte_at s 2) 32)) (Err OutOfRange) (Ok (byte_at s 2)))))))
    (not_leb 3 (length s) 3 refl)

header_chain : (a b c d e : Bool) (n : ℕ)
    → fault_number (header_chain_lem a b c d e (Ok n)) ≡ first_that (when 9 a ∷ when 11 b ∷ when 9 c ∷ when 24 d ∷ when 8 e ∷ [])
unfolding header_chain_lem
header_chain true b c d e n = refl
header_chain false true c d e n = refl
header_chain false false true d e n = refl
header_chain false false false true e n = refl
header_chain false false false false true n = refl
header_chain false false false false false n = refl

pub header_number : (s : List ℕ) → fault_number (header_of s) ≡ first_that (header_lines s)
header_number s = ap fault_number (header_is s) ∙ header_chain _ _ _ _ _ _

abbrev Refuses : Result ℕ FileAnswer → Type 0
Refuses (Ok n) = Unit {0}
Refuses (Err a) = file_number a ≢ 0

header_refuses : (a b c d e : Bool) (n : ℕ) → Refuses (header_chain_lem a b c d e (Ok n))
unfolding header_chain_lem
header_refuses true b c d e n = λ z. omega arith
header_refuses false true c d e n = λ z. omega arith
header_refuses false false true d e n = λ z. omega arith
header_refuses false false false true e n = λ z. omega arith
header_refuses false false false false true n = λ z. omega arith
header_refuses false false false false false n = tt

pub header_refused : (s : List ℕ) (x : FileAnswer) → header_of s ≡ Err x → file_number x ≢ 0
header_refused s x e = subst Refuses (sym (header_is s) ∙ e) (header_refuses _ _ _ _ _ _)

pub at_end : (s : List ℕ) (at n own : ℕ) → length s ≤ at → tested_at s at n own ≡ (Ok None)
unfolding tested_at
at_end s at n own h = ap (tested_by s at n own) (view_end s at h)

-- where no line applies the record is read
chain_none : {a b c d e f g h : Bool} (r : AtPlace ViewRecord) → a ≡ false → b ≡ false → c ≡ false → d ≡ false → e ≡ false → f ≡ false → g ≡ false → h ≡ false
    → chain a b c d e f g h r ≡ r
unfolding chain
chain_none r a b c d e f g h = λ i. chain (a i) (b i) (c i) (d i) (e i) (f i) (g i) (h i) r

pub tested_view_lem : (s : List ℕ) (at n own p w : ℕ) → byte_at s at ≡ 86 → byte_at s (at + 1) ≡ 87 → byte_at s (at + 2) ≡ p → word_at s (at + 3) ≡ w
    → 1 ≤ p → p ≤ n → has own p ≡ false → within w (first n) ≡ true → at + (7 + 4 * size w) ≤ length s → tested_at s at n own ≡ View p w
tested_view_lem s at n own p w v m ep ew low high new inside long =
    let a : eqb (length s) (at + 1) ≡ false = ne_eqb (length s) (at + 1) (λ z. omega arith) in
    let b : is_mark 77 78 (byte_at s at) (byte_at s (at + 1)) ≡ false = ap₂ (is_mark 77 78) v m in
    let c : not (is_mark 86 87 (byte_at s at) (byte_at s (at + 1))) ≡ false = ap₂ (λ (x y : ℕ). not (is_mark 86 87 x y)) v m in
    let d : ltb (length s) (at + 7) ≡ false = le-ltb (length s) (at + 7) (omega arith) in
    let e : not (leb 1 (byte_at s (at + 2)) && leb (byte_at s (at + 2)) n) ≡ false
    = ap (λ (x : ℕ). not (leb 1 x && leb x n)) ep ∙ ap₂ (λ (x y : Bool). not (x && y)) (le-leb 1 p low) (le-leb p n high) in
    let f : has own (byte_at s (at + 2)) ≡ false = ap (has own) ep ∙ new in
    let g : not (within (word_at s (at + 3)) (first n)) ≡ false = ap (λ (x : ℕ). not (within x (first n))) ew ∙ ap not inside in
    let h : ltb (length s) (at + 7 + 4 * size (word_at s (at + 3))) ≡ false
    = ap (λ (x : ℕ). ltb (length s) (at + 7 + 4 * size x)) ew ∙ le-ltb (length s) (at + 7 + 4 * size w) (omega arith) in
    tested_at_lem s at n own (omega arith) ∙ chain_none (View (byte_at s (at + 2)) (word_at s (at + 3))) a b c d e f g h ∙ ap₂ View ep ew

-- and so is a header
header_chain_none : {a b c d e : Bool} (r : Result ℕ FileAnswer) → a ≡ false → b ≡ false → c ≡ false → d ≡ false → e ≡ false → header_chain_lem a b c d e r ≡ r
unfolding header_chain_lem
header_chain_none r a b c d e = λ i. header_chain_lem (a i) (b i) (c i) (d i) (e i) r

pub header_read : (n : ℕ) (t : List ℕ) → 1 ≤ n → n ≤ 32 → header_of (77 ∷ 78 ∷ n ∷ t) ≡ Ok n
header_read n t low high =
    let s : List ℕ = 77 ∷ 78 ∷ n ∷ t in
    let a : eqb (length s) 0 ≡ false = ne_eqb (length s) 0 (λ z. omega arith) in
    let b : eqb (length s) 1 ≡ false = ne_eqb (length s) 1 (λ z. omega arith) in
    let d : ltb (length s) 3 ≡ false = le-ltb (length s) 3 (omega arith) in
    let e : not (leb 1 n && leb n 32) ≡ false = ap₂ (λ (x y : Bool). not (x && y)) (le-leb 1 n low) (le-leb n 32 high) in
    header_is s ∙ header_chain_none (Ok n) a b refl d e
