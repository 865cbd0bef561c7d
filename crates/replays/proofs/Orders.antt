-- The order at one place, by the bytes there: each number is given exactly when its line of the table applies, and a call is read exactly where its
-- record stands whole.
use Prim.Native.Nat.{ℕ, ◌+◌, ◌≤◌, ◌<◌}
use Prim.Native.String.{String, char_at}
use Prim.Native.Char.{code}
use mathlib.Core.Bool.{Bool, true, false, not, ◌||◌, cond, and-eq-true_iff}
use mathlib.Core.Path.{◌≡◌, refl, sym, ap, ap₂, ◌∙◌, subst}
use mathlib.Core.Logic.{◌≢◌}
use mathlib.Core.List.{List, [], ◌∷◌}
use native.Mathlib.Omega.{arith}
use lib.Dec.{ltb, eqb}
use lib.ListN.{length}
use borrow.Author.Tests.{ltb-false, eqb-true, le-leb, lt-leb, ne_eqb}
use Rattle.std.specs.Prelude.{Some, None, Ok, Err}
use Rattle.formats.specs.declared.FileAnswer.TheVariants.{OtherMark, MarkCut, BodyCut, HeaderAgain}
use Rattle.formats.specs.declared.Mark.{Mark}
use Rattle.formats.specs.declared.Order.{Order}
use Rattle.formats.specs.Numbers.{file_number}
use Rattle.formats.specs.Records.{byte_at, word_at, spells, mark_of, mark_at, fits, order_by, order_at, AtPlace}
use Rattle.formats.proofs.Table.{not_leb, fault_number}
use Rattle.sets.specs.Lines.{when, first_that}
use Rattle.sets.proofs.Lines.{says}
use Rattle.replays.specs.Table.{marked, order_lines, Stands}

-- Marks: the two bytes of one, and what they say of another.
abbrev pub letter : String → ℕ → ℕ
letter t i = code (char_at t i)

pub mark_bytes : (s : List ℕ) (at : ℕ) (t : String) → marked s at t ≡ true
    → (byte_at s at ≡ letter t 0) × (byte_at s (at + 1) ≡ letter t 1)
mark_bytes s at t e =
    let b = (and-eq-true_iff (eqb (byte_at s at) (letter t 0)) (eqb (byte_at s (at + 1)) (letter t 1))).0 e in
    (eqb-true (byte_at s at) (letter t 0) b.0, eqb-true (byte_at s (at + 1)) (letter t 1) b.1)

pub mark_other : (s : List ℕ) (at : ℕ) (t u : String) → marked s at t ≡ true → marked s at u ≡ spells u (letter t 0) (letter t 1)
mark_other s at t u e =
    let b = mark_bytes s at t e in
    ap₂ (spells u) b.0 b.1

mark_at_lem : (s : List ℕ) (at : ℕ) (t : String) → at + 2 ≤ length s → marked s at t ≡ true → mark_at s at ≡ mark_of (letter t 0) (letter t 1)
unfolding mark_at
mark_at_lem s at t h e =
    let b = mark_bytes s at t e in
    let mark : Mark = mark_of (byte_at s at) (byte_at s (at + 1)) in
    ap (λ (b : Bool). cond b Mark.End (cond (eqb (length s) (at + 1)) Mark.Cut mark)) (lt-leb (length s) at (omega arith))
    ∙ ap (λ (b : Bool). cond b Mark.Cut mark) (ne_eqb (length s) (at + 1) (λ z. omega arith))
    ∙ ap₂ mark_of b.0 b.1

-- A record that has its mark and its body is read.
module _ (s : List ℕ) (at : ℕ) where
  read_at : (t : String) (body : ℕ) (o : Order)
      → order_by s at (mark_of (letter t 0) (letter t 1)) ≡ cond (fits s at body) (Ok (Some o)) (Err BodyCut)
      → at + 2 + body ≤ length s → marked s at t ≡ true → order_at s at ≡ Ok (Some o)
  unfolding order_at
  read_at t body o f h e =
      ap (order_by s at) (mark_at_lem s at t (omega arith) e) ∙ f
      ∙ ap (λ (b : Bool). cond b (Ok (Some o)) (Err BodyCut)) (le-leb (at + 2 + body) (length s) h)

  pub enter_at_lem : at + 7 ≤ length s → marked s at "EN" ≡ true → order_at s at ≡ Ok (Some (Order.Enter (byte_at s (at + 2)) (word_at s (at + 3))))
  unfolding mark_of
  enter_at_lem h e = read_at "EN" 5 (Order.Enter (byte_at s (at + 2)) (word_at s (at + 3))) refl (omega arith) e

  pub step_at_lem : at + 3 ≤ length s → marked s at "ST" ≡ true → order_at s at ≡ Ok (Some (Order.Step (byte_at s (at + 2))))
  unfolding mark_of
  step_at_lem h e = read_at "ST" 1 (Order.Step (byte_at s (at + 2))) refl (omega arith) e

  pub crash_at_lem : at + 3 ≤ length s → marked s at "CR" ≡ true → order_at s at ≡ Ok (Some (Order.Crash (byte_at s (at + 2))))
  unfolding mark_of
  crash_at_lem h e = read_at "CR" 1 (Order.Crash (byte_at s (at + 2))) refl (omega arith) e

-- where no line applies the body is there
body_there : (s : List ℕ) (at : ℕ) (t : String) → Stands s at t
    → cond (spells "EN" (letter t 0) (letter t 1)) (ltb (length s) (at + 7)) (ltb (length s) (at + 3)) ≡ false
body_there s at t r =
    ap (λ (b : Bool). cond b (ltb (length s) (at + 7)) (ltb (length s) (at + 3))) (sym (mark_other s at t "EN" r.mark))
    ∙ (says (order_lines s at) 0 r.whole).next.next.next.off

module _ (s : List ℕ) (at : ℕ) where
  pub enter_long : Stands s at "EN" → at + 7 ≤ length s
  enter_long r = ltb-false (length s) (at + 7) (body_there s at "EN" r)

  pub step_long : Stands s at "ST" → at + 3 ≤ length s
  step_long r = ltb-false (length s) (at + 3) (body_there s at "ST" r)

  pub crash_long : Stands s at "CR" → at + 3 ≤ length s
  crash_long r = ltb-false (length s) (at + 3) (body_there s at "CR" r)

  pub enter_stands : Stands s at "EN" → order_at s at ≡ Ok (Some (Order.Enter (byte_at s (at + 2)) (word_at s (at + 3))))
  enter_stands r = enter_at_lem s at (enter_long r) r.mark

  pub step_stands : Stands s at "ST" → order_at s at ≡ Ok (Some (Order.Step (byte_at s (at + 2))))
  step_stands r = step_at_lem s at (step_long r) r.mark

  pub crash_stands : Stands s at "CR" → order_at s at ≡ Ok (Some (Order.Crash (byte_at s (at + 2))))
  crash_stands r = crash_at_lem s at (crash_long r) r.mark

-- The order at a place where bytes are left, as a choice by tests.
bodied : Bool → Order → AtPlace Order
bodied b o = cond b (Ok (Some o)) (Err BodyCut)

chain : Bool → Bool → Bool → Bool → Bool → AtPlace Order → AtPlace Order → AtPlace Order → AtPlace Order
chain a b en st cr e s c =
    cond a (Err MarkCut) (cond b (Err HeaderAgain) (cond en e (cond st s (cond cr c (Err OtherMark)))))

chosen : (s : List ℕ) (at : ℕ) (a b en st cr vw : Bool)
    → order_by s at (cond a Mark.Cut (cond b Mark.Header (cond en Mark.Enter (cond st Mark.Step (cond cr Mark.Crash (cond vw Mark.View Mark.Other))))))
    ≡ chain a b en st cr (bodied (fits s at 5) (Order.Enter (byte_at s (at + 2)) (word_at s (at + 3)))) (bodied (fits s at 1) (Order.Step (byte_at s (at + 2))))
    (bodied (fits s at 1) (Order.Crash (byte_at s (at + 2))))
unfolding chain bodied
chosen s at true b en st cr vw = refl
chosen s at false true en st cr vw = refl
chosen s at false false true st cr vw = refl
chosen s at false false false true cr vw = refl
chosen s at false false false false true vw = refl
chosen s at false false false false false true = refl
chosen s at false false false false false false = refl

order_is : (s : List ℕ) (at : ℕ) → at < length s
    → order_at s at
    ≡ chain (eqb (length s) (at + 1)) (marked s at "MN") (marked s at "EN") (marked s at "ST") (marked s at "CR")
    (bodied (fits s at 5) (Order.Enter (byte_at s (at + 2)) (word_at s (at + 3)))) (bodied (fits s at 1) (Order.Step (byte_at s (at + 2))))
    (bodied (fits s at 1) (Order.Crash (byte_at s (at + 2))))
unfolding order_at mark_at mark_of
order_is s at h =
    let rest : Mark = cond (eqb (length s) (at + 1)) Mark.Cut (mark_of (byte_at s at) (byte_at s (at + 1))) in
    ap (λ (b : Bool). order_by s at (cond b Mark.End rest)) (lt-leb (length s) at h)
    ∙ chosen s at (eqb (length s) (at + 1)) (marked s at "MN") (marked s at "EN") (marked s at "ST") (marked s at "CR") (marked s at "VW")

-- which mark an order has, and the numbers in it; a fault has a number
abbrev Tells : Bool → Bool → Bool → ℕ → ℕ → AtPlace Order → Type 0
Tells en st cr q w (Ok None) = ⊥
Tells en st cr q w (Err a) = file_number a ≢ 0
Tells en st cr q w (Ok (Some (Order.Enter p v))) = (en ≡ true) × (q ≡ p) × (w ≡ v)
Tells en st cr q w (Ok (Some (Order.Step p))) = (st ≡ true) × (q ≡ p)
Tells en st cr q w (Ok (Some (Order.Crash p))) = (cr ≡ true) × (q ≡ p)

-- the number of what the tests lead to, and what it tells
of_chain : (a b en st cr f g : Bool) (p v : ℕ)
    → (fault_number (chain a b en st cr (bodied f (Order.Enter p v)) (bodied g (Order.Step p)) (bodied g (Order.Crash p)))
    ≡ first_that (when 11 a ∷ when 12 b ∷ when 10 (not (en || st || cr)) ∷ when 24 (cond en (not f) (not g)) ∷ []))
    × Tells en st cr p v (chain a b en st cr (bodied f (Order.Enter p v)) (bodied g (Order.Step p)) (bodied g (Order.Crash p)))
unfolding chain bodied
of_chain true b en st cr f g p v = (refl, λ e. omega arith)
of_chain false true en st cr f g p v = (refl, λ e. omega arith)
of_chain false false true st cr true g p v = (refl, (refl, refl, refl))
of_chain false false true st cr false g p v = (refl, λ e. omega arith)
of_chain false false false true cr f true p v = (refl, (refl, refl))
of_chain false false false true cr f false p v = (refl, λ e. omega arith)
of_chain false false false false true f true p v = (refl, (refl, refl))
of_chain false false false false true f false p v = (refl, λ e. omega arith)
of_chain false false false false false f g p v = (refl, λ e. omega arith)

pub order_number : (s : List ℕ) (at : ℕ) → at < length s → fault_number (order_at s at) ≡ first_that (order_lines s at)
order_number s at h =
    let long : not (fits s at 5) ≡ ltb (length s) (at + 7) = not_leb (at + 2 + 5) (length s) (at + 7) (omega arith) in
    let short : not (fits s at 1) ≡ ltb (length s) (at + 3) = not_leb (at + 2 + 1) (length s) (at + 3) (omega arith) in
    ap fault_number (order_is s at h)
    ∙ (of_chain (eqb (length s) (at + 1)) (marked s at "MN") (marked s at "EN") (marked s at "ST") (marked s at "CR") (fits s at 5) (fits s at 1)
    (byte_at s (at + 2)) (word_at s (at + 3))).0
    ∙ ap₂ (λ (x y : Bool). first_that (when 11 (eqb (length s) (at + 1)) ∷ when 12 (marked s at "MN")
    ∷ when 10 (not (marked s at "EN" || marked s at "ST" || marked s at "CR")) ∷ when 24 (cond (marked s at "EN") x y) ∷ [])) long short

-- an order that is read stands there
abbrev pub Told : List ℕ → ℕ → AtPlace Order → Type 0
Told s at (Ok None) = ⊥
Told s at (Err a) = file_number a ≢ 0
Told s at (Ok (Some (Order.Enter p v))) = Stands s at "EN" × (byte_at s (at + 2) ≡ p) × (word_at s (at + 3) ≡ v)
Told s at (Ok (Some (Order.Step p))) = Stands s at "ST" × (byte_at s (at + 2) ≡ p)
Told s at (Ok (Some (Order.Crash p))) = Stands s at "CR" × (byte_at s (at + 2) ≡ p)

told_by : (s : List ℕ) (at : ℕ) → at < length s → (o : AtPlace Order) → fault_number o ≡ first_that (order_lines s at)
    → Tells (marked s at "EN") (marked s at "ST") (marked s at "CR") (byte_at s (at + 2)) (word_at s (at + 3)) o → Told s at o
told_by s at h (Ok None) n t = t
told_by s at h (Err a) n t = t
told_by s at h (Ok (Some (Order.Enter p v))) n t = (record { left = h; whole = sym n; mark = t.0 }, t.1, t.2)
told_by s at h (Ok (Some (Order.Step p))) n t = (record { left = h; whole = sym n; mark = t.0 }, t.1)
told_by s at h (Ok (Some (Order.Crash p))) n t = (record { left = h; whole = sym n; mark = t.0 }, t.1)

pub told : (s : List ℕ) (at : ℕ) (o : AtPlace Order) → at < length s → order_at s at ≡ o → Told s at o
told s at o h e =
    told_by s at h o (ap fault_number (sym e) ∙ order_number s at h)
    (subst (Tells (marked s at "EN") (marked s at "ST") (marked s at "CR") (byte_at s (at + 2)) (word_at s (at + 3))) (sym (order_is s at h) ∙ e)
    (of_chain (eqb (length s) (at + 1)) (marked s at "MN") (marked s at "EN") (marked s at "ST") (marked s at "CR") (fits s at 5) (fits s at 1)
    (byte_at s (at + 2)) (word_at s (at + 3))).1)
