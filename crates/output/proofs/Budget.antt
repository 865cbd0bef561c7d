-- An order has three bytes at least, so that no file of 65,535 bytes spends a budget of 65,535 orders.
use Prim.Native.Nat.{ℕ, zero, suc, ◌+◌, ◌*◌, ◌≤◌}
use mathlib.Core.Path.{◌≡◌, refl, sym, ap, ap₂, subst, ◌∙◌}
use mathlib.Core.Logic.{◌≢◌}
use mathlib.Core.Bool.{Bool, true, false, ◌&&◌, cond}
use mathlib.Core.List.{List, [], ◌∷◌, ◌++◌, append_assoc}
use native.Mathlib.Omega.{arith}
use lib.Dec.{leb, lit≤}
use lib.ListN.{length, get_or, drop}
use borrow.Author.Tests.{leb-true, leb-false}
use Rattle.std.specs.Prelude.{Some, None, Result, Ok, Err}
use Rattle.formats.specs.declared.FileAnswer.{FileAnswer}
use Rattle.formats.specs.declared.FileAnswer.TheVariants.{Whole, BudgetSpent}
use Rattle.formats.specs.declared.Mark.{Mark}
use Rattle.formats.specs.declared.Order.{Order}
use Rattle.formats.specs.Numbers.{file_number}
use Rattle.formats.specs.Records.{byte_at, fits, mark_at, header_by, header_of, order_by, order_at, AtPlace}
use Rattle.formats.proofs.Reading.{opened}
use Rattle.replays.specs.declared.Replayed.{Replayed}
use Rattle.replays.specs.Replays.{Orders, call_of, width, ended, then, order_then, orders_from, replay_by, replay_of}
use Rattle.replays.proofs.Turns.{wide, whole_order}
use Rattle.text.specs.Ascii.{ascii}
use Rattle.text.specs.Decimal.{digits_in, decimal, Digits}
use Rattle.text.specs.Parts.{joined}
use Rattle.text.proofs.Decimal.{decimal_is_numeral, decimal_tells}
use Rattle.output.specs.Lines.{fields, process_line, run_line, last_line, replay_lines}
use Rattle.output.specs.Promises.{FewOrders, NeverThirteen}
use Rattle.output.proofs.ByLength.{replay_short, replay_long}

-- nothing that is read is answered with 13
abbrev Fine : {T : Type 0} → Result T FileAnswer → Type 0
Fine (Ok x) = Unit {0}
Fine (Err a) = file_number a ≢ 13

fine_if : {T : Type 0} (t : Bool) (r q : Result T FileAnswer) → Fine r → Fine q → Fine (cond t r q)
fine_if true r q h k = h
fine_if false r q h k = k

fine_by : (s : List ℕ) (at : ℕ) (k : Mark) → Fine (order_by s at k)
fine_by s at Mark.End = tt
fine_by s at Mark.Cut = λ e. omega arith
fine_by s at Mark.Header = λ e. omega arith
fine_by s at Mark.Enter = fine_if (fits s at 5) _ _ tt (λ e. omega arith)
fine_by s at Mark.Step = fine_if (fits s at 1) _ _ tt (λ e. omega arith)
fine_by s at Mark.Crash = fine_if (fits s at 1) _ _ tt (λ e. omega arith)
fine_by s at Mark.View = λ e. omega arith
fine_by s at Mark.Other = λ e. omega arith

fine_order : (s : List ℕ) (at : ℕ) (o : AtPlace Order) → order_at s at ≡ o → Fine o
unfolding order_at
fine_order s at o e = subst Fine e (fine_by s at (mark_at s at))

opens_by : (s : List ℕ) (k : Mark) → Fine (header_by s k)
opens_by s Mark.End = λ e. omega arith
opens_by s Mark.Cut = λ e. omega arith
opens_by s Mark.Header =
    fine_if (fits s 0 1) _ _ (fine_if (leb 1 (byte_at s 2) && leb (byte_at s 2) 32) _ _ tt (λ e. omega arith)) (λ e. omega arith)
opens_by s Mark.Enter = λ e. omega arith
opens_by s Mark.Step = λ e. omega arith
opens_by s Mark.Crash = λ e. omega arith
opens_by s Mark.View = λ e. omega arith
opens_by s Mark.Other = λ e. omega arith

opens : (s : List ℕ) → Fine (header_of s)
unfolding header_of
opens s = opens_by s (mark_at s 0)

-- The orders from a place on, and what is answered where the budget is enough for what is left of the file.
record Read (k : ℕ) (s : List ℕ) (at : ℕ) (o : Orders) : Type 0 where
  few : at + 3 * length o.calls ≤ length s
  answer : length s ≤ at + 3 * k → file_number o.answer ≢ 13

read_none : (t : Bool) (s : List ℕ) (at : ℕ) → leb (length s) at ≡ t → at ≤ length s
    → Read 0 s at (cond t (ended Whole (length s)) (ended BudgetSpent at))
read_none true s at e h = record { few = omega arith; answer = λ l q. omega arith }
read_none false s at e h = record { few = omega arith; answer = λ l q. omega (arith, leb-false (length s) at e) }

read_from_lem : (k : ℕ) (s : List ℕ) (at : ℕ) → at ≤ length s → Read k s at (orders_from k s at)
unfolding orders_from
read_from_lem zero s at h = read_none (leb (length s) at) s at refl h
read_from_lem (suc k) s at h = go (order_at s at) refl (read_from_lem k s)
  where
    later : (o : Order) {x : Orders} → Read k s (at + width o) x → Read (suc k) s at (then (call_of o) x)
    later o r = record { few = omega (arith, wide o, r.few); answer = λ l. r.answer (omega (arith, wide o)) }

    go : (r : AtPlace Order) → order_at s at ≡ r → ((next : ℕ) → next ≤ length s → Read k s next (orders_from k s next))
        → Read (suc k) s at (order_then s at r (orders_from k s))
    go (Ok None) e f = record { few = omega arith; answer = λ l q. omega arith }
    go (Err a) e f = record { few = omega arith; answer = λ l. fine_order s at (Err a) e }
    go (Ok (Some o)) e f = later o (f (at + width o) (whole_order s at o e))

-- so of a whole file
read_file : (s : List ℕ) (budget : ℕ) → length s ≤ 65535
    → ((replay_of s budget).taken ≤ 21844) × (21844 ≤ budget → file_number (replay_of s budget).answer ≢ 13)
unfolding replay_of
read_file s budget h = go (header_of s) refl (opens s)
  where
    go : (x : Result ℕ FileAnswer) → header_of s ≡ x → Fine x
        → ((replay_by s budget x).taken ≤ 21844) × (21844 ≤ budget → file_number (replay_by s budget x).answer ≢ 13)
    go (Err a) e o = (omega arith, λ _. o)
    go (Ok n) e o = let r = read_from_lem budget s 3 (opened s n e).long in (omega (arith, r.few), λ l. r.answer (omega arith))

pub few_orders : FewOrders
few_orders s budget h = (read_file s budget h).0

-- The number in the first line: digits up to a space are those of one number.
up_to_space : (ds es x y : List ℕ) → Digits ds → Digits es → ds ++ 32 ∷ x ≡ es ++ 32 ∷ y → ds ≡ es
up_to_space [] [] x y h k e = refl
up_to_space [] (b ∷ es) x y h k e = absurd (omega (arith, ap (λ (l : List ℕ). get_or l 0 0) e, k.0.low))
up_to_space (a ∷ ds) [] x y h k e = absurd (omega (arith, ap (λ (l : List ℕ). get_or l 0 0) e, h.0.low))
up_to_space (a ∷ ds) (b ∷ es) x y h k e =
    ap₂ (λ (i : ℕ) (l : List ℕ). i ∷ l) (ap (λ (l : List ℕ). get_or l 0 0) e) (up_to_space ds es x y h.1 k.1 (ap (drop 1) e))

first-number : (r : Replayed) (n : ℕ) (rest : List ℕ) → replay_lines r ≡ ascii "run " ++ (decimal n ++ 32 ∷ rest) → file_number r.answer ≡ n
unfolding replay_lines run_line
first-number r n rest e =
    let d = decimal (file_number r.answer) in
    let others = decimal r.place ++ fields (r.taken ∷ r.accesses ∷ r.refused ∷ []) in
    let after = joined 1 r.machine.n (process_line r.machine) ++ last_line r.machine in
    decimal_tells (file_number r.answer) n
    (up_to_space d (decimal n) (others ++ 10 ∷ after) rest (decimal_is_numeral (file_number r.answer)).digits (decimal_is_numeral n).digits
    (sym (append_assoc (d ++ 32 ∷ others) (10 ∷ []) after ∙ append_assoc d (32 ∷ others) (10 ∷ after)) ∙ ap (drop 4) e))

pub never_thirteen : NeverThirteen
unfolding decimal digits_in
never_thirteen s rest e = go (leb (length s) 65535) refl
  where
    go : (t : Bool) → leb (length s) 65535 ≡ t → ⊥
    go true l =
        let h = leb-true (length s) 65535 l in
        (read_file s 65535 h).1 (lit≤ tt) (first-number (replay_of s 65535) 13 rest (sym (replay_short s h) ∙ e))
    go false l = let z = ap (λ (b : List ℕ). get_or b 0 0) (sym (replay_long s (leb-false (length s) 65535 l)) ∙ e) in omega arith
