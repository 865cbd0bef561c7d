-- Replaying along a whole file: where it stops, with which calls, and each number exactly when it applies there.
use Prim.Native.Nat.{ℕ, zero, suc, ◌+◌, ◌-◌, ◌≤◌, ◌<◌}
use mathlib.Core.Bool.{Bool, true, false, cond}
use mathlib.Core.Path.{◌≡◌, refl, sym, ap, ◌∙◌, subst, subst₂}
use mathlib.Core.Logic.{inl, inr, ◌≢◌, ⊎_elim}
use mathlib.Core.List.{List, [], ◌∷◌, ◌++◌, append_assoc, append-nil}
use native.Mathlib.Nat.{eq-or-lt_of_le}
use native.Mathlib.Omega.{arith}
use lib.Dec.{leb, eqb}
use lib.ListN.{length, length-append}
use borrow.Author.Tests.{leb-true, leb-false, eqb-true, eqb-false, eq-eqb, ne_eqb}
use Rattle.std.specs.Prelude.{Some, None, Result, Ok, Err}
use Rattle.rules.proofs.Laws.Small.{at_most_or_above}
use Rattle.history.specs.Runs.{Call, enters, steps, crashes}
use Rattle.formats.specs.declared.FileAnswer.{FileAnswer}
use Rattle.formats.specs.declared.FileAnswer.TheVariants.{Whole, BudgetSpent}
use Rattle.formats.specs.declared.Order.{Order}
use Rattle.formats.specs.Numbers.{file_number, place_of}
use Rattle.formats.specs.Records.{byte_at, word_at, header_of, order_at, AtPlace}
use Rattle.formats.specs.Table.{header_lines, place_given}
use Rattle.sets.specs.Lines.{when, first_that}
use Rattle.formats.proofs.Reading.{opened}
use Rattle.formats.proofs.Table.{fault_number, header_number, header_refused}
use Rattle.replays.specs.Replays.{Orders, call_of, width, ended, then, order_then, orders_from, replay_by, replay_of, calls_by, calls_of}
use Rattle.replays.specs.Table.{order_lines, Holds, start, enter, step, crash, HoldsOne, Refusal, RefusedExactly, WholeExactly, WholePlace}
use Rattle.replays.proofs.Turns.{wide, whole_order, order_end, from_end, from_spent, from_order}
use Rattle.replays.proofs.Orders.{Told, order_number, enter_stands, step_stands, crash_stands, told}

-- calls made before others
after : List Call → Orders → Orders
after cs o = record { answer = o.answer; place = o.place; calls = cs ++ o.calls }

one_later : (cs : List Call) (c : Call) (o : Orders) → after cs (then c o) ≡ after (cs ++ c ∷ []) o
unfolding after
one_later cs c o =
    ap (λ (l : List Call). record { answer = o.answer; place = o.place; calls = l }) (sym (append_assoc cs (c ∷ []) o.calls))

-- A place that reading comes to within the budget: what is left is read from there.
record Comes (s : List ℕ) (budget at : ℕ) (cs : List Call) : Type 0 where
  inside : at ≤ length s
  header : (n : ℕ) × (header_of s ≡ Ok n)
  same : orders_from budget s 3 ≡ after cs (orders_from (budget - length cs) s at)

one_more : (s : List ℕ) (budget at : ℕ) (cs : List Call) (o : Order) → Comes s budget at cs → length (cs ++ call_of o ∷ []) ≤ budget
    → order_at s at ≡ Ok (Some o) → Comes s budget (at + width o) (cs ++ call_of o ∷ [])
one_more s budget at cs o g l e =
    let c = call_of o in
    let k = budget - length (cs ++ c ∷ []) in
    let z : budget - length cs ≡ suc k = omega (arith, length-append cs (c ∷ [])) in
    record {
      inside = whole_order s at o e;
      header = g.header;
      same = g.same ∙ ap (after cs) (from_order (budget - length cs) k s at (Ok (Some o)) z e) ∙ one_later cs c (orders_from k s (at + width o));
    }

-- what came before is within the budget too
fewer : (cs : List Call) (c : Call) (budget : ℕ) → length (cs ++ c ∷ []) ≤ budget → length cs ≤ budget
fewer cs c budget l = omega (arith, length-append cs (c ∷ []))

-- a header of which no line applies is read, and the other way round
pub header_whole : (s : List ℕ) (n : ℕ) → header_of s ≡ Ok n → first_that (header_lines s) ≡ 0
header_whole s n e = sym (header_number s) ∙ ap fault_number e

whole_by : (s : List ℕ) → first_that (header_lines s) ≡ 0 → (h : Result ℕ FileAnswer) → header_of s ≡ h → (n : ℕ) × (header_of s ≡ Ok n)
whole_by s z (Ok n) e = (n, e)
whole_by s z (Err a) e = absurd (header_refused s a e (sym (ap fault_number e) ∙ header_number s ∙ z))

pub whole_header : (s : List ℕ) → first_that (header_lines s) ≡ 0 → (n : ℕ) × (header_of s ≡ Ok n)
whole_header s z = whole_by s z (header_of s) refl

comes : {s : List ℕ} {at : ℕ} {cs : List Call} (budget : ℕ) → Holds s at cs → length cs ≤ budget → Comes s budget at cs
unfolding after
comes {s} budget (start z) l =
    let y : budget ≡ budget - 0 = omega arith in
    let h = whole_header s z in
    record { inside = (opened s h.0 h.1).long; header = h; same = ap (λ (k : ℕ). orders_from k s 3) y }
comes {s} budget (enter {at = at} {cs = cs} h r) l =
    let o = Order.Enter (byte_at s (at + 2)) (word_at s (at + 3)) in
    one_more s budget at cs o (comes budget h (fewer cs (call_of o) budget l)) l (enter_stands s at r)
comes {s} budget (step {at = at} {cs = cs} h r) l =
    let o = Order.Step (byte_at s (at + 2)) in
    one_more s budget at cs o (comes budget h (fewer cs (call_of o) budget l)) l (step_stands s at r)
comes {s} budget (crash {at = at} {cs = cs} h r) l =
    let o = Order.Crash (byte_at s (at + 2)) in
    one_more s budget at cs o (comes budget h (fewer cs (call_of o) budget l)) l (crash_stands s at r)

-- an order that is read is held
held_by : {s : List ℕ} {at : ℕ} {cs : List Call} → Holds s at cs → (o : Order) → Told s at (Ok (Some o)) → Holds s (at + width o) (cs ++ call_of o ∷ [])
held_by {s} {at} {cs} h (Order.Enter p v) t = subst₂ (λ (q w : ℕ). Holds s (at + 7) (cs ++ enters q w ∷ [])) t.1 t.2 (enter h t.0)
held_by {s} {at} {cs} h (Order.Step p) t = subst (λ (q : ℕ). Holds s (at + 3) (cs ++ steps q ∷ [])) t.1 (step h t.0)
held_by {s} {at} {cs} h (Order.Crash p) t = subst (λ (q : ℕ). Holds s (at + 3) (cs ++ crashes q ∷ [])) t.1 (crash h t.0)

held_order : (s : List ℕ) (at : ℕ) (cs : List Call) → Holds s at cs → (o : Order) → order_at s at ≡ Ok (Some o) → Holds s (at + width o) (cs ++ call_of o ∷ [])
held_order s at cs h o e = held_by h o (told s at (Ok (Some o)) (omega (arith, wide o, whole_order s at o e)) e)

-- Where reading stops, from a place on with k orders left to take: at the end, at the budget, or at a fault.
data Why (s : List ℕ) (k : ℕ) (o : Orders) : Type 0 where
  whole : o.answer ≡ Whole → o.place ≡ length s → Why s k o
  spent : o.answer ≡ BudgetSpent → o.place < length s → length o.calls ≡ k → Why s k o
  fault : (a : FileAnswer) → o.answer ≡ a → o.place < length s → length o.calls < k → order_at s o.place ≡ Err a → Why s k o

record Stops (s : List ℕ) (k : ℕ) (cs : List Call) (o : Orders) : Type 0 where
  held : Holds s o.place (cs ++ o.calls)
  most : length o.calls ≤ k
  why : Why s k o

-- with no order more
holds-none : (s : List ℕ) (at : ℕ) (cs : List Call) → Holds s at cs → Holds s at (cs ++ [])
holds-none s at cs h = subst (Holds s at) (sym (append-nil cs)) h

stops_end : (s : List ℕ) (k at : ℕ) (cs : List Call) → Holds s at cs → at ≡ length s → Stops s k cs (ended Whole (length s))
stops_end s k at cs h e =
    record { held = subst (λ (x : ℕ). Holds s x (cs ++ [])) e (holds-none s at cs h); most = omega arith; why = whole refl refl }

stops_zero : (s : List ℕ) (at : ℕ) (cs : List Call) → Holds s at cs → at ≤ length s → (b : Bool) → leb (length s) at ≡ b
    → Stops s 0 cs (cond b (ended Whole (length s)) (ended BudgetSpent at))
stops_zero s at cs h l true e = stops_end s 0 at cs h (omega (arith, leb-true (length s) at e))
stops_zero s at cs h l false e =
    record { held = holds-none s at cs h; most = omega arith; why = spent refl (leb-false (length s) at e) refl }

-- one order before the others
why_then : (s : List ℕ) (k : ℕ) (c : Call) (o : Orders) → Why s k o → Why s (suc k) (then c o)
why_then s k c o (whole e p) = whole e p
why_then s k c o (spent e p l) = spent e p (ap suc l)
why_then s k c o (fault a e p l f) = fault a e p (omega arith) f

stops_then : (s : List ℕ) (k : ℕ) (cs : List Call) (c : Call) (o : Orders) → Stops s k (cs ++ c ∷ []) o → Stops s (suc k) cs (then c o)
stops_then s k cs c o g =
    record {
      held = subst (Holds s o.place) (append_assoc cs (c ∷ []) o.calls) g.held;
      most = omega (arith, g.most);
      why = why_then s k c o g.why;
    }

stops_by : (s : List ℕ) (k at : ℕ) (cs : List Call) → Holds s at cs → at ≤ length s
    → ((at : ℕ) (cs : List Call) → Holds s at cs → at ≤ length s → Stops s k cs (orders_from k s at))
    → (o : AtPlace Order) → order_at s at ≡ o → Stops s (suc k) cs (order_then s at o (orders_from k s))
stops_by s k at cs h l go (Ok None) e =
    ⊎_elim (λ q. stops_end s (suc k) at cs h q) (λ q. absurd (told s at (Ok None) q e)) (eq-or-lt_of_le l)
stops_by s k at cs h l go (Err a) e =
    ⊎_elim
    (λ q. let z : ◌≡◌ {A = AtPlace Order} (Ok None) (Err a) = sym (order_end s at (omega arith)) ∙ e in cc)
    (λ q. record { held = holds-none s at cs h; most = omega arith; why = fault a refl q (omega arith) e })
    (eq-or-lt_of_le l)
stops_by s k at cs h l go (Ok (Some o)) e =
    stops_then s k cs (call_of o) (orders_from k s (at + width o))
    (go (at + width o) (cs ++ call_of o ∷ []) (held_order s at cs h o e) (whole_order s at o e))

stops : (k : ℕ) (s : List ℕ) (at : ℕ) (cs : List Call) → Holds s at cs → at ≤ length s → Stops s k cs (orders_from k s at)
unfolding orders_from
stops zero s at cs h l = stops_zero s at cs h l (leb (length s) at) refl
stops (suc k) s at cs h l = stops_by s k at cs h l (λ at' cs' h' l'. stops k s at' cs' h' l') (order_at s at) refl

-- A place has one list of calls: an order moves the place on.
grows_zero : (s : List ℕ) (at : ℕ) → at ≤ length s → (b : Bool)
    → at + length (cond b (ended Whole (length s)) (ended BudgetSpent at)).calls ≤ (cond b (ended Whole (length s)) (ended BudgetSpent at)).place
grows_zero s at l true = omega arith
grows_zero s at l false = omega arith

grows_by : (s : List ℕ) (k at : ℕ) → at ≤ length s
    → ((at : ℕ) → at ≤ length s → at + length (orders_from k s at).calls ≤ (orders_from k s at).place)
    → (o : AtPlace Order) → order_at s at ≡ o → at + length (order_then s at o (orders_from k s)).calls ≤ (order_then s at o (orders_from k s)).place
grows_by s k at l go (Ok None) e = omega arith
grows_by s k at l go (Err a) e = omega arith
grows_by s k at l go (Ok (Some o)) e = omega (arith, wide o, go (at + width o) (whole_order s at o e))

grows : (k : ℕ) (s : List ℕ) (at : ℕ) → at ≤ length s → at + length (orders_from k s at).calls ≤ (orders_from k s at).place
unfolding orders_from
grows zero s at l = grows_zero s at l (leb (length s) at)
grows (suc k) s at l = grows_by s k at l (λ i h. grows k s i h) (order_at s at) refl

none_left : (s : List ℕ) (at : ℕ) → at ≤ length s → (b : Bool) → leb (length s) at ≡ b
    → ((cond b (ended Whole (length s)) (ended BudgetSpent at)).calls ≡ []) × ((cond b (ended Whole (length s)) (ended BudgetSpent at)).place ≡ at)
none_left s at l true e = (refl, omega (arith, leb-true (length s) at e))
none_left s at l false e = (refl, refl)

no_calls : (s : List ℕ) (at k : ℕ) → at ≤ length s → k ≡ 0 → ((orders_from k s at).calls ≡ []) × ((orders_from k s at).place ≡ at)
unfolding orders_from
no_calls s at k l e =
    let t = none_left s at l (leb (length s) at) refl in
    (ap (λ (j : ℕ). (orders_from j s at).calls) e ∙ t.0, ap (λ (j : ℕ). (orders_from j s at).place) e ∙ t.1)

empty : (cs : List Call) → length cs ≡ 0 → cs ≡ []
empty [] e = refl
empty (c ∷ cs) e = absurd (omega arith)

one_list : (s : List ℕ) (at : ℕ) (cs ds : List Call) → Holds s at cs → Holds s at ds → length cs ≤ length ds → cs ≡ ds
unfolding after
one_list s at cs ds h g l =
    let c = comes (length ds) h l in
    let d = comes (length ds) g (omega arith) in
    let o : after cs (orders_from (length ds - length cs) s at) ≡ after ds (orders_from (length ds - length ds) s at) = sym c.same ∙ d.same in
    let z : length ds - length ds ≡ 0 = omega arith in
    let t = no_calls s at (length ds - length ds) d.inside z in
    let place : (orders_from (length ds - length cs) s at).place ≡ at = ap (λ (x : Orders). x.place) o ∙ t.1 in
    let none : (orders_from (length ds - length cs) s at).calls ≡ []
    = empty (orders_from (length ds - length cs) s at).calls (omega (arith, grows (length ds - length cs) s at d.inside)) in
    sym (append-nil cs) ∙ ap (λ (x : List Call). cs ++ x) (sym none) ∙ ap (λ (x : Orders). x.calls) o
    ∙ ap (λ (x : List Call). ds ++ x) t.0 ∙ append-nil ds

pub holds_one : HoldsOne
holds_one s at cs ds h g =
    ⊎_elim (λ l. one_list s at cs ds h g l) (λ l. sym (one_list s at ds cs g h (omega arith))) (at_most_or_above (length cs) (length ds))

-- a file whose header is read
file_stops : (s : List ℕ) (budget n : ℕ) → header_of s ≡ Ok n → Stops s budget [] (orders_from budget s 3)
file_stops s budget n e = stops budget s 3 [] (start (header_whole s n e)) (opened s n e).long

-- What a replay answers, by its header.
record Answered (s : List ℕ) (budget : ℕ) (o : Orders) : Type 0 where
  answer : (replay_of s budget).answer ≡ o.answer
  place : (replay_of s budget).place ≡ place_of o.answer o.place (length s)
  calls : calls_of s budget ≡ o.calls

module _ (s : List ℕ) (budget : ℕ) where
  read_header : (n : ℕ) → header_of s ≡ Ok n → Answered s budget (orders_from budget s 3)
  unfolding replay_of
  read_header n e =
      record {
        answer = ap (λ (h : Result ℕ FileAnswer). (replay_by s budget h).answer) e;
        place = ap (λ (h : Result ℕ FileAnswer). (replay_by s budget h).place) e;
        calls = ap (calls_by s budget) e;
      }

  faulty_header : (a : FileAnswer) → header_of s ≡ Err a
      → ((replay_of s budget).answer ≡ a) × ((replay_of s budget).place ≡ place_of a 0 (length s))
  unfolding replay_of
  faulty_header a e = (ap (λ (h : Result ℕ FileAnswer). (replay_by s budget h).answer) e, ap (λ (h : Result ℕ FileAnswer). (replay_by s budget h).place) e)

  -- the place, by the number and the record that was not taken
  pub stop_place : (n : ℕ) → header_of s ≡ Ok n
      → (replay_of s budget).place ≡ place_given s (file_number (replay_of s budget).answer) (orders_from budget s 3).place
  stop_place n e =
      let r = read_header n e in
      r.place ∙ ap (λ (a : FileAnswer). place_of a (orders_from budget s 3).place (length s)) (sym r.answer)

-- the calls made are those that the file holds up to that record
pub held_calls : (s : List ℕ) (budget n : ℕ) → header_of s ≡ Ok n → Holds s (orders_from budget s 3).place (calls_of s budget)
held_calls s budget n e =
    subst (Holds s (orders_from budget s 3).place) (sym (read_header s budget n e).calls) (file_stops s budget n e).held

pub few_calls : (s : List ℕ) (budget n : ℕ) → header_of s ≡ Ok n → length (orders_from budget s 3).calls ≤ budget
few_calls s budget n e = (file_stops s budget n e).most

-- Each number exactly when it applies.
module _ (s : List ℕ) (budget k : ℕ) (some : k ≢ 0) where
  refusal_why : (o : Orders) → Stops s budget [] o → file_number o.answer ≡ k → Why s budget o → Refusal s budget k o.place
  refusal_why o g e (whole w q) = absurd (some (sym e ∙ ap file_number w))
  refusal_why o g e (spent w q l) =
      inr (
        o.calls,
        g.held,
        g.most,
        q,
        ap (λ (b : Bool). cond b 13 (first_that (order_lines s o.place))) (eq-eqb (length o.calls) budget l) ∙ sym (ap file_number w) ∙ e,
      )
  refusal_why o g e (fault a w q l f) =
      let ne : eqb (length o.calls) budget ≡ false = ne_eqb (length o.calls) budget (λ z. omega arith) in
      let number : first_that (order_lines s o.place) ≡ k = sym (order_number s o.place q) ∙ ap fault_number f ∙ sym (ap file_number w) ∙ e in
      inr (o.calls, g.held, g.most, q, ap (λ (b : Bool). cond b 13 (first_that (order_lines s o.place))) ne ∙ number)

  refusal_by : (place : ℕ) (h : Result ℕ FileAnswer) → header_of s ≡ h → file_number (replay_of s budget).answer ≡ k → (replay_of s budget).place ≡ place
      → (at : ℕ) × Refusal s budget k at × (place ≡ place_given s k at)
  refusal_by place (Err a) h e p =
      let r = faulty_header s budget a h in
      let number : file_number a ≡ k = sym (ap file_number r.0) ∙ e in (
        0,
        inl (refl, sym (header_number s) ∙ ap fault_number h ∙ number),
        sym p ∙ r.1 ∙ ap (λ (x : ℕ). place_given s x 0) number,
      )
  refusal_by place (Ok n) h e p =
      let r = read_header s budget n h in
      let g = file_stops s budget n h in
      let o : Orders = orders_from budget s 3 in
      let number : file_number o.answer ≡ k = sym (ap file_number r.answer) ∙ e in (
        o.place,
        refusal_why o g number g.why,
        sym p ∙ r.place ∙ ap (λ (x : ℕ). place_given s x o.place) number,
      )

-- The other way.
module _ (s : List ℕ) (budget k at : ℕ) (some : k ≢ 0) where
  Answers : Type 0
  Answers = (file_number (replay_of s budget).answer ≡ k) × ((replay_of s budget).place ≡ place_given s k at)

  answers : (a : FileAnswer) (cs : List Call) → Comes s budget at cs → orders_from (budget - length cs) s at ≡ ended a at → file_number a ≡ k → Answers
  unfolding Answers after
  answers a cs c e z =
      let r = read_header s budget c.header.0 c.header.1 in
      let o : orders_from budget s 3 ≡ after cs (ended a at) = c.same ∙ ap (after cs) e in (
        ap file_number (r.answer ∙ ap (λ (x : Orders). x.answer) o) ∙ z,
        r.place ∙ ap (λ (x : Orders). place_of x.answer x.place (length s)) o ∙ ap (λ (x : ℕ). place_given s x at) z,
      )

  order_answers : (cs : List Call) → Comes s budget at cs → length cs < budget → (o : AtPlace Order) → order_at s at ≡ o → fault_number o ≡ k → Answers
  order_answers cs c l (Ok None) e z = absurd (some (sym z))
  order_answers cs c l (Ok (Some o)) e z = absurd (some (sym z))
  order_answers cs c l (Err a) e z =
      answers a cs c (from_order (budget - length cs) (budget - (length cs + 1)) s at (Err a) (omega arith) e) z

  record_answers : (cs : List Call) → Holds s at cs → length cs ≤ budget → at < length s → (b : Bool) → eqb (length cs) budget ≡ b
      → cond b 13 (first_that (order_lines s at)) ≡ k → Answers
  record_answers cs h l in-file true e z =
      answers BudgetSpent cs (comes budget h l) (from_spent (budget - length cs) s at (omega (arith, eqb-true (length cs) budget e)) in-file) z
  record_answers cs h l in-file false e z =
      let less : length cs < budget = ⊎_elim (λ q. absurd (eqb-false (length cs) budget e q)) (λ q. q) (eq-or-lt_of_le l) in
      order_answers cs (comes budget h l) less (order_at s at) refl (order_number s at in-file ∙ z)

-- the calls before a record that is refused are made
pub calls_before : (s : List ℕ) (budget at : ℕ) (cs : List Call) → Holds s at cs → length cs < budget → at < length s
    → first_that (when 13 (eqb (length cs) budget) ∷ order_lines s at) ≢ 0 → calls_of s budget ≡ cs
unfolding after
calls_before s budget at cs h l i n = go (order_at s at) refl
  where
    ne : eqb (length cs) budget ≡ false
    ne = ne_eqb (length cs) budget (λ z. omega arith)

    no : fault_number (order_at s at) ≡ 0 → ⊥
    no e = n (ap (λ (b : Bool). cond b 13 (first_that (order_lines s at))) ne ∙ sym (order_number s at i) ∙ e)

    go : (o : AtPlace Order) → order_at s at ≡ o → calls_of s budget ≡ cs
    go (Err a) e =
        let c = comes budget h (omega arith) in
        (read_header s budget c.header.0 c.header.1).calls
        ∙ ap (λ (x : Orders). x.calls)
        (c.same ∙ ap (after cs) (from_order (budget - length cs) (budget - (length cs + 1)) s at (Err a) (omega arith) e))
        ∙ append-nil cs
    go (Ok None) e = absurd (no (ap fault_number e))
    go (Ok (Some o)) e = absurd (no (ap fault_number e))

-- and of a refused header there are none
pub no_calls_of : (s : List ℕ) (budget : ℕ) → first_that (header_lines s) ≢ 0 → calls_of s budget ≡ []
no_calls_of s budget n = go (header_of s) refl
  where
    go : (h : Result ℕ FileAnswer) → header_of s ≡ h → calls_of s budget ≡ []
    go (Err a) e = ap (calls_by s budget) e
    go (Ok m) e = absurd (n (header_whole s m e))

header_answers : (s : List ℕ) (budget k : ℕ) → k ≢ 0 → (h : Result ℕ FileAnswer) → header_of s ≡ h → fault_number h ≡ k
    → (file_number (replay_of s budget).answer ≡ k) × ((replay_of s budget).place ≡ place_given s k 0)
header_answers s budget k n (Ok m) e f = absurd (n (sym f))
header_answers s budget k n (Err a) e f =
    let r = faulty_header s budget a e in (ap file_number r.0 ∙ f, r.1 ∙ ap (λ (x : ℕ). place_given s x 0) f)

refused_at_lem : (s : List ℕ) (budget k at : ℕ) → k ≢ 0 → Refusal s budget k at
    → (file_number (replay_of s budget).answer ≡ k) × ((replay_of s budget).place ≡ place_given s k at)
unfolding Answers
refused_at_lem s budget k at n =
    ⊎_elim
    (λ p. let r = header_answers s budget k n (header_of s) refl (header_number s ∙ p.1) in (r.0, r.1 ∙ ap (place_given s k) (sym p.0)))
    (λ p. record_answers s budget k at n p.0 p.1 p.2 p.3 (eqb (length p.0) budget) refl p.4)

pub refused_exactly : RefusedExactly
refused_exactly s budget k place n = (
  λ p. refusal_by s budget k n place (header_of s) refl p.0 p.1,
  λ p. let a = refused_at_lem s budget k p.0 n p.1 in (a.0, a.1 ∙ sym p.2),
)

-- And 0.
whole_why : (s : List ℕ) (k : ℕ) (o : Orders) → Why s k o → file_number o.answer ≡ 0 → o.place ≡ length s
whole_why s k o (whole w q) z = q
whole_why s k o (spent w q l) z = absurd (omega (arith, ap file_number w))
whole_why s k o (fault a w q l f) z = absurd (told s o.place (Err a) q f (ap file_number (sym w) ∙ z))

-- a file whose header is read
read_zero : (s : List ℕ) (budget : ℕ) → file_number (replay_of s budget).answer ≡ 0 → (h : Result ℕ FileAnswer) → header_of s ≡ h
    → (n : ℕ) × (header_of s ≡ Ok n)
read_zero s budget z (Ok n) e = (n, e)
read_zero s budget z (Err a) e = absurd (header_refused s a e (sym (ap file_number (faulty_header s budget a e).0) ∙ z))

pub zero_read : (s : List ℕ) (budget : ℕ) → file_number (replay_of s budget).answer ≡ 0 → (n : ℕ) × (header_of s ≡ Ok n)
zero_read s budget z = read_zero s budget z (header_of s) refl

-- all of it was read
pub whole_stop : (s : List ℕ) (budget : ℕ) → file_number (replay_of s budget).answer ≡ 0 → (orders_from budget s 3).place ≡ length s
whole_stop s budget z =
    let h = zero_read s budget z in
    let r = read_header s budget h.0 h.1 in
    whole_why s budget (orders_from budget s 3) (file_stops s budget h.0 h.1).why (ap file_number (sym r.answer) ∙ z)

pub whole_place : WholePlace
whole_place s budget z =
    let h = zero_read s budget z in
    stop_place s budget h.0 h.1 ∙ ap (λ (x : ℕ). place_given s x (orders_from budget s 3).place) z ∙ whole_stop s budget z

ends_with : (s : List ℕ) (budget : ℕ) (cs : List Call) → Comes s budget (length s) cs
    → (file_number (replay_of s budget).answer ≡ 0) × (calls_of s budget ≡ cs)
unfolding after
ends_with s budget cs c =
    let r = read_header s budget c.header.0 c.header.1 in
    let o : orders_from budget s 3 ≡ after cs (ended Whole (length s)) = c.same ∙ ap (after cs) (from_end (budget - length cs) s (length s) (omega arith)) in
    (ap file_number (r.answer ∙ ap (λ (x : Orders). x.answer) o), r.calls ∙ ap (λ (x : Orders). x.calls) o ∙ append-nil cs)

pub whole_exactly : WholeExactly
whole_exactly s budget cs = (
  λ t.
      let h = zero_read s budget t.0 in
      let c : (orders_from budget s 3).calls ≡ cs = sym (read_header s budget h.0 h.1).calls ∙ t.1 in (
        subst₂ (Holds s) (whole_stop s budget t.0) t.1 (held_calls s budget h.0 h.1),
        omega (arith, few_calls s budget h.0 h.1, ap length c),
      ),
  λ p. ends_with s budget cs (comes budget p.0 p.1),
)
