-- Replaying order by order: what one turn does to what is left to replay.
use Prim.Native.Nat.{ℕ, zero, suc, ◌+◌, ◌-◌, ◌≤◌, ◌<◌}
use mathlib.Core.Bool.{Bool, true, false, cond}
use mathlib.Core.Path.{◌≡◌, refl, sym, ap, ◌∙◌, subst}
use mathlib.Core.List.{List}
use native.Mathlib.Omega.{arith}
use lib.Dec.{leb, eqb}
use lib.ListN.{length}
use borrow.Author.Tests.{leb-true, le-leb, lt-leb, eqb-true, eqb-false}
use Rattle.std.specs.Prelude.{Some, None, Ok, Err}
use Rattle.sets.specs.Members.{tick}
use Rattle.rules.specs.declared.Machine.{Machine}
use Rattle.rules.specs.Calls.{accepted}
use Rattle.history.specs.Runs.{Call, answer, from, accepted_step, is_refused}
use Rattle.formats.specs.declared.FileAnswer.{FileAnswer}
use Rattle.formats.specs.declared.FileAnswer.TheVariants.{Whole, BudgetSpent, BodyCut}
use Rattle.formats.specs.declared.Mark.{Mark}
use Rattle.formats.specs.declared.Order.{Order}
use Rattle.formats.specs.Numbers.{place_of}
use Rattle.formats.specs.Records.{byte_at, fits, mark_of, mark_at, order_by, order_at, AtPlace}
use Rattle.replays.specs.declared.Counts.{Counts}
use Rattle.replays.specs.declared.Replayed.{Replayed}
use Rattle.replays.specs.Replays.{Orders, call_of, width, ended, then, order_then, orders_from, replayed}
use Rattle.replays.specs.Coded.Turns.{took, next_order, ends, resumed}
use Rattle.world.specs.Calls.{counts, leaves}

-- the same number, place and state with equal counts
alike : (a : FileAnswer) (p : ℕ) (m : Machine) {t t' x x' r r' : ℕ} → t ≡ t' → x ≡ x' → r ≡ r'
    → ◌≡◌ {A = Replayed} (record { answer = a; place = p; taken = t; accesses = x; refused = r; machine = m })
    (record { answer = a; place = p; taken = t'; accesses = x'; refused = r'; machine = m })
alike a p m e f g = λ i. record { answer = a; place = p; taken = e i; accesses = f i; refused = g i; machine = m }

pub resumed-took : (s : List ℕ) (r : Counts) (m : Machine) (c : Call) (o : Orders)
    → resumed s r m (then c o) ≡ resumed s (took r m c) (answer m c).machine o
unfolding counts leaves
resumed-took s r m c o =
    let a = answer m c in
    alike o.answer (place_of o.answer o.place (length s)) (from a.machine o.calls) (omega arith) (omega arith) (omega arith)

pub resumed-ended : (s : List ℕ) (r : Counts) (m : Machine) (a : FileAnswer) (at : ℕ) → ends s a at r m ≡ resumed s r m (ended a at)
unfolding counts leaves
resumed-ended s r m a at = alike a (place_of a at (length s)) m (omega arith) (omega arith) (omega arith)

-- no order is shorter
pub wide : (o : Order) → 3 ≤ width o
wide (Order.Enter p v) = omega arith
wide (Order.Step p) = omega arith
wide (Order.Crash p) = omega arith

-- An order that is read is whole.
abbrev IsWhole : List ℕ → ℕ → AtPlace Order → Type 0
IsWhole s at (Ok None) = Unit {0}
IsWhole s at (Err a) = Unit {0}
IsWhole s at (Ok (Some o)) = at + width o ≤ length s

whole_if : (s : List ℕ) (at body : ℕ) (o : Order) (b : Bool) → fits s at body ≡ b → width o ≡ 2 + body
    → IsWhole s at (cond b (Ok (Some o)) (Err BodyCut))
whole_if s at body o true e w = omega (arith, leb-true (at + 2 + body) (length s) e)
whole_if s at body o false e w = tt

whole_by : (s : List ℕ) (at : ℕ) (m : Mark) → IsWhole s at (order_by s at m)
whole_by s at Mark.End = tt
whole_by s at Mark.Cut = tt
whole_by s at Mark.Header = tt
whole_by s at Mark.Enter = whole_if s at 5 _ (fits s at 5) refl refl
whole_by s at Mark.Step = whole_if s at 1 _ (fits s at 1) refl refl
whole_by s at Mark.Crash = whole_if s at 1 _ (fits s at 1) refl refl
whole_by s at Mark.View = tt
whole_by s at Mark.Other = tt

pub whole_order : (s : List ℕ) (at : ℕ) (o : Order) → order_at s at ≡ Ok (Some o) → at + width o ≤ length s
unfolding order_at
whole_order s at o e = subst (IsWhole s at) e (whole_by s at (mark_at s at))

-- at the end nothing is left
abbrev mark_if_lem : List ℕ → ℕ → Mark
mark_if_lem s at = cond (eqb (length s) (at + 1)) Mark.Cut (mark_of (byte_at s at) (byte_at s (at + 1)))

pub order_end : (s : List ℕ) (at : ℕ) → length s ≤ at → order_at s at ≡ Ok None
unfolding order_at mark_at
order_end s at h = ap (λ (b : Bool). order_by s at (cond b Mark.End (mark_if_lem s at))) (le-leb (length s) at h)

-- The orders from a place on.
pub from_end : (k : ℕ) (s : List ℕ) (at : ℕ) → length s ≤ at → orders_from k s at ≡ ended Whole (length s)
unfolding orders_from
from_end zero s at h = ap (λ (b : Bool). cond b (ended Whole (length s)) (ended BudgetSpent at)) (le-leb (length s) at h)
from_end (suc k) s at h = ap (λ (o : AtPlace Order). order_then s at o (orders_from k s)) (order_end s at h)

pub from_spent : (k : ℕ) (s : List ℕ) (at : ℕ) → k ≡ 0 → at < length s → orders_from k s at ≡ ended BudgetSpent at
unfolding orders_from
from_spent k s at e h =
    ap (λ (j : ℕ). orders_from j s at) e
    ∙ ap (λ (b : Bool). cond b (ended Whole (length s)) (ended BudgetSpent at)) (lt-leb (length s) at h)

pub from_order : (k j : ℕ) (s : List ℕ) (at : ℕ) (o : AtPlace Order) → k ≡ suc j → order_at s at ≡ o → orders_from k s at ≡ order_then s at o (orders_from j s)
unfolding orders_from
from_order k j s at o e f = ap (λ (i : ℕ). orders_from i s at) e ∙ ap (λ (x : AtPlace Order). order_then s at x (orders_from j s)) f

-- with what is next, whether the budget is spent or not
from_next : (k j : ℕ) (s : List ℕ) (at : ℕ) (spent : Bool) → (spent ≡ true → k ≡ 0) → (spent ≡ false → k ≡ suc j)
    → orders_from k s at ≡ order_then s at (next_order s at spent) (orders_from j s)
unfolding orders_from
from_next k j s at false f g = ap (λ (i : ℕ). orders_from i s at) (g refl)
from_next k j s at true f g = ap (λ (i : ℕ). orders_from i s at) (f refl) ∙ ends_by (leb (length s) at)
  where
    ends_by : (b : Bool) → cond b (ended Whole (length s)) (ended BudgetSpent at) ≡ order_then s at (cond b (Ok None) (Err BudgetSpent)) (orders_from j s)
    ends_by true = refl
    ends_by false = refl

-- an order is next only where the budget is left
not_spent : (s : List ℕ) (at : ℕ) (spent : Bool) (o : Order) → next_order s at spent ≡ Ok (Some o) → spent ≡ false × (order_at s at ≡ Ok (Some o))
not_spent s at false o e = (refl, e)
not_spent s at true o e = ends_by (leb (length s) at) e
  where
    ends_by : (b : Bool) → cond b (Ok None) (Err BudgetSpent) ≡ Ok (Some o) → true ≡ false × (order_at s at ≡ Ok (Some o))
    ends_by true = λ q. cc
    ends_by false = λ q. cc

-- no count passes the orders taken
ticked : (b : Bool) → tick b ≤ 1
ticked true = omega arith
ticked false = omega arith

-- A replay under way at a place: what is left to replay ends as the whole does.
pub record Going (s : List ℕ) (n budget : ℕ) (r : Counts) (m : Machine) (at : ℕ) : Type 0 where
  pub inside : at ≤ length s
  pub taken : r.taken ≤ budget
  pub accesses : r.accesses ≤ r.taken
  pub refused : r.refused ≤ r.taken
  pub left : resumed s r m (orders_from (budget - r.taken) s at) ≡ replayed s n (orders_from budget s 3)

module _ {s : List ℕ} {n budget : ℕ} {r : Counts} {m : Machine} {at : ℕ} (g : Going s n budget r m at) where
  turn : {x : AtPlace Order} → next_order s at (eqb r.taken budget) ≡ x
      → orders_from (budget - r.taken) s at ≡ order_then s at x (orders_from (budget - (r.taken + 1)) s)
  turn e =
      from_next (budget - r.taken) (budget - (r.taken + 1)) s at (eqb r.taken budget) (λ t. omega (arith, eqb-true r.taken budget t))
      (λ f. let z = eqb-false r.taken budget f in omega (arith, g.taken, z))
      ∙ ap (λ (y : AtPlace Order). order_then s at y (orders_from (budget - (r.taken + 1)) s)) e

  over : (a : FileAnswer) (p : ℕ) → orders_from (budget - r.taken) s at ≡ ended a p → ends s a p r m ≡ replayed s n (orders_from budget s 3)
  over a p e = resumed-ended s r m a p ∙ ap (resumed s r m) (sym e) ∙ g.left

  pub over_whole : next_order s at (eqb r.taken budget) ≡ Ok None → ends s Whole (length s) r m ≡ replayed s n (orders_from budget s 3)
  over_whole e = over Whole (length s) (turn e)

  pub over_fault : (a : FileAnswer) → next_order s at (eqb r.taken budget) ≡ Err a → ends s a at r m ≡ replayed s n (orders_from budget s 3)
  over_fault a e = over a at (turn e)

  -- an order is whole and moves the place on, and one order more can be counted
  pub going_fits : (o : Order) → next_order s at (eqb r.taken budget) ≡ Ok (Some o) → (r.taken < budget) × (at + width o ≤ length s) × (3 ≤ width o)
  going_fits o e =
      let t = not_spent s at (eqb r.taken budget) o e in
      let z = eqb-false r.taken budget t.0 in
      (omega (arith, g.taken, z), whole_order s at o t.1, wide o)

  pub going_order : (o : Order) → next_order s at (eqb r.taken budget) ≡ Ok (Some o)
      → Going s n budget (took r m (call_of o)) (answer m (call_of o)).machine (at + width o)
  going_order o e =
      let c = call_of o in
      let t = going_fits o e in
      let rest = orders_from (budget - (r.taken + 1)) s (at + width o) in
      record {
        inside = t.1;
        taken = omega (arith, t.0);
        accesses = omega (arith, g.accesses, ticked (accepted_step c (accepted (answer m c))));
        refused = omega (arith, g.refused, ticked (is_refused c (accepted (answer m c))));
        left = sym (resumed-took s r m c rest) ∙ ap (resumed s r m) (sym (turn e)) ∙ g.left;
      }
