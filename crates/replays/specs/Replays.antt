-- What replaying an order file is (document 01, "Files"): the file is read into a list of calls, and the calls are made on a fresh machine.
use Rattle.std.specs.Prelude.{ℕ, zero, suc, ◌+◌, cond, List, [], ◌∷◌, leb, length, Some, None, Result, Ok, Err}
use Rattle.rules.specs.Calls.{fresh}
use Rattle.history.specs.Runs.{Call, enters, steps, crashes, runs, all_steps, refused_calls}
use Rattle.formats.specs.declared.FileAnswer.{FileAnswer}
use Rattle.formats.specs.declared.FileAnswer.TheVariants.{Whole, BudgetSpent}
use Rattle.formats.specs.declared.Order.{Order}
use Rattle.formats.specs.Numbers.{place_of}
use Rattle.formats.specs.Records.{header_of, AtPlace, order_at}
use Rattle.replays.specs.declared.Replayed.{Replayed}

-- What a file holds: the calls up to a place, and why the reading ended there. The place is that of the record that was not taken.
pub record Orders : Type 0 where
  pub answer : FileAnswer
  pub place : ℕ
  pub calls : List Call

abbrev pub ended : FileAnswer → ℕ → Orders
ended a at = record { answer = a; place = at; calls = [] }

abbrev pub then : Call → Orders → Orders
then c o = record { answer = o.answer; place = o.place; calls = c ∷ o.calls }

-- the call that an order asks for, and how many bytes its record has
abbrev pub call_of : Order → Call
call_of (Order.Enter p v) = enters p v
call_of (Order.Step p) = steps p
call_of (Order.Crash p) = crashes p

abbrev pub width : Order → ℕ
width (Order.Enter p v) = 7
width (Order.Step p) = 3
width (Order.Crash p) = 3

-- What stands at a place, and what follows it there: "the offset of the record's mark, or the file's length when all was read."
abbrev pub order_then : List ℕ → ℕ → AtPlace Order → (ℕ → Orders) → Orders
order_then s at (Ok None) next = ended Whole (length s)
order_then s at (Err a) next = ended a at
order_then s at (Ok (Some o)) next = then (call_of o) (next (at + width o))

-- The orders from a place on, with a budget. "If bytes are left and the budget is used up, 13 comes before any look at the next record."
unfoldable pub orders_from : ℕ → List ℕ → ℕ → Orders
orders_from zero s at = cond (leb (length s) at) (ended Whole (length s)) (ended BudgetSpent at)
orders_from (suc budget) s at = order_then s at (order_at s at) (orders_from budget s)

-- "A replay returns number, place, orders taken, accesses made, orders refused, and the state after the orders taken." "Accesses made is the number
-- of accepted steps." An order that the machine refuses is among the calls: it leaves the state as it was.
abbrev pub replayed : List ℕ → ℕ → Orders → Replayed
replayed s n o =
    record {
      answer = o.answer;
      place = place_of o.answer o.place (length s);
      taken = length o.calls;
      accesses = all_steps n o.calls;
      refused = refused_calls n o.calls;
      machine = runs n o.calls;
    }

-- "After a refused header the state is a fresh machine of one process and the three counts are 0."
abbrev pub no_replay : List ℕ → FileAnswer → Replayed
no_replay s a = record { answer = a; place = place_of a 0 (length s); taken = 0; accesses = 0; refused = 0; machine = fresh 1 }

-- "The header is no order; it is read first, at every budget, and its own faults come before 13."
abbrev pub replay_by : List ℕ → ℕ → Result ℕ FileAnswer → Replayed
replay_by s budget (Ok n) = replayed s n (orders_from budget s 3)
replay_by s budget (Err a) = no_replay s a

unfoldable pub replay_of : List ℕ → ℕ → Replayed
replay_of s budget = replay_by s budget (header_of s)

-- the calls that are made, and of how many processes the machine is
abbrev pub calls_by : List ℕ → ℕ → Result ℕ FileAnswer → List Call
calls_by s budget (Ok n) = (orders_from budget s 3).calls
calls_by s budget (Err a) = []

abbrev pub calls_of : List ℕ → ℕ → List Call
calls_of s budget = calls_by s budget (header_of s)

abbrev pub processes_by : Result ℕ FileAnswer → ℕ
processes_by (Ok n) = n
processes_by (Err a) = 1

abbrev pub processes_of : List ℕ → ℕ
processes_of s = processes_by (header_of s)
