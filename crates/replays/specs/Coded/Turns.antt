-- Replaying order by order, as the code does it: the three counts and the state after the orders taken so far.
use Rattle.std.specs.Prelude.{ℕ, ◌+◌, ◌≤◌, ◌<◌, Bool, cond, List, leb, eqb, length, None, Ok, Err}
use Rattle.sets.specs.Members.{tick}
use Rattle.rules.specs.declared.Answer.{Answer}
use Rattle.rules.specs.declared.Machine.{Machine}
use Rattle.rules.specs.Calls.{number_of}
use Rattle.history.specs.Runs.{Call, answer, from, tally, accepted_step, is_refused}
use Rattle.formats.specs.declared.FileAnswer.{FileAnswer}
use Rattle.formats.specs.declared.FileAnswer.TheVariants.{BudgetSpent}
use Rattle.formats.specs.declared.Order.{Order}
use Rattle.formats.specs.Numbers.{place_of}
use Rattle.formats.specs.Records.{AtPlace, order_at}
use Rattle.replays.specs.declared.Counts.{Counts}
use Rattle.replays.specs.declared.Replayed.{Replayed}
use Rattle.replays.specs.Replays.{Orders}

-- no order taken yet
abbrev pub none : Counts
none = record { taken = 0; accesses = 0; refused = 0 }

-- one call more, which the machine has answered
abbrev pub counted : Counts → Call → Answer → Counts
counted k c a =
    record {
      taken = k.taken + 1;
      accesses = k.accesses + tick (accepted_step c (eqb (number_of a) 0));
      refused = k.refused + tick (is_refused c (eqb (number_of a) 0));
    }

-- the counts after one call more on a machine
abbrev pub took : Counts → Machine → Call → Counts
took k m c = counted k c (answer m c).answer

-- what is next at a place: the record that stands there, or 13 before any look if bytes are left and the budget is spent
abbrev pub next_order : List ℕ → ℕ → Bool → AtPlace Order
next_order s at spent = cond spent (cond (leb (length s) at) (Ok None) (Err BudgetSpent)) (order_at s at)

-- where the replay of a file ends
abbrev pub ends : List ℕ → FileAnswer → ℕ → Counts → Machine → Replayed
ends s a at k m =
    record { answer = a; place = place_of a at (length s); taken = k.taken; accesses = k.accesses; refused = k.refused; machine = m }

-- the orders that are left, taken after those that were counted and left the machine
abbrev pub resumed : List ℕ → Counts → Machine → Orders → Replayed
resumed s k m o =
    record {
      answer = o.answer;
      place = place_of o.answer o.place (length s);
      taken = k.taken + length o.calls;
      accesses = k.accesses + tally accepted_step m o.calls;
      refused = k.refused + tally is_refused m o.calls;
      machine = from m o.calls;
    }

-- one order more can be counted; no count passes the orders taken
pub record CountsFit (k : Counts) : Type 0 where
  pub more : k.taken < 4294967295
  pub accesses : k.accesses ≤ k.taken
  pub refused : k.refused ≤ k.taken
