-- What is proved of lists of calls, whoever takes them.
use Rattle.std.specs.Prelude.{◌≡◌, ◌↔◌, Bool, true, List, ◌++◌, ◌+◌, length}
use Rattle.world.specs.Calls.{Call, Taker, leaves, counts, ever}
use Rattle.world.specs.Counts.{is_accepted, is_refused, AfterSome}

pub record OfEveryTaker (S : Type 0) (t : Taker S) : Type 0 where
  -- one list after another
  pub state : (s : S) (cs ds : List Call) → leaves t s (cs ++ ds) ≡ leaves t (leaves t s cs) ds
  pub counted : (test : Call → Bool → Bool) (s : S) (cs ds : List Call)
      → counts t test s (cs ++ ds) ≡ counts t test s cs + counts t test (leaves t s cs) ds
  -- a call is accepted or refused
  pub calls : (s : S) (cs : List Call) → counts t is_accepted s cs + counts t is_refused s cs ≡ length cs
  -- "ever" is after some prefix
  pub prefix : (test : S → Bool) (s : S) (cs : List Call) → (ever t test s cs ≡ true) ↔ AfterSome t test s cs
