-- A run computed without the test of shape, which is dear to compute: every state of a run is well shaped, so that a call equals the same call
-- without the test.
use mathlib.Core.Path.{◌≡◌, refl, ap, ◌∙◌}
use mathlib.Core.Bool.{Bool}
use mathlib.Core.List.{List, [], ◌∷◌}
use Prim.Native.Nat.{ℕ, ◌+◌}
use Rattle.sets.specs.Members.{tick}
use Rattle.rules.specs.declared.Machine.{Machine}
use Rattle.rules.specs.declared.Called.{Called}
use Rattle.rules.specs.declared.Answer.TheVariants.{NotShaped}
use Rattle.rules.specs.Stands.{stage_of}
use Rattle.rules.specs.Shape.{shaped}
use Rattle.rules.specs.Calls.{accepted, refused, enter_at, enter_of, crash_at, crash_of}
use Rattle.rules.specs.Statements.{Meets}
use Rattle.rules.proofs.Laws.Small.{cond-true}
use Rattle.rules.proofs.Laws.Shape.{record_shaped}
use Rattle.rules.proofs.Laws.Bare.{in_range, bare_step, step_bare}
use Rattle.history.specs.Runs.{Call, enters, steps, crashes, answer, after, from, tally}
use Rattle.world.specs.Calls.{leaves, counts}
use Rattle.history.proofs.Moves.{meets_after}

unfoldable pub bare_answer : Machine → Call → Called
bare_answer m (enters p v) = in_range m p (enter_at (stage_of m p) m p v)
bare_answer m (steps p) = bare_step m p
bare_answer m (crashes p) = in_range m p (crash_at (stage_of m p) m p)

answer_bare : (n : ℕ) (m : Machine) → Meets n m → (c : Call) → answer m c ≡ bare_answer m c
unfolding bare_answer enter_of crash_of
answer_bare n m M (enters p v) = cond-true (shaped m) (in_range m p (enter_at (stage_of m p) m p v)) (refused NotShaped m) (record_shaped m M.shape)
answer_bare n m M (steps p) = step_bare n m M p
answer_bare n m M (crashes p) = cond-true (shaped m) (in_range m p (crash_at (stage_of m p) m p)) (refused NotShaped m) (record_shaped m M.shape)

-- The answers of a run, one after another, with the state before each.
pub data Trace : Type 0 where
  last : Machine → Trace
  next : Machine → Call → Called → Trace → Trace

unfoldable pub trace_by : (Machine → Call → Called) → Machine → List Call → Trace
trace_by call m [] = last m
trace_by call m (c ∷ cs) = next m c (call m c) (trace_by call (call m c).machine cs)

pub trace_bare : (n : ℕ) (m : Machine) → Meets n m → (cs : List Call) → trace_by answer m cs ≡ trace_by bare_answer m cs
unfolding trace_by
trace_bare n m M [] = refl
trace_bare n m M (c ∷ cs) =
    ap (λ t. next m c (answer m c) t) (trace_bare n (after m c) (meets_after n m M c) cs)
    ∙ ap (λ a. next m c a (trace_by bare_answer a.machine cs)) (answer_bare n m M c)

-- The state at its end, and how many of its calls pass a test.
abbrev pub end : Trace → Machine
end (last m) = m
end (next m c a t) = end t

abbrev pub tallied : (Call → Bool → Bool) → Trace → ℕ
tallied test (last m) = 0
tallied test (next m c a t) = tick (test c (accepted a)) + tallied test t

pub from_end : (m : Machine) (cs : List Call) → from m cs ≡ end (trace_by answer m cs)
unfolding leaves trace_by
from_end m [] = refl
from_end m (c ∷ cs) = from_end (after m c) cs

pub tally_tallied : (test : Call → Bool → Bool) (m : Machine) (cs : List Call) → tally test m cs ≡ tallied test (trace_by answer m cs)
unfolding counts trace_by
tally_tallied test m [] = refl
tally_tallied test m (c ∷ cs) = ap (λ k. tick (test c (accepted (answer m c))) + k) (tally_tallied test (after m c) cs)
