-- On a well shaped machine the test of shape passes, so that a call equals the same call without it. A run is then computed without the test,
-- which is dear to compute.
use mathlib.Core.Path.{◌≡◌, refl, ap, ◌∙◌}
use mathlib.Core.Bool.{Bool, true, false, ◌&&◌, cond}
use mathlib.Core.List.{List, [], ◌∷◌}
use Prim.Native.Nat.{ℕ, zero, suc, ◌+◌, ◌-◌}
use lib.Dec.{leb}
use Rattle.rules.specs.declared.Stage.{Stage}
use Rattle.rules.specs.declared.Stage.TheVariants.{Absent, Running, Finished, Crashed}
use Rattle.rules.specs.declared.Machine.{Machine}
use Rattle.rules.specs.declared.Answer.TheVariants.{NotShaped, NoProcess, NeverEntered, HasCrashed, HasFinished, NoLevelBelow}
use Rattle.rules.specs.declared.Called.{Called}
use Rattle.rules.specs.declared.Sight.{Sight}
use Rattle.rules.specs.Stands.{stage_of}
use Rattle.rules.specs.State.{finished, made_of}
use Rattle.rules.specs.Shape.{shaped}
use Rattle.rules.specs.Calls.{accepted, done, refused, tested, enter_at, enter_of, crash_at, crash_of, step_at, step_of, if_accepted, steps_of}
use Rattle.rules.specs.Calls.{finish_from, or_as_at_entry, finish_at, finish_of, looked, unseen, look_of}
use Rattle.rules.specs.Statements.{Meets}
use Rattle.rules.specs.Examples.{MachineCall, enters, steps, crashes, alone, Fact, answers, counts, stands, sees, Example, answer_to, calls_from}
use Rattle.rules.specs.Examples.{stands_in, sees_in, holds, hold, passes_by, passes, started}
use Rattle.rules.proofs.Laws.Small.{cond-true}
use Rattle.rules.proofs.Laws.Shape.{record_shaped}
use Rattle.rules.proofs.Laws.Keeps.{every_state_meets, keep_steps}

abbrev pub in_range : Machine → ℕ → Called → Called
in_range m p c = cond (leb 1 p && leb p m.n) c (refused NoProcess m)

tested_bare : (n : ℕ) (m : Machine) → Meets n m → (p : ℕ) (c : Called) → tested m p c ≡ in_range m p c
tested_bare n m M p c = cond-true (shaped m) (in_range m p c) (refused NotShaped m) (record_shaped m M.shape)

abbrev pub bare_step : Machine → ℕ → Called
bare_step m p = in_range m p (step_at (stage_of m p) m p)

unfoldable pub bare_steps : ℕ → Machine → ℕ → Called
bare_steps zero m p = done m
bare_steps (suc k) m p = if_accepted (bare_step m p) (λ after. bare_steps k after p)

unfoldable pub bare_from : ℕ → Machine → ℕ → Called
bare_from zero m p = refused NoLevelBelow m
bare_from (suc x) m p =
    if_accepted (bare_steps (m.n + 1 - made_of m.n (stage_of m p)) m p)
    (λ after. elim (finished (stage_of after p)) [ true ↦ done after | false ↦ bare_from x after p ])

abbrev pub bare_at : Stage → Machine → ℕ → Called
bare_at Absent m p = refused NeverEntered m
bare_at (Running x k f) m p = or_as_at_entry m (bare_from x m p)
bare_at (Finished x w) m p = refused HasFinished m
bare_at (Crashed x k f) m p = refused HasCrashed m

unfoldable pub bare_to : Machine → MachineCall → Called
bare_to m (enters p v) = in_range m p (enter_at (stage_of m p) m p v)
bare_to m (steps p) = bare_step m p
bare_to m (crashes p) = in_range m p (crash_at (stage_of m p) m p)
bare_to m (alone p) = in_range m p (bare_at (stage_of m p) m p)

unfoldable pub bare_look : Machine → ℕ → Sight
bare_look m p = cond (leb 1 p && leb p m.n) (looked m (stage_of m p)) (unseen NoProcess)

-- Each equals the call with its test.
pub step_bare : (n : ℕ) (m : Machine) → Meets n m → (p : ℕ) → step_of m p ≡ bare_step m p
unfolding step_of
step_bare n m M p = tested_bare n m M p (step_at (stage_of m p) m p)

then_alike : (c : Called) (f g : Machine → Called) → f c.machine ≡ g c.machine → if_accepted c f ≡ if_accepted c g
then_alike c f g e = go (accepted c)
  where
    go : (b : Bool) → ◌≡◌ {A = Called} (elim b [ true ↦ f c.machine | false ↦ c ]) (elim b [ true ↦ g c.machine | false ↦ c ])
    go true = e
    go false = refl

pub steps_bare : (k n : ℕ) (m : Machine) → Meets n m → (p : ℕ) → steps_of k m p ≡ bare_steps k m p
unfolding steps_of bare_steps
steps_bare zero n m M p = refl
steps_bare (suc k) n m M p =
    then_alike (step_of m p) (λ after. steps_of k after p) (λ after. bare_steps k after p)
    (steps_bare k n (step_of m p).machine (every_state_meets.step n m M p) p)
    ∙ ap (λ c. if_accepted c (λ after. bare_steps k after p)) (step_bare n m M p)

from_bare : (x n : ℕ) (m : Machine) → Meets n m → (p : ℕ) → finish_from x m p ≡ bare_from x m p
unfolding finish_from bare_from
from_bare zero n m M p = refl
from_bare (suc x) n m M p =
    then_alike c (λ after. elim (finished (stage_of after p)) [ true ↦ done after | false ↦ finish_from x after p ])
    (λ after. elim (finished (stage_of after p)) [ true ↦ done after | false ↦ bare_from x after p ])
    (go (finished (stage_of c.machine p)) (from_bare x n c.machine (keep_steps k n m M p) p))
    ∙ ap (λ c. if_accepted c (λ after. elim (finished (stage_of after p)) [ true ↦ done after | false ↦ bare_from x after p ])) (steps_bare k n m M p)
  where
    k : ℕ
    k = m.n + 1 - made_of m.n (stage_of m p)

    c : Called
    c = steps_of k m p

    go : (b : Bool) → finish_from x c.machine p ≡ bare_from x c.machine p
        → ◌≡◌ {A = Called} (elim b [ true ↦ done c.machine | false ↦ finish_from x c.machine p ])
        (elim b [ true ↦ done c.machine | false ↦ bare_from x c.machine p ])
    go true e = refl
    go false e = e

at_bare : (s : Stage) (n : ℕ) (m : Machine) → Meets n m → (p : ℕ) → finish_at s m p ≡ bare_at s m p
at_bare Absent n m M p = refl
at_bare (Running x k f) n m M p = ap (or_as_at_entry m) (from_bare x n m M p)
at_bare (Finished x w) n m M p = refl
at_bare (Crashed x k f) n m M p = refl

answer_bare : (n : ℕ) (m : Machine) → Meets n m → (a : MachineCall) → answer_to m a ≡ bare_to m a
unfolding answer_to bare_to enter_of step_of crash_of finish_of
answer_bare n m M (enters p v) = tested_bare n m M p (enter_at (stage_of m p) m p v)
answer_bare n m M (steps p) = tested_bare n m M p (step_at (stage_of m p) m p)
answer_bare n m M (crashes p) = tested_bare n m M p (crash_at (stage_of m p) m p)
answer_bare n m M (alone p) = tested_bare n m M p (finish_at (stage_of m p) m p) ∙ ap (in_range m p) (at_bare (stage_of m p) n m M p)

pub look_bare : (n : ℕ) (m : Machine) → Meets n m → (p : ℕ) → look_of m p ≡ bare_look m p
unfolding look_of bare_look
look_bare n m M p =
    cond-true (shaped m) (cond (leb 1 p && leb p m.n) (looked m (stage_of m p)) (unseen NoProcess)) (unseen NotShaped) (record_shaped m M.shape)

-- A run of calls, and the facts after it.
answer_meets : (n : ℕ) (m : Machine) → Meets n m → (a : MachineCall) → Meets n (answer_to m a).machine
unfolding answer_to
answer_meets n m M (enters p v) = every_state_meets.enter n m M p v
answer_meets n m M (steps p) = every_state_meets.step n m M p
answer_meets n m M (crashes p) = every_state_meets.crash n m M p
answer_meets n m M (alone p) = every_state_meets.finish n m M p

calls_meet : (n : ℕ) (c : Called) → Meets n c.machine → (calls : List MachineCall) → Meets n (calls_from answer_to c calls).machine
unfolding calls_from
calls_meet n c M [] = M
calls_meet n c M (a ∷ rest) = calls_meet n (answer_to c.machine a) (answer_meets n c.machine M a) rest

calls_bare : (n : ℕ) (c : Called) → Meets n c.machine → (calls : List MachineCall) → calls_from answer_to c calls ≡ calls_from bare_to c calls
unfolding calls_from
calls_bare n c M [] = refl
calls_bare n c M (a ∷ rest) =
    calls_bare n (answer_to c.machine a) (answer_meets n c.machine M a) rest ∙ ap (λ d. calls_from bare_to d rest) (answer_bare n c.machine M a)

holds_bare : (n : ℕ) (c : Called) → Meets n c.machine → (f : Fact) → holds look_of c f ≡ holds bare_look c f
unfolding holds
holds_bare n c M (answers k) = refl
holds_bare n c M (counts k) = refl
holds_bare n c M (stands p s x k) = ap (λ l. stands_in l s x k) (look_bare n c.machine M p)
holds_bare n c M (sees p view) = ap (λ l. sees_in l view) (look_bare n c.machine M p)

hold_bare : (n : ℕ) (c : Called) → Meets n c.machine → (fs : List Fact) → hold look_of c fs ≡ hold bare_look c fs
unfolding hold
hold_bare n c M [] = refl
hold_bare n c M (f ∷ fs) = ap (λ b. b && hold look_of c fs) (holds_bare n c M f) ∙ ap (λ b. holds bare_look c f && b) (hold_bare n c M fs)

pub passes_bare : (n : ℕ) (r : Example) → Meets n (started r.start).machine → passes r ≡ passes_by bare_to bare_look r
passes_bare n r M =
    hold_bare n (calls_from answer_to (started r.start) r.calls) (calls_meet n (started r.start) M r.calls) r.facts
    ∙ ap (λ c. hold bare_look c r.facts) (calls_bare n (started r.start) M r.calls)
