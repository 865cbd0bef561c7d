-- Steps of one process, one after another, and what follows an accepted call.
use mathlib.Core.Path.{◌≡◌, refl, sym, ap, ◌∙◌}
use mathlib.Core.Bool.{Bool, true, false, false≢true}
use Prim.Native.Nat.{ℕ, zero, suc, ◌+◌}
use native.Mathlib.Omega.{arith}
use lib.Dec.{eqb}
use Rattle.rules.specs.declared.Machine.{Machine}
use Rattle.rules.specs.declared.Answer.{Answer}
use Rattle.rules.specs.declared.Answer.TheVariants.{Done, NotShaped, NoProcess, EnteredBefore, NeverEntered, HasCrashed, HasFinished}
use Rattle.rules.specs.declared.Answer.TheVariants.{NoLevelBelow, OutOfRange}
use Rattle.rules.specs.declared.Called.{Called}
use Rattle.rules.specs.Stands.{stage_of}
use Rattle.rules.specs.State.{finished}
use Rattle.rules.specs.Calls.{number_of, accepted, done, step_of, if_accepted, steps_of, finish_from}

-- An accepted call answers `Done`.
done-answer : (a : Answer) → eqb (number_of a) 0 ≡ true → a ≡ Done
done-answer Done e = refl
done-answer NotShaped e = absurd (false≢true e)
done-answer NoProcess e = absurd (false≢true e)
done-answer EnteredBefore e = absurd (false≢true e)
done-answer NeverEntered e = absurd (false≢true e)
done-answer HasCrashed e = absurd (false≢true e)
done-answer HasFinished e = absurd (false≢true e)
done-answer NoLevelBelow e = absurd (false≢true e)
done-answer OutOfRange e = absurd (false≢true e)

pub accepted-done : (c : Called) → accepted c ≡ true → c ≡ done c.machine
accepted-done c e = ap (λ a. record { answer = a; machine = c.machine }) (done-answer c.answer e)

pub then-accepted : (c : Called) (f : Machine → Called) → accepted c ≡ true → if_accepted c f ≡ f c.machine
then-accepted c f e = ap (λ b. elim b as (λ _. Called) [ true ↦ f c.machine | false ↦ c ]) e

pub then-refused : (c : Called) (f : Machine → Called) → accepted c ≡ false → if_accepted c f ≡ c
then-refused c f e = ap (λ b. elim b as (λ _. Called) [ true ↦ f c.machine | false ↦ c ]) e

pub steps_on : (k : ℕ) (m : Machine) (p : ℕ) → accepted (step_of m p) ≡ true → steps_of (suc k) m p ≡ steps_of k (step_of m p).machine p
unfolding steps_of
steps_on k m p e = then-accepted (step_of m p) (λ after. steps_of k after p) e

pub steps_off : (k : ℕ) (m : Machine) (p : ℕ) → accepted (step_of m p) ≡ false → steps_of (suc k) m p ≡ step_of m p
unfolding steps_of
steps_off k m p e = then-refused (step_of m p) (λ after. steps_of k after p) e

-- j steps and then k, if the first are accepted
pub steps_then : (j k : ℕ) (m : Machine) (p : ℕ) → accepted (steps_of j m p) ≡ true → steps_of (j + k) m p ≡ steps_of k (steps_of j m p).machine p
unfolding steps_of
steps_then zero k m p a = let e : 0 + k ≡ k = omega arith in ap (λ i. steps_of i m p) e
steps_then (suc j) k m p a = go (accepted (step_of m p)) refl (steps_then j k (step_of m p).machine p)
  where
    e : suc j + k ≡ suc (j + k)
    e = omega arith

    go : (b : Bool) → accepted (step_of m p) ≡ b
        → (accepted (steps_of j (step_of m p).machine p) ≡ true
        → steps_of (j + k) (step_of m p).machine p ≡ steps_of k (steps_of j (step_of m p).machine p).machine p)
        → steps_of (suc j + k) m p ≡ steps_of k (steps_of (suc j) m p).machine p
    go true t further =
        ap (λ i. steps_of i m p) e ∙ steps_on (j + k) m p t ∙ further (sym (ap accepted (steps_on j m p t)) ∙ a)
        ∙ ap (λ c. steps_of k c.machine p) (sym (steps_on j m p t))
    go false t further = absurd (false≢true (sym t ∙ sym (ap accepted (steps_off j m p t)) ∙ a))

pub steps_first : (k : ℕ) (m m' : Machine) (p : ℕ) → step_of m p ≡ done m' → steps_of (suc k) m p ≡ steps_of k m' p
unfolding steps_of
steps_first k m m' p e = ap (λ c. if_accepted c (λ after. steps_of k after p)) e

pub steps_one : (m : Machine) (p : ℕ) → steps_of 1 m p ≡ step_of m p
unfolding steps_of
steps_one m p = go (accepted (step_of m p)) refl
  where
    go : (b : Bool) → accepted (step_of m p) ≡ b → ◌≡◌ {A = Called} (elim b [ true ↦ done (step_of m p).machine | false ↦ step_of m p ]) (step_of m p)
    go true e = sym (accepted-done (step_of m p) e)
    go false e = refl

-- finishing alone: after the accesses at one level, what follows
abbrev pub next : ℕ → ℕ → Machine → Called
next x p after = elim (finished (stage_of after p)) [ true ↦ done after | false ↦ finish_from x after p ]

pub next_done : (x : ℕ) (p : ℕ) (after : Machine) → finished (stage_of after p) ≡ true → next x p after ≡ done after
next_done x p after e = ap (λ b. elim b as (λ _. Called) [ true ↦ done after | false ↦ finish_from x after p ]) e

pub next_on : (x : ℕ) (p : ℕ) (after : Machine) → finished (stage_of after p) ≡ false → next x p after ≡ finish_from x after p
next_on x p after e = ap (λ b. elim b as (λ _. Called) [ true ↦ done after | false ↦ finish_from x after p ]) e
