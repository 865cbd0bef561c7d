-- Lists of calls, and what they do to whoever takes them: an engine, or the world of a published program. Whatever is counted here is counted from
-- the list, by recursion on it, and not read off a state.
use Rattle.std.specs.Prelude.{Bool, false, ◌&&◌, ◌||◌, cond, List, [], ◌∷◌, ℕ, ◌+◌, eqb}
use Rattle.sets.specs.Members.{tick}

pub data Call : Type 0 where
  enters : ℕ → ℕ → Call
  steps crashes : ℕ → Call

-- who takes calls: whether one is accepted, and what is after it
pub record Taker (S : Type 0) : Type 0 where
  pub accepts : S → Call → Bool
  pub after : S → Call → S

-- what the calls leave
unfoldable pub leaves : {S : Type 0} → Taker S → S → List Call → S
leaves t s [] = s
leaves t s (c ∷ cs) = leaves t (t.after s c) cs

-- how many of the calls pass a test of the call and of whether it was accepted
unfoldable pub counts : {S : Type 0} → Taker S → (Call → Bool → Bool) → S → List Call → ℕ
counts t test s [] = 0
counts t test s (c ∷ cs) = tick (test c (t.accepts s c)) + counts t test (t.after s c) cs

abbrev pub is_step_of : ℕ → Call → Bool
is_step_of p (enters q v) = false
is_step_of p (steps q) = eqb q p
is_step_of p (crashes q) = false

-- an accepted step of p; specs/Counts has the other tests
abbrev pub accepted_step_of : ℕ → Call → Bool → Bool
accepted_step_of p c ok = is_step_of p c && ok

-- a test is passed after some of the calls: none of them, the first, the first two, .. all
unfoldable pub ever : {S : Type 0} → Taker S → (S → Bool) → S → List Call → Bool
ever t test s [] = test s
ever t test s (c ∷ cs) = test s || ever t test (t.after s c) cs

-- the value that the call gives to process p, if it is an accepted enter of p; otherwise `other`
abbrev pub gives_by : ℕ → Call → Bool → ℕ → ℕ
gives_by p (enters q v) ok other = cond (eqb q p && ok) v other
gives_by p (steps q) ok other = other
gives_by p (crashes q) ok other = other

-- the value that process p deposited, read off the list of calls (0 where it never entered)
unfoldable pub deposits : {S : Type 0} → Taker S → S → List Call → ℕ → ℕ
deposits t s [] p = 0
deposits t s (c ∷ cs) p = gives_by p c (t.accepts s c) (deposits t (t.after s c) cs p)
