-- What else is counted and said of lists of calls.
use Rattle.std.specs.Prelude.{◌≡◌, Bool, true, false, not, ◌&&◌, ◌||◌, List, [], ◌∷◌, ◌++◌, ℕ, eqb}
use Rattle.world.specs.Calls.{Call, enters, steps, crashes, Taker, leaves}

abbrev pub is_step : Call → Bool
is_step (enters p v) = false
is_step (steps p) = true
is_step (crashes p) = false

abbrev pub accepted_step : Call → Bool → Bool
accepted_step c ok = is_step c && ok

abbrev pub is_accepted : Call → Bool → Bool
is_accepted c ok = ok

abbrev pub is_refused : Call → Bool → Bool
is_refused c ok = not ok

-- the same said of prefixes; `ever_is_after_some` of proofs/Laws says that the two agree
pub record AfterSome {S : Type 0} (t : Taker S) (test : S → Bool) (s : S) (cs : List Call) : Type 0 where
  pub before : List Call
  pub rest : List Call
  pub whole : before ++ rest ≡ cs
  pub there : test (leaves t s before) ≡ true

-- an enter of process p is among the calls, and is accepted
abbrev pub is_enter_of : ℕ → Call → Bool
is_enter_of p (enters q v) = eqb q p
is_enter_of p (steps q) = false
is_enter_of p (crashes q) = false

unfoldable pub admits : {S : Type 0} → Taker S → S → List Call → ℕ → Bool
admits t s [] p = false
admits t s (c ∷ cs) p = (is_enter_of p c && t.accepts s c) || admits t (t.after s c) cs p
