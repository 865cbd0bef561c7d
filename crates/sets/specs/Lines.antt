-- A table of document 01's numbers: when each applies, a line each, in the order in which they are looked for.
use Rattle.std.specs.Prelude.{ℕ, Bool, cond, List, [], ◌∷◌}

pub record Line : Type 0 where
  pub number : ℕ
  pub applies : Bool

abbrev pub when : ℕ → Bool → Line
when k b = record { number = k; applies = b }

-- the first line that applies, or 0
abbrev pub first_that : List Line → ℕ
first_that [] = 0
first_that (l ∷ ls) = cond l.applies l.number (first_that ls)
