-- What it says that the first line of a table that applies has number m: line after line, that those with another number do not apply, and one with
-- this number does, or the lines after it say so.
use Prim.Native.Nat.{ℕ}
use mathlib.Core.Bool.{Bool, true, false, cond}
use mathlib.Core.Path.{◌≡◌, refl, ap, ◌∙◌}
use mathlib.Core.Logic.{◌⊎◌, inl, inr, ⊎_elim}
use mathlib.Core.List.{List, [], ◌∷◌}
use lib.Dec.{eqb}
use borrow.Author.Tests.{eqb-true, eqb-false}
use Rattle.sets.specs.Lines.{Line, first_that}

-- a line that does not apply, and what the next ones say
pub record Passed (b : Bool) (rest : Type 0) : Type 0 where
  pub off : b ≡ false
  pub next : rest

pub pass : {b : Bool} {rest : Type 0} → b ≡ false → rest → Passed b rest
pass e t = record { off = e; next = t }

-- one line, with this number or with another
abbrev LineSays : Bool → Bool → Type 0 → Type 0
LineSays true b rest = (b ≡ true) ⊎ Passed b rest
LineSays false b rest = Passed b rest

abbrev pub Says : List Line → ℕ → Type 0
Says [] m = 0 ≡ m
Says (l ∷ ls) m = LineSays (eqb l.number m) l.applies (Says ls m)

line_says : (same : Bool) (k m : ℕ) → eqb k m ≡ same → (b : Bool) (r : ℕ) (rest : Type 0) → (r ≡ m → rest) → cond b k r ≡ m → LineSays same b rest
line_says true k m e true r rest f z = inl refl
line_says true k m e false r rest f z = inr (pass refl (f z))
line_says false k m e true r rest f z = absurd (eqb-false k m e z)
line_says false k m e false r rest f z = pass refl (f z)

pub says : (ls : List Line) (m : ℕ) → first_that ls ≡ m → Says ls m
says [] m z = z
says (l ∷ ls) m z = line_says (eqb l.number m) l.number m refl l.applies (first_that ls) (Says ls m) (says ls m) z

-- the other way
first_line : (same : Bool) (k m : ℕ) → eqb k m ≡ same → (b : Bool) (r : ℕ) (rest : Type 0) → (rest → r ≡ m) → LineSays same b rest → cond b k r ≡ m
first_line true k m e b r rest f t =
    ⊎_elim
    (λ h. ap (λ (x : Bool). cond x k r) h ∙ eqb-true k m e)
    (λ h. ap (λ (x : Bool). cond x k r) h.off ∙ f h.next)
    t
first_line false k m e b r rest f t = ap (λ (x : Bool). cond x k r) t.off ∙ f t.next

pub first_is : (ls : List Line) (m : ℕ) → Says ls m → first_that ls ≡ m
first_is [] m t = t
first_is (l ∷ ls) m t = first_line (eqb l.number m) l.number m refl l.applies (first_that ls) (Says ls m) (first_is ls m) t
