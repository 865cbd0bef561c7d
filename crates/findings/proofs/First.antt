-- The first of a list of findings, over lists that are put together from parts.
use Prim.Native.Nat.{ℕ, zero, suc, ◌+◌, ◌≤◌, ◌<◌}
use mathlib.Core.Path.{◌≡◌, refl, sym, ap, ◌∙◌}
use mathlib.Core.Logic.{◌⊎◌, inl, inr, ⊎_elim}
use mathlib.Core.List.{List, [], ◌∷◌, ◌++◌, map}
use native.Mathlib.Nat.{eq-or-lt_of_le}
use native.Mathlib.Omega.{arith}
use Rattle.std.specs.Prelude.{Option, Some, None, option_map, MatchOption}
use Rattle.std.proofs.lemmas.Option.{none-some}
use Rattle.text.specs.Parts.{joined}
use Rattle.findings.specs.Findings.{first_finding}
use Rattle.findings.proofs.Accepts.{joined_empty}

-- where the first part has a finding it is the first of all, and where it has none the rest decides
pub first_here : {A : Type 0} (l m : List A) (x : A) → first_finding l ≡ Some x → first_finding (l ++ m) ≡ Some x
first_here [] m x e = absurd (none-some x e)
first_here (y ∷ l) m x e = e

pub none_first : {A : Type 0} (l : List A) → first_finding l ≡ None → l ≡ []
none_first [] e = refl
none_first (y ∷ l) e = cc

pub first_later : {A : Type 0} (l m : List A) → first_finding l ≡ None → first_finding (l ++ m) ≡ first_finding m
first_later l m e = ap (λ k. first_finding (k ++ m)) (none_first l e)

pub ruleset firsts = (first_here, first_later)

pub first_or_none : {A : Type 0} (l : List A) → ((x : A) × (first_finding l ≡ Some x)) ⊎ (first_finding l ≡ None)
first_or_none [] = inr refl
first_or_none (x ∷ l) = inl (x, refl)

pub first_map : {A B : Type 0} (f : A → B) (l : List A) → first_finding (map f l) ≡ option_map f (first_finding l)
first_map f [] = refl
first_map f (x ∷ l) = refl

-- The same of parts joined one after another: the first part that has a finding, or none.
pub at_found : {A : Type 0} (a k : ℕ) (f : ℕ → List A) (i : ℕ) (g : A) → a ≤ i → i < a + k → first_finding (f i) ≡ Some g
    → ((h : ℕ) → a ≤ h → h < i → f h ≡ []) → first_finding (joined a k f) ≡ Some g
unfolding joined
at_found a zero f i g l h t b = absurd (omega arith)
at_found a (suc k) f i g l h t b =
    ⊎_elim
    (λ z. first_here (f a) (joined (suc a) k f) g (ap (λ (x : ℕ). first_finding (f x)) z ∙ t))
    (λ z. ap (λ m. first_finding (m ++ joined (suc a) k f)) (b a (omega arith) z)
    ∙ at_found (suc a) k f i g z (omega arith) t (λ x p q. b x (omega arith) q))
    (eq-or-lt_of_le l)

pub first_joined : {A : Type 0} (a k : ℕ) (f : ℕ → List A) (r : Option A)
    → MatchOption r ((i : ℕ) → a ≤ i → i < a + k → first_finding (f i) ≡ None)
    (λ x. (i : ℕ) × (a ≤ i) × (i < a + k) × (first_finding (f i) ≡ Some x) × ((h : ℕ) → a ≤ h → h < i → first_finding (f h) ≡ None))
    → r ≡ first_finding (joined a k f)
first_joined a k f None n = sym (ap first_finding (joined_empty a k f (λ i l h. none_first (f i) (n i l h))))
first_joined a k f (Some x) s = sym (at_found a k f s.0 x s.1 s.2 s.3 (λ h l m. none_first (f h) (s.4 h l m)))
