-- One taker of calls follows another: a map of states that keeps acceptance and goes along with each call carries what is said of lists of calls.
use mathlib.Core.Path.{◌≡◌, refl, ap, ap₂, ◌∙◌}
use mathlib.Core.Bool.{Bool, ◌&&◌, ◌||◌}
use mathlib.Core.List.{List, [], ◌∷◌}
use Prim.Native.Nat.{ℕ, ◌+◌}
use Rattle.sets.specs.Members.{tick}
use Rattle.world.specs.Calls.{Call, Taker, leaves, counts, ever, gives_by, deposits}
use Rattle.world.specs.Counts.{is_enter_of, admits}

-- of states that meet I, which every call keeps
pub record Follows {S T : Type 0} (t : Taker S) (u : Taker T) (map : S → T) (I : S → Type 0) : Type 0 where
  pub keeps : (s : S) → I s → (c : Call) → I (t.after s c)
  pub accepts : (s : S) → I s → (c : Call) → t.accepts s c ≡ u.accepts (map s) c
  pub after : (s : S) → I s → (c : Call) → map (t.after s c) ≡ u.after (map s) c

module _ {S T : Type 0} (t : Taker S) (u : Taker T) (map : S → T) (I : S → Type 0) (f : Follows t u map I) where
  pub kept : (s : S) → I s → (cs : List Call) → I (leaves t s cs)
  unfolding leaves
  kept s i [] = i
  kept s i (c ∷ cs) = kept (t.after s c) (f.keeps s i c) cs

  pub same-leaves : (s : S) → I s → (cs : List Call) → map (leaves t s cs) ≡ leaves u (map s) cs
  unfolding leaves
  same-leaves s i [] = refl
  same-leaves s i (c ∷ cs) = same-leaves (t.after s c) (f.keeps s i c) cs ∙ ap (λ (w : T). leaves u w cs) (f.after s i c)

  pub same-counts : (test : Call → Bool → Bool) (s : S) → I s → (cs : List Call) → counts t test s cs ≡ counts u test (map s) cs
  unfolding counts
  same-counts test s i [] = refl
  same-counts test s i (c ∷ cs) =
      ap₂ (λ (b : Bool) (k : ℕ). tick (test c b) + k) (f.accepts s i c)
      (same-counts test (t.after s c) (f.keeps s i c) cs ∙ ap (λ (w : T). counts u test w cs) (f.after s i c))

  pub same-ever : (test : S → Bool) (other : T → Bool) → ((s : S) → I s → test s ≡ other (map s)) → (s : S) → I s → (cs : List Call)
      → ever t test s cs ≡ ever u other (map s) cs
  unfolding ever
  same-ever test other e s i [] = e s i
  same-ever test other e s i (c ∷ cs) =
      ap₂ (λ (a b : Bool). a || b) (e s i)
      (same-ever test other e (t.after s c) (f.keeps s i c) cs ∙ ap (λ (w : T). ever u other w cs) (f.after s i c))

  pub same-deposits : (s : S) → I s → (cs : List Call) (p : ℕ) → deposits t s cs p ≡ deposits u (map s) cs p
  unfolding deposits
  same-deposits s i [] p = refl
  same-deposits s i (c ∷ cs) p =
      ap₂ (λ (b : Bool) (k : ℕ). gives_by p c b k) (f.accepts s i c)
      (same-deposits (t.after s c) (f.keeps s i c) cs p ∙ ap (λ (w : T). deposits u w cs p) (f.after s i c))

  pub same-admits : (s : S) → I s → (cs : List Call) (p : ℕ) → admits t s cs p ≡ admits u (map s) cs p
  unfolding admits
  same-admits s i [] p = refl
  same-admits s i (c ∷ cs) p =
      ap₂ (λ (a b : Bool). (is_enter_of p c && a) || b) (f.accepts s i c)
      (same-admits (t.after s c) (f.keeps s i c) cs p ∙ ap (λ (w : T). admits u w cs p) (f.after s i c))
