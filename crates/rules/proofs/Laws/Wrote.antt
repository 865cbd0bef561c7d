-- "Has written row x" in numbers: the lowest row that a process has written is its level, or one above it before its write there.
use mathlib.Core.Path.{◌≡◌, sym, ap, ◌∙◌}
use mathlib.Core.Logic.{◌⊎◌, inl, inr, ◌≢◌}
use mathlib.Core.Bool.{true, ◌&&◌, ◌||◌}
use Prim.Native.Nat.{ℕ, ◌+◌, ◌-◌, ◌≤◌, ◌<◌}
use native.Mathlib.Omega.{arith}
use lib.Dec.{leb, ltb, eqb}
use borrow.Author.Tests.{le-leb, lt-leb, lt-ltb, le-ltb, eq-eqb, ne_eqb}
use Rattle.rules.specs.declared.Stage.{Stage}
use Rattle.rules.specs.Stands.{entered}
use Rattle.rules.specs.State.{level_of, made_of, wrote}
use Rattle.rules.proofs.Laws.Small.{equal_or_not, at_most_or_above}

abbrev pub lowest_row : ℕ → Stage → ℕ
lowest_row n s = level_of s + (1 - made_of n s)

from_level : (l k x : ℕ) → (ltb l x || (eqb l x && ltb 0 k)) ≡ leb (l + (1 - k)) x
from_level l k x = go (at_most_or_above x l) (equal_or_not l x) (equal_or_not k 0)
  where
    go : (x ≤ l) ⊎ (l < x) → (l ≡ x) ⊎ (l ≢ x) → (k ≡ 0) ⊎ (k ≢ 0) → (ltb l x || (eqb l x && ltb 0 k)) ≡ leb (l + (1 - k)) x
    go (inr below) e z =
        let le : l + (1 - k) ≤ x = omega arith in
        ap (λ b. b || (eqb l x && ltb 0 k)) (lt-ltb l x below) ∙ sym (le-leb (l + (1 - k)) x le)
    go (inl above) (inr ne) z =
        let gt : x < l + (1 - k) = omega arith in
        ap (λ b. b || (eqb l x && ltb 0 k)) (le-ltb l x above) ∙ ap (λ b. b && ltb 0 k) (ne_eqb l x ne) ∙ sym (lt-leb (l + (1 - k)) x gt)
    go (inl above) (inl e) (inl z) =
        let gt : x < l + (1 - k) = omega arith in
        let none : k ≤ 0 = omega arith in
        ap (λ b. b || (eqb l x && ltb 0 k)) (le-ltb l x above) ∙ ap (λ b. b && ltb 0 k) (eq-eqb l x e) ∙ le-ltb 0 k none
        ∙ sym (lt-leb (l + (1 - k)) x gt)
    go (inl above) (inl e) (inr nz) =
        let le : l + (1 - k) ≤ x = omega arith in
        let one : 0 < k = omega arith in
        ap (λ b. b || (eqb l x && ltb 0 k)) (le-ltb l x above) ∙ ap (λ b. b && ltb 0 k) (eq-eqb l x e) ∙ lt-ltb 0 k one
        ∙ sym (le-leb (l + (1 - k)) x le)

pub wrote-lowest : (n : ℕ) (s : Stage) (x : ℕ) → entered s ≡ true → wrote n s x ≡ leb (lowest_row n s) x
unfolding wrote
wrote-lowest n s x e = ap (λ b. b && (ltb (level_of s) x || (eqb (level_of s) x && ltb 0 (made_of n s)))) e ∙ from_level (level_of s) (made_of n s) x

-- two stages with one lowest row have written the same rows
pub wrote_alike : (n : ℕ) (s t : Stage) (x : ℕ) → entered s ≡ true → entered t ≡ true → lowest_row n s ≡ lowest_row n t → wrote n s x ≡ wrote n t x
wrote_alike n s t x es et e = wrote-lowest n s x es ∙ ap (λ l. leb l x) e ∙ sym (wrote-lowest n t x et)
