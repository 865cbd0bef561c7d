-- Bytes stored one after another: the two together, and what stays.
use Prim.Native.Nat.{ℕ, suc, ◌+◌, ◌≤◌}
use mathlib.Core.Path.{◌≡◌, refl, sym, ap, ◌∙◌}
use mathlib.Core.List.{List, [], ◌∷◌, ◌++◌, append_assoc}
use native.Mathlib.Omega.{arith}
use lib.ListN.{length, set, drop, length-set, length-append}
use lib.Seq.{set-append_seam}
use Rattle.text.specs.Stores.{put}

pub put-append : (b : List ℕ) (at : ℕ) (x y : List ℕ) → put b at (x ++ y) ≡ put (put b at x) (at + length x) y
unfolding put
put-append b at [] y = let e : at ≡ at + 0 = omega arith in ap (λ (k : ℕ). put b k y) e
put-append b at (a ∷ x) y =
    let e : at + 1 + length x ≡ at + suc (length x) = omega arith in
    put-append (set b at a) (at + 1) x y ∙ ap (λ (k : ℕ). put (put (set b at a) (at + 1) x) k y) e

pub length-put : (b : List ℕ) (at : ℕ) (x : List ℕ) → length (put b at x) ≡ length b
unfolding put
length-put b at [] = refl
length-put b at (a ∷ x) = length-put (set b at a) (at + 1) x ∙ length-set b at a

-- what is stored stands in place of what stood there, and all else stays
put_seam : (a s x : List ℕ) (at : ℕ) → at ≡ length a → length x ≤ length s → put (a ++ s) at x ≡ a ++ (x ++ drop (length x) s)
unfolding put
put_seam a s [] at e h = refl
put_seam a [] (b ∷ x) at e h = absurd (omega arith)
put_seam a (c ∷ s) (b ∷ x) at e h =
    let l : at + 1 ≡ length (a ++ b ∷ []) = omega (arith, length-append a (b ∷ [])) in
    ap (λ (k : ℕ). put (set (a ++ c ∷ s) k b) (at + 1) x) e
    ∙ ap (λ (t : List ℕ). put t (at + 1) x) (set-append_seam a c s b ∙ sym (append_assoc a (b ∷ []) s))
    ∙ put_seam (a ++ b ∷ []) s x (at + 1) l (omega arith)
    ∙ append_assoc a (b ∷ []) (x ++ drop (length x) s)

pub put-over : (s x : List ℕ) → length x ≤ length s → put s 0 x ≡ x ++ drop (length x) s
put-over s x h = put_seam [] s x 0 refl h
