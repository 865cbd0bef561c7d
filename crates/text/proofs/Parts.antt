-- Parts joined one after another: split at one of them; all of one length, how long they are and what stands where.
use Prim.Native.Nat.{ℕ, zero, suc, ◌+◌, ◌-◌, ◌*◌, ◌≤◌, ◌<◌}
use mathlib.Core.Path.{◌≡◌, refl, sym, ap, ap₂, ◌∙◌}
use mathlib.Core.List.{List, [], ◌++◌, append_assoc, append-nil}
use native.Mathlib.Nat.{mul-suc}
use native.Mathlib.Numerals.{add-one}
use native.Mathlib.Omega.{arith}
use lib.ListN.{length, get_or, length-append, get_or-append}
use lib.Seq.{get_or-append-add}
use Rattle.text.specs.Parts.{joined}

-- Parts joined one after another, split at one of them.
pub joined_at : {A : Type 0} (k a n m : ℕ) (f : ℕ → List A) → n ≡ k + suc m → joined a n f ≡ joined a k f ++ (f (a + k) ++ joined (suc (a + k)) m f)
unfolding joined
joined_at zero a n m f e =
    let z : n ≡ suc m = omega arith in
    let y : a ≡ a + 0 = omega arith in
    ap (λ (x : ℕ). joined a x f) z ∙ ap (λ (x : ℕ). f x ++ joined (suc x) m f) y
joined_at (suc k) a n m f e =
    let z : n ≡ suc (k + suc m) = omega arith in
    let y : suc a + k ≡ a + suc k = omega arith in
    ap (λ (x : ℕ). joined a x f) z
    ∙ ap (λ l. f a ++ l) (joined_at k (suc a) (k + suc m) m f refl)
    ∙ sym (append_assoc (f a) (joined (suc a) k f) (f (suc a + k) ++ joined (suc (suc a + k)) m f))
    ∙ ap (λ (x : ℕ). (f a ++ joined (suc a) k f) ++ (f x ++ joined (suc x) m f)) y

-- the first part, and what is left of the parts up to 32
pub joined_next : {A : Type 0} (i : ℕ) (f : ℕ → List A) → i < 32 → joined (suc i) (32 - i) f ≡ f (i + 1) ++ joined (suc (i + 1)) (32 - (i + 1)) f
unfolding joined
joined_next {A} i f h =
    let e : 32 - i ≡ suc (32 - (i + 1)) = omega arith in
    ap (λ (k : ℕ). joined (suc i) k f) e ∙ ap (λ (a : ℕ). f a ++ joined (suc a) (32 - (i + 1)) f) (sym (add-one i))

-- one part more at the end
pub joined_more : {A : Type 0} (i : ℕ) (f : ℕ → List A) → joined 1 (suc i) f ≡ joined 1 i f ++ f (suc i)
unfolding joined
joined_more i f =
    let z : suc i ≡ i + suc 0 = omega arith in
    let k : 1 + i ≡ suc i = omega arith in
    joined_at i 1 (suc i) 0 f z ∙ ap (λ x. joined 1 i f ++ x) (append-nil (f (1 + i)) ∙ ap f k)

-- parts that are nothing from one on
pub joined_beyond : {A : Type 0} (k d : ℕ) (f : ℕ → List A) → ((i : ℕ) → k < i → f i ≡ []) → joined 1 (k + d) f ≡ joined 1 k f
joined_beyond k zero f h = let e : k + 0 ≡ k = omega arith in ap (λ (x : ℕ). joined 1 x f) e
joined_beyond k (suc d) f h =
    let e : k + suc d ≡ suc (k + d) = omega arith in
    ap (λ (x : ℕ). joined 1 x f) e ∙ joined_more (k + d) f
    ∙ ap (λ x. joined 1 (k + d) f ++ x) (h (suc (k + d)) (omega arith)) ∙ append-nil (joined 1 (k + d) f) ∙ joined_beyond k d f h

pub joined-none : {A : Type 0} (a k : ℕ) (f : ℕ → List A) → ((i : ℕ) → f i ≡ []) → joined a k f ≡ []
unfolding joined
joined-none a zero f h = refl
joined-none a (suc k) f h = ap (λ l. l ++ joined (suc a) k f) (h a) ∙ joined-none (suc a) k f h

pub joined_ext : {A : Type 0} (a k : ℕ) (f g : ℕ → List A) → ((i : ℕ) → a ≤ i → i < a + k → f i ≡ g i) → joined a k f ≡ joined a k g
unfolding joined
joined_ext a zero f g h = refl
joined_ext a (suc k) f g h =
    ap₂ (λ l r. l ++ r) (h a (omega arith) (omega arith)) (joined_ext (suc a) k f g (λ i low high. h i (omega arith) (omega arith)))

pub joined_length : (c a k : ℕ) (f : ℕ → List ℕ) → ((i : ℕ) → length (f i) ≡ c) → length (joined a k f) ≡ c * k
unfolding joined
joined_length c a zero f h = let e : 0 ≡ c * 0 = omega arith in e
joined_length c a (suc k) f h =
    length-append (f a) (joined (suc a) k f) ∙ omega (arith, h a, joined_length c (suc a) k f h, mul-suc c k)

-- element r of part q
pub joined-get_or : (c a k q r : ℕ) (f : ℕ → List ℕ) → ((i : ℕ) → length (f i) ≡ c) → q < k → r < c
    → get_or (joined a k f) (c * q + r) 0 ≡ get_or (f (a + q)) r 0
joined-get_or c a k q r f h l s =
    let z : k ≡ q + suc (k - q - 1) = omega arith in
    let R = joined (suc (a + q)) (k - q - 1) f in
    let A = joined a q f in
    ap₂ (λ (x : List ℕ) (i : ℕ). get_or x (i + r) 0) (joined_at q a k (k - q - 1) f z) (sym (joined_length c a q f h))
    ∙ get_or-append-add A (f (a + q) ++ R) r 0
    ∙ get_or-append (f (a + q)) R 0 r (omega (arith, h (a + q)))
