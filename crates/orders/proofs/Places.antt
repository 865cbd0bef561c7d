-- The parts of a view file one after another, as the writer's loops put them, and how long they are.
use Rattle.std.proofs.Common.{◌≡◌, ℕ, zero, suc, ◌+◌, ◌-◌, ◌*◌, ◌≤◌, cond, Bool, true, false, List, [], ◌++◌, length, take, drop}
use Rattle.std.proofs.Common.{refl, sym, ap, ap₂, ◌∙◌, arith}
use Rattle.std.proofs.lemmas.List.{append_assoc, append-nil, length-append, take_at, drop_at, drop-drop, take_all, drop_all, length-drop}
use borrow.Rule.Slice.PartMut.{put_mid}
use Rattle.sets.specs.Members.{has, tick, count, size}
use Rattle.sets.proofs.Laws.{count_le}
use Rattle.rules.specs.Stands.{cell_in}
use Rattle.formats.specs.Records.{word_bytes}
use Rattle.text.specs.Parts.{joined}
use Rattle.text.specs.Stores.{over}
use Rattle.text.proofs.Parts.{joined_at, joined_more}
use Rattle.orders.specs.Coded.Places.{member_bytes, record_bytes}

-- none yet, and one more
pub joined_none_yet : {A : Type 0} (f : ℕ → List A) → joined 1 0 f ≡ []
unfolding joined
joined_none_yet f = refl

pub joined_one_more : {A : Type 0} (f : ℕ → List A) (p : ℕ) → 1 ≤ p → joined 1 (p + 1 - 1) f ≡ joined 1 (p - 1) f ++ f p
joined_one_more f p low =
    let e : p + 1 - 1 ≡ suc (p - 1) = omega arith in
    let q : suc (p - 1) ≡ p = omega arith in
    ap (λ (k : ℕ). joined 1 k f) e ∙ joined_more (p - 1) f ∙ ap (λ (k : ℕ). joined 1 (p - 1) f ++ f k) q

pub ruleset parts = (joined_none_yet, joined_one_more)

-- what stands below p, and the part of p, fit where all fits
pub joined_room : (f : ℕ → List ℕ) (p : ℕ) → 1 ≤ p → p ≤ 32 → length (joined 1 (p - 1) f) + length (f p) ≤ length (joined 1 32 f)
joined_room f p low high =
    let z : 32 ≡ p - 1 + suc (32 - p) = omega arith in
    let q : 1 + (p - 1) ≡ p = omega arith in
    let rest = joined (suc (1 + (p - 1))) (32 - p) f in
    omega (
      arith,
      ap length (joined_at (p - 1) 1 32 (32 - p) f z),
      length-append (joined 1 (p - 1) f) (f (1 + (p - 1)) ++ rest),
      length-append (f (1 + (p - 1))) rest,
      ap (λ (k : ℕ). length (f k)) q,
    )

-- the value of a member
pub member_in : (values : List ℕ) (x w j : ℕ) → has w j ≡ true → member_bytes values x w j ≡ word_bytes (cell_in values x j)
member_in values x w j h = ap (λ (b : Bool). cond b (word_bytes (cell_in values x j)) []) h

-- four bytes for each member of a view, and seven before them
four : (b : Bool) (x : ℕ) → length (cond b (word_bytes x) []) ≡ 4 * tick b
four true x = refl
four false x = refl

members_length : (values : List ℕ) (x w k : ℕ) → length (joined 1 k (member_bytes values x w)) ≡ 4 * count (has w) k
unfolding joined count
members_length values x w zero = refl
members_length values x w (suc k) =
    let f = member_bytes values x w in
    omega (
      arith,
      ap length (joined_more k f),
      length-append (joined 1 k f) (f (suc k)),
      four (has w (suc k)) (cell_in values x (suc k)),
      members_length values x w k,
    )

pub record_bytes_length : (values : List ℕ) (i x w : ℕ) → length (record_bytes values i x w) ≡ 7 + 4 * size w
unfolding record_bytes size
record_bytes_length values i x w = omega (arith, members_length values x w 32)

pub size_le : (w : ℕ) → size w ≤ 32
unfolding size
size_le w = count_le (has w) 32

pub ruleset counts = (joined_none_yet, joined_one_more, record_bytes_length, size_le)

-- a part written behind those at the start of a buffer: over just the bytes that it needs, or at the start of all that is left
module _ (J x b b₀ y : List ℕ) (at k : ℕ) (p : at ≡ length J) (e : b ≡ over J b₀) where
  behind : y ++ drop k (drop at b) ≡ over x (drop at b) → put_mid at k b y ≡ over (J ++ x) b₀
  behind n =
      let t : take at b ≡ J = ap (take at) e ∙ take_at J (drop (length J) b₀) at (sym p) in
      let d : drop at b ≡ drop (length J) b₀ = ap (drop at) e ∙ drop_at J (drop (length J) b₀) at (sym p) in
      let z : drop (length x) (drop (length J) b₀) ≡ drop (length (J ++ x)) b₀
      = drop-drop (length x) (length J) b₀ ∙ ap (λ (k : ℕ). drop k b₀) (sym (length-append J x)) in
      ap₂ (λ (a c : List ℕ). a ++ c) t (n ∙ ap (over x) d) ∙ ap (λ (c : List ℕ). J ++ (x ++ c)) z ∙ sym (append_assoc J x (drop (length (J ++ x)) b₀))

  pub over_part : k ≡ length x → y ≡ x → put_mid at k b y ≡ over (J ++ x) b₀
  over_part g f = behind (ap₂ (λ (a : List ℕ) (k : ℕ). a ++ drop k (drop at b)) f g)

  pub over_rest : k ≡ length b - at → y ≡ over x (take k (drop at b)) → put_mid at k b y ≡ over (J ++ x) b₀
  over_rest g f =
      let l : length (drop at b) ≡ k = length-drop at b ∙ sym g in
      behind (
      ap₂ (λ (a c : List ℕ). a ++ c) (f ∙ ap (over x) (take_all k (drop at b) (omega (arith, l)))) (drop_all k (drop at b) (omega (arith, l)))
      ∙ append-nil _
      )
