-- The invariant of every run, by which at most x processes are at level x or below, and no call is refused with 7: if row x has x registers filled,
-- then some process that is at level x and has written there has found all that stands among the registers it has read.
use mathlib.Core.Path.{◌≡◌, refl, sym, ap, subst, ◌∙◌}
use mathlib.Core.Logic.{◌⊎◌, inl, inr, ◌≢◌}
use mathlib.Core.Bool.{Bool, true, false, ◌&&◌}
use mathlib.Core.List.{List, [], ◌∷◌}
use Prim.Native.Nat.{ℕ, zero, suc, ◌+◌, ◌-◌, ◌≤◌, ◌<◌}
use native.Mathlib.Omega.{arith}
use lib.Dec.{leb}
use borrow.Author.Tests.{leb-true, le-leb, lt-leb}
use Rattle.sets.specs.Members.{has, count, size}
use Rattle.sets.proofs.Laws.{count_ext, count_le, count_mono, count_one_less}
use Rattle.rules.specs.declared.Stage.{Stage}
use Rattle.rules.specs.declared.Stage.TheVariants.{Absent, Running, Finished, Crashed}
use Rattle.rules.specs.declared.Machine.{Machine}
use Rattle.rules.specs.Stands.{stage_of, row_in, row_of, entered}
use Rattle.rules.specs.State.{level_of, made_of, found_of, wrote}
use Rattle.rules.specs.Shape.{Going, ShapedStage, Shaped}
use Rattle.rules.specs.Calls.{accepted, fresh, step_of, reading}
use Rattle.rules.specs.Statements.{Meets, Valid, StepEffect, OthersStay, at_last}
use Rattle.rules.proofs.Laws.Small.{not_both, and_first, and_second, both, equal_or_not, at_most_or_above}
use Rattle.rules.proofs.Laws.Wrote.{lowest_row, wrote-lowest}
use Rattle.rules.proofs.Laws.Shape.{absent_wrote}
use Rattle.rules.proofs.Laws.Did.{some, what_calls_did}
use Rattle.rules.proofs.Laws.Keeps.{every_state_meets}
use Rattle.rules.proofs.Laws.Effects.{effects_of_calls}
use Rattle.rules.proofs.Laws.Refused.{refused_hands_back}
use Rattle.history.specs.Runs.{Call, enters, steps, crashes, answer, after, from}
use Rattle.history.proofs.Found.{reading_keeps, reading_adds, read_stands, size_stands}
use Rattle.history.proofs.Moves.{nobody_yet, meets_after, Stepped, writing, finding, ending, falling, stepped}
use Rattle.world.specs.Calls.{leaves}

pub record MissedNothing (n row x q : ℕ) (s : Stage) : Type 0 where
  pub low : 1 ≤ q
  pub high : q ≤ n
  pub level : level_of s ≡ x
  pub made : 1 ≤ made_of n s
  pub found : (i : ℕ) → 1 ≤ i → i ≤ n → i < made_of n s → has row i ≡ true → has (found_of s) i ≡ true

-- at least x, and not exactly x: a write then makes its writer the witness, with no counting
abbrev pub FullAt : Machine → ℕ → Type 0
FullAt m x = x ≤ count (has (row_of m x)) m.n → (q : ℕ) × MissedNothing m.n (row_of m x) x q (stage_of m q)

pub record Inv (m : Machine) : Type 0 where
  pub meets : Meets m.n m
  pub full : (x : ℕ) → 1 ≤ x → x ≤ m.n → FullAt m x

-- Rows, from the shape.
pub made_entered : (n : ℕ) (s : Stage) → 1 ≤ made_of n s → entered s ≡ true
made_entered n Absent lo = absurd (let z : ⊥ = omega arith in z)
made_entered n (Running x k f) lo = refl
made_entered n (Finished x w) lo = refl
made_entered n (Crashed x k f) lo = refl

-- process i has entered, and is at level x or below
abbrev pub at_most_lem : Machine → ℕ → ℕ → Bool
at_most_lem m x i = entered (stage_of m i) && leb (level_of (stage_of m i)) x

module _ (m : Machine) (sh : Shaped m) where
  pub low32 : (i : ℕ) → i ≤ m.n → i ≤ 32
  low32 i le = omega (arith, sh.most)

  row_is : (x i : ℕ) → 1 ≤ x → x ≤ m.n → 1 ≤ i → i ≤ m.n → has (row_of m x) i ≡ wrote m.n (stage_of m i) x
  row_is x i lx hx li hi = (sh.register x i lx (low32 x hx) li (low32 i hi)).exactly hx hi

  pub in_row : (x i : ℕ) → 1 ≤ x → x ≤ m.n → 1 ≤ i → i ≤ m.n → entered (stage_of m i) ≡ true → lowest_row m.n (stage_of m i) ≤ x
      → has (row_of m x) i ≡ true
  in_row x i lx hx li hi e le = row_is x i lx hx li hi ∙ wrote-lowest m.n (stage_of m i) x e ∙ le-leb _ x le

  pub row_in_lem : (x i : ℕ) → 1 ≤ x → x ≤ m.n → 1 ≤ i → i ≤ m.n → has (row_of m x) i ≡ true
      → (entered (stage_of m i) ≡ true) × (lowest_row m.n (stage_of m i) ≤ x)
  row_in_lem x i lx hx li hi t = go (entered (stage_of m i)) refl
    where
      wrote_it : wrote m.n (stage_of m i) x ≡ true
      wrote_it = sym (row_is x i lx hx li hi) ∙ t

      go : (b : Bool) → entered (stage_of m i) ≡ b → (entered (stage_of m i) ≡ true) × (lowest_row m.n (stage_of m i) ≤ x)
      go true e = (e, leb-true _ x (sym (wrote-lowest m.n (stage_of m i) x e) ∙ wrote_it))
      go false e = not_both _ wrote_it (absent_wrote m.n (stage_of m i) x e)

  pub row_at_most : (x i : ℕ) → 1 ≤ x → x ≤ m.n → 1 ≤ i → i ≤ m.n → has (row_of m x) i ≡ true → at_most_lem m x i ≡ true
  row_at_most x i lx hx li hi t =
      let r = row_in_lem x i lx hx li hi t in
      let le : level_of (stage_of m i) ≤ x = omega (arith, r.1) in
      both (entered (stage_of m i)) _ r.0 (le-leb _ x le)

  at_most_row : (x i : ℕ) → suc x ≤ m.n → 1 ≤ i → i ≤ m.n → at_most_lem m x i ≡ true → has (row_of m (suc x)) i ≡ true
  at_most_row x i hx li hi t =
      let le : level_of (stage_of m i) ≤ x = leb-true _ x (and_second (entered (stage_of m i)) _ t) in
      let low : lowest_row m.n (stage_of m i) ≤ suc x = omega arith in
      in_row (suc x) i (omega arith) hx li hi (and_first (entered (stage_of m i)) _ t) low

-- At most x processes are at level x or below.
module _ (m : Machine) (I : Inv m) where
  abbrev sh : Shaped m
  sh = I.meets.shape

  above_not : (x q : ℕ) → level_of (stage_of m q) ≡ suc x → at_most_lem m x q ≡ false
  above_not x q e = go (entered (stage_of m q))
    where
      past : leb (level_of (stage_of m q)) x ≡ false
      past = lt-leb _ x (omega arith)

      go : (b : Bool) → (b && leb (level_of (stage_of m q)) x) ≡ false
      go true = past
      go false = refl

  at_most_up : (x : ℕ) (i : ℕ) → at_most_lem m x i ≡ true → at_most_lem m (suc x) i ≡ true
  at_most_up x i t =
      let le : level_of (stage_of m i) ≤ x = leb-true _ x (and_second (entered (stage_of m i)) _ t) in
      let more : level_of (stage_of m i) ≤ suc x = omega arith in
      both (entered (stage_of m i)) _ (and_first (entered (stage_of m i)) _ t) (le-leb _ (suc x) more)

  at_most : (d x : ℕ) → x + d ≡ m.n → count (at_most_lem m x) m.n ≤ x
  at_most zero x e = omega (arith, count_le (at_most_lem m x) m.n)
  at_most (suc d) x e =
      go (at_most_or_above (suc x) (count (has (row_of m (suc x))) m.n))
      (at_most d (suc x) (omega arith))
    where
      hx : suc x ≤ m.n
      hx = omega arith

      go : (suc x ≤ count (has (row_of m (suc x))) m.n) ⊎ (count (has (row_of m (suc x))) m.n < suc x)
          → count (at_most_lem m (suc x)) m.n ≤ suc x → count (at_most_lem m x) m.n ≤ x
      go (inl some) bound = less _ _ (one_less (I.full (suc x) (omega arith) hx some)) bound
        where
          less : (a b : ℕ) → a + 1 ≤ b → b ≤ suc x → a ≤ x
          less a b p q = omega arith

          one_less : ((q : ℕ) × MissedNothing m.n (row_of m (suc x)) (suc x) q (stage_of m q))
              → count (at_most_lem m x) m.n + 1 ≤ count (at_most_lem m (suc x)) m.n
          one_less (q, w) =
              count_one_less (at_most_lem m x) (at_most_lem m (suc x)) m.n (λ i _ _ t. at_most_up x i t) q w.low w.high
              (both (entered (stage_of m q)) _ (made_entered m.n (stage_of m q) w.made) (le-leb _ (suc x) (omega (arith, w.level))))
              (above_not x q w.level)
      go (inr few) bound =
          omega (arith, count_mono (at_most_lem m x) (has (row_of m (suc x))) m.n (λ i li hi t. at_most_row m sh x i hx li hi t))

  pub level_most : (x : ℕ) → x ≤ m.n → count (at_most_lem m x) m.n ≤ x
  level_most x hx = at_most (m.n - x) x (omega arith)

  pub row_most : (x : ℕ) → 1 ≤ x → x ≤ m.n → count (has (row_of m x)) m.n ≤ x
  row_most x lx hx =
      omega (arith, level_most x hx, count_mono (has (row_of m x)) (at_most_lem m x) m.n (λ i li hi t. row_at_most m sh x i lx hx li hi t))

  -- A witness that makes its last read finds x registers filled.
  pub all_found : (p x f : ℕ) → stage_of m p ≡ Running x m.n f → MissedNothing m.n (row_of m x) x p (stage_of m p)
      → x ≤ count (has (row_of m x)) m.n → size (at_last m x f) ≡ x
  all_found p x f was w some = equal _ _ _ found_all (row_most x g.low g.high) some only
      (size_stands m sh x g.low g.high (at_last m x f) stands)
    where
      g : Going m.n (row_of m) x m.n f
      g = subst (ShapedStage m.n (row_of m)) was (sh.process p w.low (low32 m sh p w.high)).stage

      before : (i : ℕ) → i ≤ m.n → i ≢ m.n → i < made_of m.n (Running x m.n f)
      before i le ne = omega arith

      old : (i : ℕ) → 1 ≤ i → i ≤ m.n → i < made_of m.n (Running x m.n f) → has (row_of m x) i ≡ true → has f i ≡ true
      old = subst (λ s. (i : ℕ) → 1 ≤ i → i ≤ m.n → i < made_of m.n s → has (row_of m x) i ≡ true → has (found_of s) i ≡ true) was w.found

      found_all : count (has (row_of m x)) m.n ≤ count (has (at_last m x f)) m.n
      found_all = count_mono (has (row_of m x)) (has (at_last m x f)) m.n (λ i li hi t. go i li hi t (equal_or_not i m.n))
        where
          go : (i : ℕ) → 1 ≤ i → i ≤ m.n → has (row_of m x) i ≡ true → (i ≡ m.n) ⊎ (i ≢ m.n) → has (at_last m x f) i ≡ true
          go i li hi t (inl e) =
              subst (λ k. has (reading (row_of m x) k f) i ≡ true) e (reading_adds (row_of m x) i f li (low32 m sh i hi) t)
          go i li hi t (inr ne) = reading_keeps (row_of m x) m.n f i (old i li hi (before i hi ne) t)

      stands : (i : ℕ) → has (at_last m x f) i ≡ true → has (row_of m x) i ≡ true
      stands i t = read_stands m.n (row_of m) x m.n m.n f i g t

      only : count (has (at_last m x f)) m.n ≤ count (has (row_of m x)) m.n
      only = count_mono (has (at_last m x f)) (has (row_of m x)) m.n (λ i _ _ t. stands i t)

      equal : (r a s : ℕ) → r ≤ a → r ≤ x → x ≤ r → a ≤ r → a ≡ s → s ≡ x
      equal r a s p q o l e = omega arith

-- What is kept of a row that stays: its witness stays, unless it is p itself.
full_kept : (m m' : Machine) (p x : ℕ) → OthersStay m m' p → ((i : ℕ) → 1 ≤ i → i ≤ m.n → has (row_of m' x) i ≡ has (row_of m x) i)
    → (MissedNothing m.n (row_of m x) x p (stage_of m p) → x ≤ count (has (row_of m x)) m.n
    → MissedNothing m.n (row_of m x) x p (stage_of m' p)) → FullAt m x → FullAt m' x
full_kept m m' p x rest rows own full some =
    at_n rest.size (go (full enough) (equal_or_not _ p))
  where
    same : (n : ℕ) → n ≡ m.n → count (has (row_of m' x)) n ≡ count (has (row_of m x)) m.n
    same n e = ap (count (has (row_of m' x))) e ∙ count_ext (has (row_of m' x)) (has (row_of m x)) m.n rows

    enough : x ≤ count (has (row_of m x)) m.n
    enough = subst (λ c. x ≤ c) (same m'.n rest.size) some

    at_n : m'.n ≡ m.n → ((q : ℕ) × MissedNothing m.n (row_of m' x) x q (stage_of m' q))
        → (q : ℕ) × MissedNothing m'.n (row_of m' x) x q (stage_of m' q)
    at_n e w = subst (λ n. (q : ℕ) × MissedNothing n (row_of m' x) x q (stage_of m' q)) (sym e) w

    re_row : (q : ℕ) → MissedNothing m.n (row_of m x) x q (stage_of m' q) → MissedNothing m.n (row_of m' x) x q (stage_of m' q)
    re_row q w =
        record {
          low = w.low;
          high = w.high;
          level = w.level;
          made = w.made;
          found = λ i li hi lt t. w.found i li hi lt (sym (rows i li hi) ∙ t);
        }

    go : (w : (q : ℕ) × MissedNothing m.n (row_of m x) x q (stage_of m q)) → (w.0 ≡ p) ⊎ (w.0 ≢ p)
        → (q : ℕ) × MissedNothing m.n (row_of m' x) x q (stage_of m' q)
    go (q, w) (inl e) =
        (p, re_row p (own (subst (λ r. MissedNothing m.n (row_of m x) x r (stage_of m r)) e w) enough))
    go (q, w) (inr ne) =
        (q, re_row q (subst (λ P. MissedNothing m.n (row_of m x) x q P.stage) (sym (rest.others q w.low ne)) w))

-- a stage that has made no access is no witness
no-witness {ℓ} : {X : Type ℓ} (n row x q : ℕ) (s t : Stage) → s ≡ t → made_of n t ≡ 0 → MissedNothing n row x q s → X
no-witness n row x q s t e z w = absurd (none w.made (ap (made_of n) e ∙ z))
  where
    none : (1 ≤ made_of n s) → made_of n s ≡ 0 → ⊥
    none lo q = omega arith

-- a witness that reads on is one still
reads_on : (n row x p k f k' : ℕ) (s t : Stage) → level_of t ≡ level_of s → 1 ≤ k → k ≤ 32 → made_of n s ≡ k → found_of s ≡ f
    → made_of n t ≡ k' → k' ≡ k + 1 → found_of t ≡ reading row k f → MissedNothing n row x p s → MissedNothing n row x p t
reads_on n row x p k f k' s t level lo hi made was made' next found w =
    record {
      low = w.low;
      high = w.high;
      level = level ∙ w.level;
      made = omega arith;
      found = λ i li hi' lt h. subst (λ g. has g i ≡ true) (sym found) (go i li hi' (upto i lt) h (equal_or_not i k));
    }
  where
    upto : (i : ℕ) → i < made_of n t → i ≤ k
    upto i lt = omega arith

    below : (i : ℕ) → i ≤ k → i ≢ k → i < made_of n s
    below i le ne = omega arith

    go : (i : ℕ) → 1 ≤ i → i ≤ n → i ≤ k → has row i ≡ true → (i ≡ k) ⊎ (i ≢ k) → has (reading row k f) i ≡ true
    go i li hi' le h (inl e) =
        subst (λ j. has (reading row k f) j ≡ true) (sym e) (reading_adds row k f lo hi (subst (λ j. has row j ≡ true) e h))
    go i li hi' le h (inr ne) =
        reading_keeps row k f i (subst (λ g. has g i ≡ true) was (w.found i li hi' (below i le ne) h))

-- A read changes no row.
rows_stay : (m m' : Machine) (p : ℕ) → StepEffect m m' p → (k : ℕ) → made_of m.n (stage_of m p) ≡ k → 1 ≤ k → (x i : ℕ)
    → has (row_of m' x) i ≡ has (row_of m x) i
rows_stay m m' p effect k e lo x i = ap (λ l. has (row_in l x) i) (effect.later (λ z. none z)).rows
  where
    none : made_of m.n (stage_of m p) ≡ 0 → ⊥
    none z = omega arith

-- A step keeps the invariant.
step_keeps : (m m' : Machine) → Inv m → (p : ℕ) → Valid m p → StepEffect m m' p → Stepped m m' p → (x : ℕ) → 1 ≤ x → x ≤ m.n → FullAt m' x
step_keeps m m' I p ok effect (writing y f was now) x lx hx = go (equal_or_not x y)
  where
    level : level_of (stage_of m p) ≡ y
    level = ap level_of was

    none : (i : ℕ) → 1 ≤ i → i < 1 → ⊥
    none i lo lt = omega arith

    go : (x ≡ y) ⊎ (x ≢ y) → FullAt m' x
    go (inl e) = λ _. (
      p,
      subst (λ s. MissedNothing m'.n (row_of m' x) x p s) (sym now)
          (record {
            low = ok.low;
            high = subst (λ n. p ≤ n) (sym effect.rest.size) ok.high;
            level = sym e;
            made = omega arith;
            found = λ i lo _ lt _. absurd (none i lo lt);
          }),
    )
    go (inr ne) =
        full_kept m m' p x effect.rest
        (λ i li hi. (effect.elsewhere x i lx (low32 m I.meets.shape x hx) li (low32 m I.meets.shape i hi) (inl (λ q. ne (q ∙ level)))).0)
        (λ w _. no-witness m.n (row_of m x) x p (stage_of m p) (Running y 0 f) was refl w) (I.full x lx hx)
step_keeps m m' I p ok effect (finding y k f was lo hi now) x lx hx =
    full_kept m m' p x effect.rest (λ i _ _. rows_stay m m' p effect k (ap (made_of m.n) was) lo x i) own (I.full x lx hx)
  where
    own : MissedNothing m.n (row_of m x) x p (stage_of m p) → x ≤ count (has (row_of m x)) m.n
        → MissedNothing m.n (row_of m x) x p (stage_of m' p)
    own w _ =
        let e : y ≡ x = sym (ap level_of was) ∙ w.level in
        let k32 : k ≤ 32 = low32 m I.meets.shape k (omega arith) in
        reads_on m.n (row_of m x) x p k f (k + 1) (stage_of m p) (stage_of m' p) (ap level_of now ∙ sym (ap level_of was)) lo k32
        (ap (made_of m.n) was) (ap found_of was) (ap (made_of m.n) now) refl
        (ap found_of now ∙ ap (λ z. reading (row_of m z) k f) e) w
step_keeps m m' I p ok effect (ending y f was e now) x lx hx =
    full_kept m m' p x effect.rest (λ i _ _. rows_stay m m' p effect m.n (ap (made_of m.n) was) (some m p ok) x i) own (I.full x lx hx)
  where
    own : MissedNothing m.n (row_of m x) x p (stage_of m p) → x ≤ count (has (row_of m x)) m.n
        → MissedNothing m.n (row_of m x) x p (stage_of m' p)
    own w _ =
        let e : y ≡ x = sym (ap level_of was) ∙ w.level in
        reads_on m.n (row_of m x) x p m.n f (m.n + 1) (stage_of m p) (stage_of m' p) (ap level_of now ∙ sym (ap level_of was)) (some m p ok)
        I.meets.shape.most (ap (made_of m.n) was) (ap found_of was) (ap (made_of m.n) now) refl
        (ap found_of now ∙ ap (λ z. reading (row_of m z) m.n f) e) w
step_keeps m m' I p ok effect (falling y f was ne two now) x lx hx =
    full_kept m m' p x effect.rest (λ i _ _. rows_stay m m' p effect m.n (ap (made_of m.n) was) (some m p ok) x i) own (I.full x lx hx)
  where
    -- a witness does not fall: it would have found x
    own : MissedNothing m.n (row_of m x) x p (stage_of m p) → x ≤ count (has (row_of m x)) m.n
        → MissedNothing m.n (row_of m x) x p (stage_of m' p)
    own w enough =
        let e : y ≡ x = sym (ap level_of was) ∙ w.level in
        absurd (subst (λ z. size (at_last m z f) ≢ z) e ne (all_found m I p x f (subst (λ z. stage_of m p ≡ Running z m.n f) e was) w enough))

-- So does every call, refused or not.
inv_of : (m m' : Machine) → Inv m → Meets m.n m' → ((x : ℕ) → 1 ≤ x → x ≤ m.n → FullAt m' x) → Inv m'
inv_of m m' I M full =
    record { meets = subst (λ n. Meets n m') (sym M.size) M; full = λ x lx hx. full x lx (subst (λ n. x ≤ n) M.size hx) }

pub inv_after : (m : Machine) → Inv m → (c : Call) → Inv (after m c)
inv_after m I (enters p v) = go (accepted (answer m (enters p v))) refl
  where
    go : (b : Bool) → accepted (answer m (enters p v)) ≡ b → Inv (after m (enters p v))
    go true a =
        let e = effects_of_calls.enter m I.meets.held p v a in
        inv_of m (after m (enters p v)) I (meets_after m.n m I.meets (enters p v)) (λ x lx hx.
        full_kept m (after m (enters p v)) p x e.rest (λ i _ _. ap (λ l. has (row_in l x) i) e.registers.rows)
        (λ w _. no-witness m.n (row_of m x) x p (stage_of m p) Absent (what_calls_did.enter m p v a).1.was refl w) (I.full x lx hx))
    go false a = subst Inv (sym (refused_hands_back.enter m p v a)) I
inv_after m I (steps p) = go (accepted (step_of m p)) refl
  where
    go : (b : Bool) → accepted (step_of m p) ≡ b → Inv (step_of m p).machine
    go true a =
        inv_of m (step_of m p).machine I (meets_after m.n m I.meets (steps p))
        (step_keeps m (step_of m p).machine I p (what_calls_did.step m p a).0 (effects_of_calls.step m I.meets.held p a)
        (stepped m I.meets.held p a))
    go false a = subst Inv (sym (refused_hands_back.step m p a)) I
inv_after m I (crashes p) = go (accepted (answer m (crashes p))) refl
  where
    go : (b : Bool) → accepted (answer m (crashes p)) ≡ b → Inv (after m (crashes p))
    go true a =
        let e = effects_of_calls.crash m I.meets.held p a in
        inv_of m (after m (crashes p)) I (meets_after m.n m I.meets (crashes p)) (λ x lx hx.
        full_kept m (after m (crashes p)) p x e.rest (λ i _ _. ap (λ l. has (row_in l x) i) e.registers.rows)
        (λ w _. record {
          low = w.low;
          high = w.high;
          level = e.level ∙ w.level;
          made = subst (λ k. 1 ≤ k) (sym e.made) w.made;
          found = λ i li hi lt t. subst (λ g. has g i ≡ true) (sym e.found) (w.found i li hi (subst (λ k. i < k) e.made lt) t);
        }) (I.full x lx hx))
    go false a = subst Inv (sym (refused_hands_back.crash m p a)) I

-- nothing is filled in a fresh machine
count_none : (k : ℕ) → count (λ _. false) k ≡ 0
unfolding count
count_none zero = refl
count_none (suc k) = let e : count (λ _. false) k ≡ 0 = count_none k in omega arith

pub inv_fresh : (n : ℕ) → 1 ≤ n → n ≤ 32 → Inv (fresh n)
inv_fresh n lo hi = record { meets = every_state_meets.starts n lo hi; full = λ x lx hx some. absurd (none x lx hx some) }
  where
    M : Meets n (fresh n)
    M = every_state_meets.starts n lo hi

    never : (m : Machine) → Shaped m → ((p : ℕ) → entered (stage_of m p) ≡ false) → (x : ℕ) → 1 ≤ x → x ≤ m.n → count (has (row_of m x)) m.n ≤ 0
    never m sh absent x lx hx =
        let less = count_mono (has (row_of m x)) (λ _. false) m.n (λ i li hi t. not_both _ (row_in_lem m sh x i lx hx li hi t).0 (absent i)) in
        omega (arith, count_none m.n)

    none : (x : ℕ) → 1 ≤ x → x ≤ n → x ≤ count (has (row_of (fresh n) x)) n → ⊥
    none x lx hx some =
        omega (arith, never (fresh n) M.shape (λ p. ap (λ P. entered P.stage) (nobody_yet n p)) x lx hx)

pub inv_from : (m : Machine) → Inv m → (cs : List Call) → Inv (from m cs)
unfolding leaves
inv_from m I [] = I
inv_from m I (c ∷ cs) = inv_from (after m c) (inv_after m I c) cs

pub inv_runs : (n : ℕ) → 1 ≤ n → n ≤ 32 → (cs : List Call) → Inv (from (fresh n) cs)
inv_runs n lo hi cs = inv_from (fresh n) (inv_fresh n lo hi) cs
