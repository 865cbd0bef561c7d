-- Document 01's table of numbers: what the first line that applies is, and that each call answers with it.
use mathlib.Core.Path.{◌≡◌, refl, sym, ap, subst, ◌∙◌}
use mathlib.Core.Logic.{◌⊎◌, inl, inr, ◌≢◌}
use mathlib.Core.Bool.{Bool, true, false, not, ◌&&◌, cond, false≢true}
use mathlib.Core.List.Memᴰ
use mathlib.Core.List.{List, [], ◌∷◌, ◌++◌, Memᴰ}
use Prim.Native.Nat.{ℕ, ◌≤◌, ◌<◌}
use native.Mathlib.Omega.{arith}
use lib.Dec.{leb, ltb, eqb}
use borrow.Author.Tests.{leb-true, ltb-true, eq-eqb, ne_eqb}
use Rattle.sets.specs.Members.{size}
use Rattle.rules.specs.declared.Stage.{Stage}
use Rattle.rules.specs.declared.Stage.TheVariants.{Absent, Running, Finished, Crashed}
use Rattle.rules.specs.declared.Machine.{Machine}
use Rattle.rules.specs.declared.Answer.{Answer}
use Rattle.rules.specs.declared.Answer.TheVariants.{NotShaped, NoProcess, NoLevelBelow, OutOfRange}
use Rattle.rules.specs.Stands.{stage_of, row_of, entered}
use Rattle.rules.specs.State.{finished, crashed}
use Rattle.rules.specs.Shape.{Going, shaped}
use Rattle.rules.specs.Calls.{number_of, done, refused, fresh, new_of, enter_at, enter_of, crash_at, crash_of, reading, settle, access, step_at}
use Rattle.rules.specs.Calls.{step_of, finish_at, finish_of, looked, unseen, look_of}
use Rattle.sets.specs.Lines.{Line, when, first_that}
use Rattle.rules.specs.Numbers.{last_of_many, always, enter_lines, crash_lines, step_lines, new_lines}
use Rattle.rules.specs.Statements.{none, FirstLine, ExactlyWhen, below, ascending, LinesAscend}
use Rattle.rules.proofs.Laws.Small.{both, and_first, and_second, not_both, equal_or_not}
use Rattle.rules.proofs.Laws.Did.{running, access-write, access-read, access_last, settle-finish, settle_fall, settle_stick}

-- The first line that applies.
later : (k : ℕ) (l : Line) (ls : List Line) → l.applies ≡ false → FirstLine k ls → FirstLine k (l ∷ ls)
later k l ls no_line g =
    record {
      before = l ∷ g.before;
      line = g.line;
      after = g.after;
      all = ap (λ r. l ∷ r) g.all;
      number = g.number;
      applies = g.applies;
      earlier = both (not l.applies) (none g.before) (ap not no_line) g.earlier;
    }

pub first-given : (k : ℕ) → k ≢ 0 → (ls : List Line) → first_that ls ≡ k → FirstLine k ls
first-given k ne [] e = absurd (ne (sym e))
first-given k ne (l ∷ ls) e = go l.applies refl (first-given k ne ls) e
  where
    go : (b : Bool) → l.applies ≡ b → (first_that ls ≡ k → FirstLine k ls) → cond b l.number (first_that ls) ≡ k
        → FirstLine k (l ∷ ls)
    go true a rest q = record { before = []; line = l; after = ls; all = refl; number = q; applies = a; earlier = refl }
    go false a rest q = later k l ls a (rest q)

skip : (before ls : List Line) → none before ≡ true → first_that (before ++ ls) ≡ first_that ls
skip [] ls n = refl
skip (l ∷ before) ls n = go l.applies refl (skip before ls (and_second (not l.applies) (none before) n))
  where
    go : (b : Bool) → l.applies ≡ b → first_that (before ++ ls) ≡ first_that ls
        → cond b l.number (first_that (before ++ ls)) ≡ first_that ls
    go true a rest = absurd (false≢true (sym (ap not a) ∙ and_first (not l.applies) (none before) n))
    go false a rest = rest

pub given-first : (k : ℕ) (ls : List Line) → FirstLine k ls → first_that ls ≡ k
given-first k ls g = ap first_that g.all ∙ skip g.before (g.line ∷ g.after) g.earlier ∙ here g.line.applies g.applies
  where
    here : (b : Bool) → b ≡ true → cond b g.line.number (first_that g.after) ≡ k
    here true e = g.number
    here false e = absurd (false≢true e)

pub none_first : (ls : List Line) → none ls ≡ true → first_that ls ≡ 0
none_first [] n = refl
none_first (l ∷ ls) n = go l.applies (and_first (not l.applies) (none ls) n) (none_first ls (and_second (not l.applies) (none ls) n))
  where
    go : (b : Bool) → not b ≡ true → first_that ls ≡ 0 → cond b l.number (first_that ls) ≡ 0
    go true a rest = absurd (false≢true a)
    go false a rest = rest

-- no line has the number 0
abbrev numbered : List Line → Bool
numbered [] = true
numbered (l ∷ ls) = not (eqb l.number 0) && numbered ls

pub first-none : (ls : List Line) → numbered ls ≡ true → first_that ls ≡ 0 → none ls ≡ true
first-none [] w e = refl
first-none (l ∷ ls) w e = go l.applies (first-none ls (and_second (not (eqb l.number 0)) (numbered ls) w)) e
  where
    go : (b : Bool) → (first_that ls ≡ 0 → none ls ≡ true) → cond b l.number (first_that ls) ≡ 0
        → (not b && none ls) ≡ true
    go true rest q = absurd (false≢true (sym (ap not (eq-eqb l.number 0 q)) ∙ and_first (not (eqb l.number 0)) (numbered ls) w))
    go false rest q = rest q

pub exactly_when : (a : Answer) (ls : List Line) → numbered ls ≡ true → number_of a ≡ first_that ls → ExactlyWhen a ls
exactly_when a ls w e =
    record {
      some = λ k ne. (λ q. first-given k ne ls (sym e ∙ q), λ g. e ∙ given-first k ls g);
      nothing = (λ q. first-none ls w (sym e ∙ q), λ n. e ∙ none_first ls n);
    }

below_all : (k : ℕ) (ls : List Line) → below k ls ≡ true → (l : Line) → Memᴰ l ls → k < l.number
below_all k [] b l h = elim h [ ]
below_all k (x ∷ xs) b l (Memᴰ.head e) = subst (λ y. k < y.number) (sym e) (ltb-true k x.number (and_first (ltb k x.number) _ b))
below_all k (x ∷ xs) b l (Memᴰ.tail h) = below_all k xs (and_second (ltb k x.number) _ b) l h

lowest_applies : (ls : List Line) → ascending ls ≡ true → (l : Line) → Memᴰ l ls → l.applies ≡ true → first_that ls ≤ l.number
lowest_applies [] up l h a = elim h [ ]
lowest_applies (x ∷ xs) up l h a =
    go x.applies refl (Memᴰ.cases_cons h) (λ h. lowest_applies xs (and_second (below x.number xs) _ up) l h a)
  where
    go : (b : Bool) → x.applies ≡ b → (l ≡ x) ⊎ Memᴰ l xs → (Memᴰ l xs → first_that xs ≤ l.number)
        → cond b x.number (first_that xs) ≤ l.number
    go true t (inl e) rest = subst (λ y. x.number ≤ y.number) (sym e) (omega arith)
    go true t (inr h) rest = omega (arith, below_all x.number xs (and_first (below x.number xs) _ up) l h)
    go false t (inl e) rest = not_both x.applies (sym (ap (λ y. y.applies) e) ∙ a) t
    go false t (inr h) rest = rest h

pub lines_ascend : LinesAscend
lines_ascend =
    record {
      enter = λ m p. refl;
      step = λ m p. refl;
      crash = λ m p. refl;
      look = λ m p. refl;
      lowest = λ k ls up g l h a. subst (λ j. j ≤ l.number) (given-first k ls g) (lowest_applies ls up l h a);
    }

-- Each call.
pub number-enter : (m : Machine) (p v : ℕ) → number_of (enter_of m p v).answer ≡ first_that (enter_lines m p)
unfolding enter_of
number-enter m p v = go (shaped m) (leb 1 p && leb p m.n) (stage_of m p)
  where
    go : (s r : Bool) (t : Stage) → number_of (cond s (cond r (enter_at t m p v) (refused NoProcess m)) (refused NotShaped m)).answer
        ≡ first_that (when 1 (not s) ∷ when 2 (not r) ∷ when 3 (entered t) ∷ [])
    go false r t = refl
    go true false t = refl
    go true true Absent = refl
    go true true (Running x k f) = refl
    go true true (Finished x w) = refl
    go true true (Crashed x k f) = refl

pub number-crash : (m : Machine) (p : ℕ) → number_of (crash_of m p).answer ≡ first_that (crash_lines m p)
unfolding crash_of
number-crash m p = go (shaped m) (leb 1 p && leb p m.n) (stage_of m p)
  where
    go : (s r : Bool) (t : Stage) → number_of (cond s (cond r (crash_at t m p) (refused NoProcess m)) (refused NotShaped m)).answer
        ≡ first_that (when 1 (not s) ∷ when 2 (not r) ∷ when 4 (not (entered t)) ∷ when 5 (crashed t) ∷ when 6 (finished t) ∷ [])
    go false r t = refl
    go true false t = refl
    go true true Absent = refl
    go true true (Running x k f) = refl
    go true true (Finished x w) = refl
    go true true (Crashed x k f) = refl

pub number-finish : (m : Machine) (p : ℕ) → first_that (crash_lines m p) ≢ 0 → number_of (finish_of m p).answer ≡ first_that (crash_lines m p)
unfolding finish_of
number-finish m p = go (shaped m) (leb 1 p && leb p m.n) (stage_of m p)
  where
    go : (s r : Bool) (t : Stage)
        → first_that (when 1 (not s) ∷ when 2 (not r) ∷ when 4 (not (entered t)) ∷ when 5 (crashed t) ∷ when 6 (finished t) ∷ []) ≢ 0
        → number_of (cond s (cond r (finish_at t m p) (refused NoProcess m)) (refused NotShaped m)).answer
        ≡ first_that (when 1 (not s) ∷ when 2 (not r) ∷ when 4 (not (entered t)) ∷ when 5 (crashed t) ∷ when 6 (finished t) ∷ [])
    go false r t ne = refl
    go true false t ne = refl
    go true true Absent ne = refl
    go true true (Running x k f) ne = absurd (ne refl)
    go true true (Finished x w) ne = refl
    go true true (Crashed x k f) ne = refl

-- 7, or no number
seven : (b c : Bool) → b ≡ c → first_that (when 7 b ∷ []) ≡ cond c 7 0
seven b true e = ap (λ b. first_that (when 7 b ∷ [])) e
seven b false e = ap (λ b. first_that (when 7 b ∷ [])) e

fails_first : (a b c : Bool) → a ≡ false → (a && b && c) ≡ false
fails_first a b c e = ap (λ a. a && b && c) e

fails_second : (a b c : Bool) → b ≡ false → (a && b && c) ≡ false
fails_second true b c e = ap (λ b. b && c) e
fails_second false b c e = refl

fails_third : (a b c : Bool) → c ≡ false → (a && b && c) ≡ false
fails_third true true c e = e
fails_third true false c e = refl
fails_third false b c e = refl

number-access : (m : Machine) (p x k f : ℕ) → Going m.n (row_of m) x k f → 1 ≤ m.n
    → number_of (access m p x k f).answer ≡ first_that (when 7 (eqb x 1 && eqb k m.n && not (eqb (size (reading (row_of m x) k f)) 1)) ∷ [])
number-access m p x k f g some = go (equal_or_not k 0) (equal_or_not k m.n) (equal_or_not (size (reading (row_of m x) k f)) x) (equal_or_not x 1)
  where
    w : Bool
    w = eqb x 1 && eqb k m.n && not (eqb (size (reading (row_of m x) k f)) 1)

    last : k ≡ m.n → access m p x k f ≡ settle m p x (reading (row_of m x) k f)
    last q = subst (λ j. access m p x j f ≡ settle m p x (reading (row_of m x) j f)) (sym q) (access_last m p x f some)

    go : (k ≡ 0) ⊎ (k ≢ 0) → (k ≡ m.n) ⊎ (k ≢ m.n) → (size (reading (row_of m x) k f) ≡ x) ⊎ (size (reading (row_of m x) k f) ≢ x) → (x ≡ 1) ⊎ (x ≢ 1)
        → number_of (access m p x k f).answer ≡ first_that (when 7 w ∷ [])
    go (inl z) b s o =
        let ne : k ≢ m.n = omega arith in
        subst (λ j. number_of (access m p x j f).answer ≡ 0) (sym z) (ap (λ c. number_of c.answer) (access-write m p x f))
        ∙ sym (seven w false (fails_second (eqb x 1) (eqb k m.n) _ (ne_eqb k m.n ne)))
    go (inr nz) (inr ne) s o =
        let lo : 1 ≤ k = omega arith in
        let hi : k < m.n = omega (arith, g.accesses) in
        ap (λ c. number_of c.answer) (access-read m p x k f lo hi)
        ∙ sym (seven w false (fails_second (eqb x 1) (eqb k m.n) _ (ne_eqb k m.n ne)))
    go (inr nz) (inl q) (inl s) (inl o) =
        let one : size (reading (row_of m x) k f) ≡ 1 = s ∙ o in
        ap (λ c. number_of c.answer) (last q ∙ settle-finish m p x (reading (row_of m x) k f) s)
        ∙ sym (seven w false (fails_third (eqb x 1) (eqb k m.n) _ (ap not (eq-eqb (size (reading (row_of m x) k f)) 1 one))))
    go (inr nz) (inl q) (inl s) (inr o) =
        ap (λ c. number_of c.answer) (last q ∙ settle-finish m p x (reading (row_of m x) k f) s)
        ∙ sym (seven w false (fails_first (eqb x 1) (eqb k m.n) _ (ne_eqb x 1 o)))
    go (inr nz) (inl q) (inr s) (inr o) =
        let two : 2 ≤ x = omega (arith, g.low) in
        ap (λ c. number_of c.answer) (last q ∙ settle_fall m p x (reading (row_of m x) k f) s two)
        ∙ sym (seven w false (fails_first (eqb x 1) (eqb k m.n) _ (ne_eqb x 1 o)))
    go (inr nz) (inl q) (inr s) (inl o) =
        let many : size (reading (row_of m x) k f) ≢ 1 = λ e. s (e ∙ sym o) in
        ap (λ c. number_of c.answer)
        (last q ∙ subst (λ y. settle m p y (reading (row_of m x) k f) ≡ refused NoLevelBelow m) (sym o) (settle_stick m p (reading (row_of m x) k f) many))
        ∙ sym (seven w true (both (eqb x 1 && eqb k m.n) _ (both (eqb x 1) _ (eq-eqb x 1 o) (eq-eqb k m.n q))
        (ap not (ne_eqb (size (reading (row_of m x) k f)) 1 many))))

pub number_step : (m : Machine) (p : ℕ) → number_of (step_of m p).answer ≡ first_that (step_lines m p)
unfolding step_of
number_step m p = go (shaped m) (leb 1 p && leb p m.n) (stage_of m p) refl refl refl
  where
    go : (s r : Bool) (t : Stage) → shaped m ≡ s → (leb 1 p && leb p m.n) ≡ r → stage_of m p ≡ t
        → number_of (cond s (cond r (step_at t m p) (refused NoProcess m)) (refused NotShaped m)).answer
        ≡ first_that (when 1 (not s) ∷ when 2 (not r) ∷ when 4 (not (entered t)) ∷ when 5 (crashed t) ∷ when 6 (finished t) ∷ when 7 (last_of_many m t) ∷ [])
    go false r t e₁ e₂ e₃ = refl
    go true false t e₁ e₂ e₃ = refl
    go true true Absent e₁ e₂ e₃ = refl
    go true true (Running x k f) e₁ e₂ e₃ =
        let lo : 1 ≤ p = leb-true 1 p (and_first (leb 1 p) _ e₂) in
        let hi : p ≤ m.n = leb-true p m.n (and_second (leb 1 p) _ e₂) in
        let some : 1 ≤ m.n = omega arith in
        number-access m p x k f (running m p (record { shape = e₁; low = lo; high = hi }) x k f e₃) some
    go true true (Finished x w) e₁ e₂ e₃ = refl
    go true true (Crashed x k f) e₁ e₂ e₃ = refl

pub number-look : (m : Machine) (p : ℕ) → number_of (look_of m p).answer ≡ first_that (always m p)
unfolding look_of
number-look m p = go (shaped m) (leb 1 p && leb p m.n)
  where
    go : (s r : Bool)
        → number_of (cond s (cond r (looked m (stage_of m p)) (unseen NoProcess)) (unseen NotShaped)).answer
        ≡ first_that (when 1 (not s) ∷ when 2 (not r) ∷ [])
    go true true = refl
    go true false = refl
    go false r = refl

pub number-new : (n : ℕ) → number_of (new_of n).answer ≡ first_that (new_lines n)
unfolding new_of
number-new n = go (leb 1 n && leb n 32)
  where
    go : (b : Bool) → number_of (cond b (done (fresh n)) (refused OutOfRange (fresh 1))).answer ≡ first_that (when 8 (not b) ∷ [])
    go true = refl
    go false = refl
