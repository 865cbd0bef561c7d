-- What the verdict of a file promises of it.
use Prim.Native.Nat.{ℕ, ◌≤◌, ◌<◌}
use mathlib.Core.List.{List}
use Rattle.std.specs.Prelude.{Option, Some, None, option_map, length}
use Rattle.std.proofs.lemmas.Option.{none-some, same_Some}
use mathlib.Core.Logic.{◌≢◌, ◌↔◌, ◌⊎◌, inl, inr, ⊎_elim}
use mathlib.Core.Bool.{Bool, true, false, cond}
use mathlib.Core.Path.{◌≡◌, refl, sym, ap, ◌∙◌}
use native.Mathlib.Omega.{arith}
use lib.Dec.{eqb}
use borrow.Author.Tests.{ne_eqb, eqb-false}
use Rattle.sets.proofs.Laws.{either}
use Rattle.formats.specs.declared.FileAnswer.{FileAnswer}
use Rattle.formats.specs.declared.FileAnswer.TheVariants.{Whole, OutOfRange, NotHeader, OtherMark, MarkCut, BodyCut, HeaderAgain}
use Rattle.formats.specs.declared.FileAnswer.TheVariants.{BudgetSpent, NoProcess, SecondView, NamesAbove}
use Rattle.formats.specs.declared.Views.{Views}
use Rattle.formats.specs.Numbers.{file_number, is_whole}
use Rattle.formats.specs.ViewFile.{read_of}
use Rattle.findings.specs.declared.Finding.{Finding}
use Rattle.findings.specs.declared.Finding.TheVariants.{LacksItself, Apart, Unlike, Disagree}
use Rattle.findings.specs.declared.Found.{Found}
use Rattle.findings.specs.declared.FileVerdict.{FileVerdict}
use Rattle.findings.specs.Findings.{finding_number, check_of}
use Rattle.findings.specs.Verdict.{judged, unread, verdict_of}
use Rattle.findings.specs.Properties.{Obeys}
use Rattle.findings.specs.Statements.{RefusedFirst, ReadThenChecked, VerdictNumbers, EveryVerdictNumbered, EveryCutJudged, YesExactly}
use Rattle.formats.proofs.WholeFile.{read_place}
use Rattle.formats.proofs.Cuts.{every_cut_exactly}
use Rattle.findings.proofs.Accepts.{accepts_exactly}
use Rattle.findings.proofs.FirstBreak.{yes_is_no_finding}

-- The verdict of a file, from what its reading answers.
verdict_if : (s : List ℕ) (b : Bool) → is_whole (read_of s).answer ≡ b
    → verdict_of s ≡ cond b (judged (read_of s).place (check_of (read_of s).views)) (unread (file_number (read_of s).answer) (read_of s).place)
unfolding verdict_of
verdict_if s b e =
    ap (λ (c : Bool). cond c (judged (read_of s).place (check_of (read_of s).views)) (unread (file_number (read_of s).answer) (read_of s).place)) e

pub refused_first : RefusedFirst
refused_first s e = verdict_if s false e

pub read_then_checked : ReadThenChecked
read_then_checked s e = verdict_if s true e ∙ ap (λ (at : ℕ). judged at (check_of (read_of s).views)) (read_place s e)

-- the number of a checker's answer
abbrev number : Option Found → ℕ
number f = (judged 0 f).number

judged_number : (at : ℕ) (f : Option Found) → (judged at f).number ≡ number f
judged_number at None = refl
judged_number at (Some f) = refl

of-read : (s : List ℕ) → is_whole (read_of s).answer ≡ true → (verdict_of s).number ≡ number (check_of (read_of s).views)
of-read s e = ap (λ (x : FileVerdict). x.number) (read_then_checked s e) ∙ judged_number (length s) (check_of (read_of s).views)

-- a finding's number is one of four
finding_number_lem : (k : Finding) → (20 ≤ finding_number k) × (finding_number k ≤ 23)
finding_number_lem LacksItself = (omega arith, omega arith)
finding_number_lem Apart = (omega arith, omega arith)
finding_number_lem Unlike = (omega arith, omega arith)
finding_number_lem Disagree = (omega arith, omega arith)

-- so 0 is that of none
no_number : (f : Option Found) → number f ≡ 0 → f ≡ None
no_number None e = refl
no_number (Some f) e = absurd (omega (arith, finding_number_lem f.finding))

yes_by : (s : List ℕ) → (verdict_of s).number ≡ 0 → (is_whole (read_of s).answer ≡ true) × Obeys (read_of s).views
yes_by s z =
    ⊎_elim
    (λ e. let v : Views = (read_of s).views in
    let k : number (check_of v) ≡ 0 = sym (of-read s e) ∙ z in
    (e, (accepts_exactly v).0 ((yes_is_no_finding v).0 (no_number (check_of v) k))))
    (λ e. absurd (eqb-false (file_number (read_of s).answer) 0 e (sym (ap (λ (x : FileVerdict). x.number) (refused_first s e)) ∙ z)))
    (either (is_whole (read_of s).answer))

pub yes_exactly : YesExactly
yes_exactly s = (
  yes_by s,
  λ p. let v : Views = (read_of s).views in of-read s p.0 ∙ ap number ((yes_is_no_finding v).1 ((accepts_exactly v).1 p.1)),
)

-- A finding by its number, and the numbers of a refused file, which are none of these.
finding_of : ℕ → Finding
finding_of n = cond (eqb n 21) Apart (cond (eqb n 22) Unlike (cond (eqb n 23) Disagree LacksItself))

finding_back : (k : Finding) → finding_of (finding_number k) ≡ k
unfolding finding_of
finding_back LacksItself = refl
finding_back Apart = refl
finding_back Unlike = refl
finding_back Disagree = refl

-- a checker's answer that has a finding's number is that finding
abbrev kind : Option Found → Option Finding
kind f = option_map (λ (g : Found). g.finding) f

kind_is : (f : Option Found) (k : Finding) → number f ≡ finding_number k → kind f ≡ Some k
kind_is None k e = absurd (omega (arith, finding_number_lem k))
kind_is (Some f) k e = ap Some (sym (finding_back f.finding) ∙ ap finding_of e ∙ finding_back k)

is_kind : (f : Option Found) (k : Finding) → kind f ≡ Some k → number f ≡ finding_number k
is_kind None k e = absurd (none-some k e)
is_kind (Some f) k e = ap finding_number (same_Some f.finding k e)

-- 0, or one of four
answered : (f : Option Found) → (number f ≡ 0) ⊎ ((20 ≤ number f) × (number f ≤ 23))
answered None = inl refl
answered (Some f) = inr (finding_number_lem f.finding)

file_number_lem : (a : FileAnswer) → (file_number a < 20) ⊎ (23 < file_number a)
file_number_lem Whole = inl (omega arith)
file_number_lem OutOfRange = inl (omega arith)
file_number_lem NotHeader = inl (omega arith)
file_number_lem OtherMark = inl (omega arith)
file_number_lem MarkCut = inl (omega arith)
file_number_lem BodyCut = inr (omega arith)
file_number_lem HeaderAgain = inl (omega arith)
file_number_lem BudgetSpent = inl (omega arith)
file_number_lem NoProcess = inl (omega arith)
file_number_lem SecondView = inl (omega arith)
file_number_lem NamesAbove = inl (omega arith)

-- so none is both
apart : (x : ℕ) → (x < 20) ⊎ (23 < x) → 20 ≤ x → x ≤ 23 → ⊥
apart x e l h = ⊎_elim (λ q. omega arith) (λ q. omega arith) e

module _ (s : List ℕ) where
  told : ℕ
  told = file_number (read_of s).answer

  of-refused : is_whole (read_of s).answer ≡ false → (verdict_of s).number ≡ told
  unfolding told
  of-refused e = ap (λ (x : FileVerdict). x.number) (refused_first s e)

  finds : (k : Finding) → (verdict_of s).number ≡ finding_number k
      → (is_whole (read_of s).answer ≡ true) × (kind (check_of (read_of s).views) ≡ Some k)
  unfolding told
  finds k e =
      let l = finding_number_lem k in
      ⊎_elim
      (λ t. (t, kind_is (check_of (read_of s).views) k (sym (of-read s t) ∙ e)))
      (λ t. absurd (apart told (file_number_lem (read_of s).answer) (omega (arith, of-refused t, l.0)) (omega (arith, of-refused t, l.1))))
      (either (is_whole (read_of s).answer))

  refuses : (x : ℕ) → x ≢ 0 → (x < 20) ⊎ (23 < x) → (verdict_of s).number ≡ x → told ≡ x
  refuses x n l e =
      ⊎_elim
      (λ t. absurd (⊎_elim
      (λ z. n (sym e ∙ of-read s t ∙ z))
      (λ h. apart x l (omega (arith, of-read s t, h.0)) (omega (arith, of-read s t, h.1)))
      (answered (check_of (read_of s).views))))
      (λ t. sym (of-refused t) ∙ e)
      (either (is_whole (read_of s).answer))

  verdict_numbers : VerdictNumbers s
  unfolding told
  verdict_numbers =
      record {
        finding = λ k. (finds k, λ p. of-read s p.0 ∙ is_kind (check_of (read_of s).views) k p.1);
        refusal = λ x n l. (refuses x n l, λ e. of-refused (ne_eqb told 0 (λ z. n (sym e ∙ z))) ∙ e);
      }

pub every_verdict_numbered : EveryVerdictNumbered
every_verdict_numbered = verdict_numbers

-- a file that the reader refuses with a number, and the place
module _ (s : List ℕ) (x : ℕ) (n : x ≢ 0) (o : (x < 20) ⊎ (23 < x)) (place : ℕ) where
  same_place : file_number (read_of s).answer ≡ x → (verdict_of s).place ≡ (read_of s).place
  same_place e = ap (λ (v : FileVerdict). v.place) (refused_first s (ne_eqb (file_number (read_of s).answer) 0 (λ z. n (sym e ∙ z))))

  as_read : (((verdict_of s).number ≡ x) × ((verdict_of s).place ≡ place)) ↔ ((file_number (read_of s).answer ≡ x) × ((read_of s).place ≡ place))
  as_read =
      let r = (verdict_numbers s).refusal x n o in (
        λ p. let e = r.0 p.0 in (e, sym (same_place e) ∙ p.1),
        λ p. (r.1 p.0, same_place p.0 ∙ p.1),
      )

pub every_cut_judged : EveryCutJudged
every_cut_judged s =
    let c = every_cut_exactly s in
    record {
      eleven = λ place.
          let r = as_read s 11 (λ z. omega arith) (inl (omega arith)) place in
          (λ p. (c.eleven place).0 (r.0 p), λ m. r.1 ((c.eleven place).1 m));
      twenty_four = λ place.
          let r = as_read s 24 (λ z. omega arith) (inr (omega arith)) place in
          (λ p. (c.twenty_four place).0 (r.0 p), λ b. r.1 ((c.twenty_four place).1 b));
    }
