-- The printed view: `-` for a process that has not finished, and otherwise the pairs that the figure returns, split by commas.
use Prim.Native.Nat.{ℕ, zero, suc, ◌+◌, ◌-◌, ◌≤◌, ◌<◌}
use mathlib.Core.Path.{◌≡◌, refl, sym, ap, ap₂, subst, ◌∙◌}
use mathlib.Core.Logic.{◌↔◌}
use mathlib.Core.Bool.{Bool, true, false, cond, true≢false}
use mathlib.Core.List.{List, [], ◌∷◌, ◌++◌, map, append_assoc, append-nil}
use native.Mathlib.Omega.{arith}
use lib.ListN.{length, get_or, get_or-append}
use Rattle.sets.specs.Members.{has, size}
use Rattle.rules.specs.declared.Stage.{Stage}
use Rattle.rules.specs.declared.Stage.TheVariants.{Absent, Running, Finished, Crashed}
use Rattle.rules.specs.declared.Machine.{Machine}
use Rattle.rules.specs.Stands.{stage_of, value_of, row_of, cell_of}
use Rattle.rules.specs.State.{finished, found_of}
use Rattle.rules.specs.Shape.{Shaped, Ended, ShapedStage}
use Rattle.rules.specs.Calls.{row_values, looked}
use Rattle.rules.proofs.Laws.Looks.{row_values_at}
use Rattle.world.specs.Programs.{empty, holds, returns, accesses}
use Rattle.history.specs.Figure.{Pair, Code, pairs}
use Rattle.history.specs.AsWorld.{readings, program_at}
use Rattle.history.proofs.Found.{row_upto}
use Rattle.history.proofs.Figure.{pairs_next, program_goes}
use Rattle.history.proofs.Theorems.{view_is_returned}
use Rattle.replays.specs.Replays.{replay_of}
use Rattle.replays.proofs.Promises.{every_file_demand_three}
use Rattle.text.specs.Ascii.{ascii}
use Rattle.text.specs.Decimal.{decimal, Digits}
use Rattle.text.specs.Parts.{joined}
use Rattle.text.proofs.Decimal.{decimal_is_numeral}
use Rattle.text.proofs.Parts.{joined_more, joined_beyond, joined_ext}
use Rattle.output.specs.Lines.{comma, pair, pairs_from, view_text}
use Rattle.output.specs.Promises.{pair_text, commas, ViewPrinted, EveryViewPrinted}

-- parts after others, each with a comma before it unless it is the first of all
abbrev chained : Bool → List (List ℕ) → List ℕ
chained later [] = []
chained later (x ∷ xs) = comma later ++ (x ++ chained true xs)

commas_chained : (xs : List (List ℕ)) → commas xs ≡ chained false xs
unfolding commas
commas_chained [] = refl
commas_chained (x ∷ []) = sym (append-nil x)
commas_chained (x ∷ y ∷ ys) = ap (λ (l : List ℕ). x ++ (ascii "," ++ l)) (commas_chained (y ∷ ys))

-- the pair of a process that is in a set, by what it holds
abbrev one : Bool → ℕ → ℕ → List Pair
one t i v = cond t (record { process = i; value = v } ∷ []) []

abbrev member : ℕ → (ℕ → ℕ) → ℕ → List Pair
member w value i = one (has w i) i (value i)

abbrev beside : List ℕ → ℕ → ℕ
beside values i = get_or values (i - 1) 0

pairs_chained : (later : Bool) (w : ℕ) (values : List ℕ) (i k : ℕ)
    → pairs_from later w values i k ≡ chained later (map pair_text (joined i k (member w (beside values))))
unfolding pairs_from pair joined
pairs_chained later w values i zero = refl
pairs_chained later w values i (suc k) = go (has w i) (λ b. pairs_chained b w values (suc i) k)
  where
    v : ℕ
    v = beside values i

    rest : List Pair
    rest = joined (suc i) k (member w (beside values))

    go : (t : Bool) → ((b : Bool) → pairs_from b w values (suc i) k ≡ chained b (map pair_text rest))
        → cond t (pair later i v ++ pairs_from true w values (suc i) k) (pairs_from later w values (suc i) k)
        ≡ chained later (map pair_text (one t i v ++ rest))
    go true more =
        let text = decimal i ++ (ascii ":" ++ decimal v) in
        append_assoc (comma later) text (pairs_from true w values (suc i) k)
        ∙ ap (λ (l : List ℕ). comma later ++ (text ++ l)) (more true)
    go false more = more later

-- Those that the figure lists are the members among the registers that were read.
pairs_members : (m : Machine) (x w k : ℕ) → pairs 1 (readings m x w k) ≡ joined 1 k (member w (cell_of m x))
unfolding readings pairs joined
pairs_members m x w zero = refl
pairs_members m x w (suc k) =
    pairs_next m x w k ∙ ap₂ (λ (l r : List Pair). l ++ r) (pairs_members m x w k) (go (has w (suc k)))
    ∙ sym (joined_more k (member w (cell_of m x)))
  where
    go : (t : Bool) → pairs (suc k) (cond t (holds (cell_of m x (suc k))) empty ∷ []) ≡ one t (suc k) (cell_of m x (suc k))
    go true = refl
    go false = refl

one_value : (t : Bool) (i v : ℕ) → one t i (cond t v 0) ≡ one t i v
one_value true i v = refl
one_value false i v = refl

module _ (m : Machine) (sh : Shaped m) (x w : ℕ) (ended : Ended m.n (row_of m) x w) where
  -- nobody above n is a member
  above : (i : ℕ) → m.n < i → member w (cell_of m x) i ≡ []
  above i h = go (has w i) refl
    where
      go : (t : Bool) → has w i ≡ t → one t i (cell_of m x i) ≡ []
      go true e = absurd (let l : i ≤ m.n = row_upto m sh x ended.low ended.high i (ended.stands i e) in omega arith)
      go false e = refl

  -- the value beside a member is what its register holds
  held : (i : ℕ) → 1 ≤ i → i < 33 → member w (beside (row_values m.values x w 1 32)) i ≡ member w (cell_of m x) i
  held i low high =
      let e : 1 + (i - 1) ≡ i = omega arith in
      ap (one (has w i) i)
      (row_values_at m.values x w 1 32 (i - 1) (omega arith) ∙ ap (λ (p : ℕ). cond (has w p) (cell_of m x p) 0) e)
      ∙ one_value (has w i) i (cell_of m x i)

  members : joined 1 32 (member w (beside (row_values m.values x w 1 32))) ≡ pairs 1 (readings m x w m.n)
  members =
      let e : 32 ≡ m.n + (32 - m.n) = omega (arith, sh.most) in
      joined_ext 1 32 (member w (beside (row_values m.values x w 1 32))) (member w (cell_of m x)) held
      ∙ ap (λ (k : ℕ). joined 1 k (member w (cell_of m x))) e
      ∙ joined_beyond m.n (32 - m.n) (member w (cell_of m x)) above
      ∙ sym (pairs_members m x w m.n)

  -- so what is printed is the figure's list
  listed : pairs_from false w (row_values m.values x w 1 32) 1 32 ≡ chained false (map pair_text (pairs 1 (readings m x w m.n)))
  listed = pairs_chained false w (row_values m.values x w 1 32) 1 32 ∙ ap (λ l. chained false (map pair_text l)) members

-- The first byte of a list of pairs is a digit.
first-digit : (n : ℕ) (l : List ℕ) → 48 ≤ get_or (decimal n ++ l) 0 0
first-digit n l =
    let t = decimal_is_numeral n in
    omega (arith, get_or-append (decimal n) l 0 0 t.some, low (decimal n) t.digits t.some)
  where
    low : (ds : List ℕ) → Digits ds → 1 ≤ length ds → 48 ≤ get_or ds 0 0
    low [] h k = absurd (omega arith)
    low (d ∷ ds) h k = h.0.low

no_dash : (qs : List Pair) → 1 ≤ length qs → chained false (map pair_text qs) ≡ ascii "-" → ⊥
no_dash [] h e = omega arith
no_dash (q ∷ qs) h e =
    let rest = chained true (map pair_text qs) in
    let value = ascii ":" ++ decimal q.value in
    let first = ap (λ (l : List ℕ). get_or l 0 0) (sym (append_assoc (decimal q.process) value rest) ∙ e) in
    omega (arith, first-digit q.process (value ++ rest))

returns_one : (a b : List Pair) → ◌≡◌ {A = Code} (returns a) (returns b) → a ≡ b
returns_one a b e = cc

module _ (m : Machine) (sh : Shaped m) (i : ℕ) (low : 1 ≤ i) (high : i ≤ m.n) where
  stage_shaped : (s : Stage) → stage_of m i ≡ s → ShapedStage m.n (row_of m) s
  stage_shaped s e = subst (ShapedStage m.n (row_of m)) e (sh.process i low (omega (arith, sh.most))).stage

  -- a view has as many pairs as its level, which is 1 at least
  some : (x w : ℕ) → stage_of m i ≡ Finished x w → 1 ≤ length (pairs 1 (readings m x w m.n))
  some x w e =
      let r = view_is_returned m sh i (record { low = low; high = high; ended = ap finished e }) in
      let same = returns_one r.list (pairs 1 (readings m x w m.n)) (sym r.returned ∙ ap (λ s. program_at m i s (value_of m i)) e) in
      let g : Ended m.n (row_of m) x w = stage_shaped (Finished x w) e in
      omega (arith, ap length same, r.count, ap (λ s. size (found_of s)) e, g.count, g.low)

  dashed : (s : Stage) → stage_of m i ≡ s → (view_text (looked m s) ≡ ascii "-") ↔ (finished s ≡ false)
  dashed Absent e = (λ _. refl, λ _. refl)
  dashed (Running x k f) e = (λ _. refl, λ _. refl)
  dashed (Crashed x k f) e = (λ _. refl, λ _. refl)
  dashed (Finished x w) e = (
    λ d. absurd (no_dash (pairs 1 (readings m x w m.n)) (some x w e) (sym (listed m sh x w (stage_shaped (Finished x w) e)) ∙ d)),
    λ t. absurd (true≢false t),
  )

  paired : (s : Stage) → stage_of m i ≡ s → (list : List Pair) → program_at m i s (value_of m i) ≡ returns list
      → view_text (looked m s) ≡ commas (map pair_text list)
  paired Absent e list r = absurd (let z : ◌≡◌ {A = ℕ} 0 1 = cc in omega arith)
  paired (Running x k f) e list r =
      absurd (true≢false (sym (program_goes m i x k f (value_of m i) (stage_shaped (Running x k f) e)) ∙ ap accesses r))
  paired (Crashed x k f) e list r = absurd (let z : ◌≡◌ {A = ℕ} 0 1 = cc in omega arith)
  paired (Finished x w) e list r =
      listed m sh x w (stage_shaped (Finished x w) e) ∙ ap (λ l. chained false (map pair_text l)) (returns_one (pairs 1 (readings m x w m.n)) list r)
      ∙ sym (commas_chained (map pair_text list))

  view_printed : ViewPrinted m i
  view_printed = record { dash = dashed (stage_of m i) refl; pairs = paired (stage_of m i) refl }

pub every-view-printed : EveryViewPrinted
every-view-printed s budget i low high =
    let M = (every_file_demand_three s budget).shape in
    view_printed (replay_of s budget).machine M.shape i low (omega (arith, M.size))
