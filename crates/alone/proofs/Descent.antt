-- Finishing alone as the code goes: the set gathered in a row by bits; one level of the recursion; and that it comes to what the single steps come to.
use mathlib.Core.Path.{◌≡◌, refl, sym, ap, ap₂, subst, ◌∙◌}
use mathlib.Core.Bool.{Bool, true, false, ◌&&◌, ◌||◌, cond}
use mathlib.Core.Logic.{◌≢◌, ⊎_elim}
use Prim.Native.Nat.{ℕ, zero, suc, ◌-◌, ◌^◌, ◌≤◌, ◌<◌}
use native.Mathlib.Omega.{arith}
use lib.Dec.{leb, eqb}
use lib.Bits.{bit_or, or_lt}
use borrow.Author.Tests.{le-leb, eq-eqb, ne_eqb}
use Rattle.std.specs.Prelude.{Option, Some, None, Ok, Err}
use Rattle.sets.specs.Members.{known, has, size}
use Rattle.sets.specs.Sets.{set_of, upwards}
use Rattle.sets.proofs.Laws.{either, known_true, unknown_has, members_equal, has-set_of, set_of-below, has-upwards, upwards-below, size_ones}
use Rattle.sets.proofs.Bits.{has_or}
use Rattle.rules.specs.declared.Stage.{Stage}
use Rattle.rules.specs.declared.Stage.TheVariants.{Running, Finished}
use Rattle.rules.specs.declared.Process.{Process}
use Rattle.rules.specs.declared.Machine.{Machine}
use Rattle.rules.specs.declared.Answer.{Answer}
use Rattle.rules.specs.declared.Answer.TheVariants.{NoLevelBelow}
use Rattle.rules.specs.declared.Called.{Called}
use Rattle.rules.specs.Stands.{stage_of, value_of, row_of}
use Rattle.rules.specs.State.{with_process, with_register}
use Rattle.rules.specs.Shape.{Held}
use Rattle.rules.specs.Statements.{Valid}
use Rattle.rules.specs.Calls.{number_of, done, refused, finish_from, or_as_at_entry, finish_at, finish_of}
use Rattle.rules.specs.Coded.Level.{gathered}
use Rattle.rules.proofs.Laws.Small.{equal_or_not}
use Rattle.rules.proofs.Laws.Shape.{shaped_record}
use Rattle.rules.proofs.Laws.Did.{goes_on}
use Rattle.rules.proofs.Laws.Level.{stored_twice, Runs, going, base, seen, finishes_here, sticks_here, stuck_there, fallen, left, stored, left_runs, goes-below}
use Rattle.moves.specs.declared.Runner.{Runner}
use Rattle.moves.specs.Coded.Asked.{runner_of}
use Rattle.moves.proofs.Laws.{runs, refused_running}
use Rattle.alone.specs.declared.Landing.{Landing}
use Rattle.alone.specs.Coded.Descent.{written, seen_at, level_below, Descent, here, descent}

-- before the write all of the row
pub gathered_first : (row k f : ℕ) → k ≡ 0 → gathered row k f ≡ row
unfolding gathered
gathered_first row k f e = rw (eq-eqb k 0 e)

-- after k accesses: what was found, and the registers from k on
pub gathered_later : (row k f : ℕ) → f < 2 ^ 32 → k ≢ 0 → gathered row k f ≡ bit_or f (upwards row k)
unfolding gathered
gathered_later row k f h ne =
    ap (λ (b : Bool). cond b row (set_of test 32)) (ne_eqb k 0 ne)
    ∙ sym (members_equal (bit_or f (upwards row k)) (set_of test 32) (or_lt 32 f (upwards row k) h (upwards-below row k)) (set_of-below test 32)
    (λ i. ⊎_elim (inside i) (λ n. unknown_has (bit_or f (upwards row k)) i n ∙ sym (unknown_has (set_of test 32) i n)) (either (known i))))
  where
    test : ℕ → Bool
    test i = has f i || (leb k i && has row i)

    inside : (i : ℕ) → known i ≡ true → has (bit_or f (upwards row k)) i ≡ has (set_of test 32) i
    inside i n =
        has_or f (upwards row k) i ∙ ap (λ (b : Bool). has f i || b) (has-upwards row k i)
        ∙ sym (has-set_of test 32 i ∙ ap₂ (λ (a b : Bool). a && b && test i) n (le-leb i 32 (known_true i n).1))

pub ruleset gathers = (gathered_first, gathered_later)

-- One level of the recursion: there is none below 1; it ends at r's level; it goes on below.
module _ (m : Machine) (p : ℕ) (r : Runner) where
  pub none_below : r.level ≡ 0 → descent r.level m p r ≡ here m None
  unfolding descent
  none_below e = ap (λ (y : ℕ). descent y m p r) e

  by : ℕ → Bool → Descent
  by x b = elim b [ true ↦ here (written m p r) (Some (record { level = r.level; view = seen_at m p r })) | false ↦ descent x (written m p r) p (level_below r) ]

  next : (x : ℕ) → x ≢ 0 → descent x m p r ≡ by (x - 1) (eqb (size (seen_at m p r)) r.level)
  unfolding descent by
  next zero ne = absurd (ne refl)
  next (suc x) ne = let q : x ≡ suc x - 1 = omega arith in ap (λ (y : ℕ). by y (eqb (size (seen_at m p r)) r.level)) q

  pub lands_here : r.level ≢ 0 → size (seen_at m p r) ≡ r.level
      → descent r.level m p r ≡ here (written m p r) (Some (record { level = r.level; view = seen_at m p r }))
  unfolding by
  lands_here ne e = next r.level ne ∙ ap (by (r.level - 1)) (eq-eqb (size (seen_at m p r)) r.level e)

  pub falls_below : r.level ≢ 0 → size (seen_at m p r) ≢ r.level → descent r.level m p r ≡ descent (r.level - 1) (written m p r) p (level_below r)
  unfolding by
  falls_below ne e = next r.level ne ∙ ap (by (r.level - 1)) (ne_eqb (size (seen_at m p r)) r.level e)

pub ruleset level_laws = (none_below, lands_here, falls_below, size_ones)

-- It looks at no record, so one that was stored before stands in what it leaves.
abbrev with_record : ℕ → Process → Descent → Descent
with_record p P d = here (with_process d.machine p P) d.landing

descent_stored : (x : ℕ) (m : Machine) (p : ℕ) (P : Process) (r : Runner) → descent x (with_process m p P) p r ≡ with_record p P (descent x m p r)
unfolding descent
descent_stored zero m p P r = refl
descent_stored (suc x) m p P r =
    ap (λ (M : Machine). on M (eqb (size (found M)) r.level)) (stored_first (eqb r.made 0))
    ∙ go (eqb (size (found (written m p r))) r.level) (descent_stored x (written m p r) p P (level_below r))
  where
    found : Machine → ℕ
    found M = gathered (row_of M r.level) r.made r.found

    on : Machine → Bool → Descent
    on M b = elim b [ true ↦ here M (Some (record { level = r.level; view = found M })) | false ↦ descent x M p (level_below r) ]

    stored_first : (z : Bool)
        → cond z (with_register (with_process m p P) r.level p r.value) (with_process m p P) ≡ with_process (cond z (with_register m r.level p r.value) m) p P
    stored_first true = refl
    stored_first false = refl

    go : (b : Bool) → descent x (with_process (written m p r) p P) p (level_below r) ≡ with_record p P (descent x (written m p r) p (level_below r))
        → on (with_process (written m p r) p P) b ≡ with_record p P (on (written m p r) b)
    go true h = refl
    go false h = h

-- What the single steps come to from level x is what the recursion comes to: the machine that it leaves with the process finished, or 7.
abbrev pub finished_at : Landing → ℕ → Process
finished_at l v = record { stage = Finished l.level l.view; value = v }

abbrev EndsAt : ℕ → ℕ → Called → Machine → Option Landing → Type 0
EndsAt p v c M (Some l) = c ≡ done (with_process M p (finished_at l v))
EndsAt p v c M None = c.answer ≡ NoLevelBelow

abbrev Ends : ℕ → ℕ → Called → Descent → Type 0
Ends p v c d = EndsAt p v c d.machine d.landing

-- process p at level x, as the machine has it
abbrev pub at : Machine → ℕ → ℕ → ℕ → ℕ → Runner
at m p x k f = record { level = x; made = k; found = f; value = value_of m p }

ends-here : (x : ℕ) (m : Machine) (p k f : ℕ) → Runs m p (suc x) k f → size (seen m p (suc x) k f) ≡ suc x
    → Ends p (value_of m p) (finish_from (suc x) m p) (descent (suc x) m p (at m p (suc x) k f))
ends-here x m p k f r e =
    let some : suc x ≢ 0 = omega arith in
    subst (Ends p (value_of m p) (finish_from (suc x) m p)) (sym (lands_here m p (at m p (suc x) k f) some e)) (finishes_here x m p k f r e)

sticks : (m : Machine) (p k f : ℕ) → Runs m p 1 k f → size (seen m p 1 k f) ≢ 1
    → Ends p (value_of m p) (finish_from 1 m p) (descent 1 m p (at m p 1 k f))
unfolding descent
sticks m p k f r ne =
    subst (Ends p (value_of m p) (finish_from 1 m p)) (sym (falls_below m p (at m p 1 k f) (omega arith) ne))
    (ap (λ (c : Called). c.answer) (sticks_here m p k f r ne) ∙ stuck_there m p k f r ne)

-- below level x + 2: the record that the process falls with is overwritten
falls : (x : ℕ) (m : Machine) (p k f : ℕ) (r : Runs m p (suc (suc x)) k f) (ne : size (seen m p (suc (suc x)) k f) ≢ suc (suc x))
    → Ends p (value_of (left x m p k) p) (finish_from (suc x) (left x m p k) p) (descent (suc x) (left x m p k) p (at (left x m p k) p (suc x) 0 0))
    → Ends p (value_of m p) (finish_from (suc (suc x)) m p) (descent (suc (suc x)) m p (at m p (suc (suc x)) k f))
falls x m p k f r ne h =
    let some : suc (suc x) ≢ 0 = omega arith in
    let less : suc (suc x) - 1 ≡ suc x = omega arith in
    subst (λ (c : Called). Ends p v c (descent (suc (suc x)) m p (at m p (suc (suc x)) k f))) (sym (goes-below x m p k f r ne))
    (subst (Ends p v (finish_from (suc x) (left x m p k) p))
    (ap (λ (y : ℕ). descent y (base m p (suc (suc x)) k) p (record { level = y; made = 0; found = 0; value = v })) (sym less)
    ∙ sym (falls_below m p (at m p (suc (suc x)) k f) some ne))
    (overwritten (finish_from (suc x) (left x m p k) p) (descent (suc x) (base m p (suc (suc x)) k) p d)
    (subst (Ends p v (finish_from (suc x) (left x m p k) p)) (descent_stored (suc x) (base m p (suc (suc x)) k) p (fallen x m p) d)
    (subst (λ (u : ℕ). Ends p u (finish_from (suc x) (left x m p k) p)
    (descent (suc x) (left x m p k) p (record { level = suc x; made = 0; found = 0; value = u })))
    (ap (λ (P : Process). P.value) (stored x m p k f r ne)) h))))
  where
    v : ℕ
    v = value_of m p

    d : Runner
    d = record { level = suc x; made = 0; found = 0; value = value_of m p }

    over : (c : Called) (M : Machine) (l : Option Landing) → EndsAt p (value_of m p) c (with_process M p (fallen x m p)) l → EndsAt p (value_of m p) c M l
    over c M (Some l) h = h ∙ ap done (stored_twice M p (fallen x m p) (finished_at l (value_of m p)))
    over c M None h = h

    overwritten : (c : Called) (D : Descent) → Ends p (value_of m p) c (with_record p (fallen x m p) D) → Ends p (value_of m p) c D
    overwritten c D h = over c D.machine D.landing h

from-ends : (x : ℕ) (m : Machine) (p k f : ℕ) → Runs m p x k f → Ends p (value_of m p) (finish_from x m p) (descent x m p (at m p x k f))
from-ends zero m p k f r = absurd (let z : 1 ≤ 0 = (going m p 0 k f r).low in omega arith)
from-ends (suc zero) m p k f r = ⊎_elim (ends-here 0 m p k f r) (sticks m p k f r) (equal_or_not (size (seen m p 1 k f)) 1)
from-ends (suc (suc x)) m p k f r =
    ⊎_elim (ends-here (suc x) m p k f r) (λ ne. falls x m p k f r ne (from-ends (suc x) (left x m p k) p 0 0 (left_runs x m p k f r ne)))
    (equal_or_not (size (seen m p (suc (suc x)) k f)) (suc (suc x)))

-- and where it is stuck the state is as at entry
abbrev pub landed_at : Machine → ℕ → ℕ → Machine → Option Landing → Called
landed_at m p v M (Some l) = done (with_process M p (finished_at l v))
landed_at m p v M None = refused NoLevelBelow m

abbrev pub landed : Machine → ℕ → ℕ → Descent → Called
landed m p v d = landed_at m p v d.machine d.landing

pub descends : (m : Machine) → Held m → (p : ℕ) → Valid m p → (x k f : ℕ) → stage_of m p ≡ Running x k f
    → or_as_at_entry m (finish_from x m p) ≡ landed m p (value_of m p) (descent x m p (at m p x k f))
descends m h p v x k f e = go (finish_from x m p) (descent x m p (at m p x k f)) (from-ends x m p k f r)
  where
    r : Runs m p x k f
    r = record { meets = record { size = refl; held = h; shape = shaped_record m v.shape }; low = v.low; high = v.high; stage = e }

    to : (c : Called) (M : Machine) (l : Option Landing) → EndsAt p (value_of m p) c M l → or_as_at_entry m c ≡ landed_at m p (value_of m p) M l
    to c M (Some l) h = ap (or_as_at_entry m) h
    to c M None h = ap (λ a. cond (eqb (number_of a) 0) c (refused a m)) h

    go : (c : Called) (d : Descent) → Ends p (value_of m p) c d → or_as_at_entry m c ≡ landed m p (value_of m p) d
    go c d h = to c d.machine d.landing h

-- what the definition says of a process that runs: it lands, or is stuck
finishes : (m : Machine) → Held m → (p : ℕ) (r : Runner) → Ok r ≡ runner_of m p → finish_of m p ≡ landed m p r.value (descent r.level m p r)
unfolding finish_of
finishes m h p r e =
    let R = runs m p r e in
    goes_on m p R.valid (finish_at (stage_of m p) m p) ∙ ap (λ (s : Stage). finish_at s m p) R.stage
    ∙ descends m h p R.valid r.level r.made r.found R.stage
    ∙ ap (λ (v : ℕ). landed m p v (descent r.level m p (record { level = r.level; made = r.made; found = r.found; value = v }))) R.value

module _ (m : Machine) (h : Held m) (p : ℕ) (r : Runner) (e : Ok r ≡ runner_of m p) where
  pub finish_lands : (l : Landing) → Some l ≡ (descent r.level m p r).landing
      → done (with_process (descent r.level m p r).machine p (finished_at l r.value)) ≡ finish_of m p
  finish_lands l q = sym (finishes m h p r e ∙ ap (landed_at m p r.value (descent r.level m p r).machine) (sym q))

  pub finish_sticks : None ≡ (descent r.level m p r).landing → refused NoLevelBelow m ≡ finish_of m p
  finish_sticks q = sym (finishes m h p r e ∙ ap (landed_at m p r.value (descent r.level m p r).machine) (sym q))

-- or is refused
pub refused_finish : (m : Machine) (p : ℕ) (a : Answer) → Err a ≡ runner_of m p → finish_of m p ≡ refused a m
unfolding finish_of
refused_finish m p a e = refused_running m p a (λ s. finish_at s m p) (record { absent = refl; finished = λ x w. refl; crashed = λ x k f. refl }) e
