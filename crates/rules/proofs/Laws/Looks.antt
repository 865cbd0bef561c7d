-- What a look shows.
use mathlib.Core.Path.{◌≡◌, refl, sym, ap, ap₂, subst, ◌∙◌}
use mathlib.Core.Bool.{Bool, ◌&&◌, cond}
use mathlib.Core.List.{List}
use Prim.Native.Nat.{ℕ, zero, suc, ◌+◌, ◌-◌, ◌≤◌, ◌<◌}
use native.Mathlib.Nat.{add-zero, add-suc, suc-add}
use native.Mathlib.Omega.{arith}
use lib.Dec.{leb}
use lib.ListN.{length, get_or, replicate}
use borrow.Author.Tests.{le-leb}
use Rattle.sets.specs.Members.{has}
use Rattle.sets.proofs.Laws.{has-known}
use Rattle.rules.specs.declared.Stage.{Stage}
use Rattle.rules.specs.declared.Stage.TheVariants.{Absent, Running, Finished, Crashed}
use Rattle.rules.specs.declared.Machine.{Machine}
use Rattle.rules.specs.declared.Answer.TheVariants.{Done, NotShaped, NoProcess}
use Rattle.rules.specs.declared.Standing.{Standing}
use Rattle.rules.specs.declared.Sight.{Sight}
use Rattle.rules.specs.Stands.{stage_of, cell_in, cell_of}
use Rattle.rules.specs.Calls.{row_values, values_of, looked, unseen, look_of}
use Rattle.rules.specs.Statements.{Valid, no_view, ShowsView, WhatLooksShow}
use Rattle.rules.proofs.Laws.Small.{cond-true, cond-false}

-- past both tests a look shows the stage
pub look_valid : (m : Machine) (p : ℕ) → Valid m p → look_of m p ≡ looked m (stage_of m p)
unfolding look_of
look_valid m p ok =
    ap (λ (b : Bool). cond b (cond (leb 1 p && leb p m.n) (looked m (stage_of m p)) (unseen NoProcess)) (unseen NotShaped)) ok.shape
    ∙ ap₂ (λ (a b : Bool). cond (a && b) (looked m (stage_of m p)) (unseen NoProcess)) (le-leb 1 p ok.low) (le-leb p m.n ok.high)

pub look_shows : (m : Machine) (p : ℕ) → Valid m p → (s : Stage) → stage_of m p ≡ s → look_of m p ≡ looked m s
look_shows m p ok s e = look_valid m p ok ∙ ap (looked m) e

pub row_values_at : (values : List ℕ) (x w i k j : ℕ) → j < k → get_or (row_values values x w i k) j 0 ≡ cond (has w (i + j)) (cell_in values x (i + j)) 0
unfolding row_values
row_values_at values x w i zero j h = absurd (let z : ⊥ = omega arith in z)
row_values_at values x w i (suc k) zero h = ap (λ (p : ℕ). cond (has w p) (cell_in values x p) 0) (sym (add-zero i))
row_values_at values x w i (suc k) (suc j) h =
    row_values_at values x w (suc i) k j (omega arith)
    ∙ ap (λ (p : ℕ). cond (has w p) (cell_in values x p) 0) (suc-add i j ∙ sym (add-suc i j))

pub row_values_long : (values : List ℕ) (x w i k : ℕ) → length (row_values values x w i k) ≡ k
unfolding row_values
row_values_long values x w i zero = refl
row_values_long values x w i (suc k) = ap suc (row_values_long values x w (suc i) k)

-- no view, no values
pub no_values : (values : List ℕ) (x : ℕ) → row_values values x 0 1 32 ≡ replicate 32 0
unfolding row_values has
no_values values x = refl

blind : (m : Machine) (s : Standing) (x k : ℕ)
    → ◌≡◌ {A = Sight} (record { answer = Done; standing = s; level = x; accesses = k; view = 0; values = values_of m x 0 }) (no_view Done s x k)
blind m s x k = ap {B = Sight} (λ (v : List ℕ). record { answer = Done; standing = s; level = x; accesses = k; view = 0; values = v }) (no_values m.values x)

-- the value at the place of process i
value_at_lem : (m : Machine) (x w i : ℕ) → 1 ≤ i → i ≤ 32 → get_or (values_of m x w) (i - 1) 0 ≡ cond (has w i) (cell_of m x i) 0
value_at_lem m x w i lo hi =
    let one : 1 + (i - 1) ≡ i = omega arith in
    row_values_at m.values x w 1 32 (i - 1) (omega arith) ∙ ap (λ (p : ℕ). cond (has w p) (cell_of m x p) 0) one

shows : (m : Machine) (x w : ℕ) → ShowsView m x w (looked m (Finished x w))
shows m x w =
    record {
      answer = refl;
      standing = refl;
      level = refl;
      accesses = refl;
      view = refl;
      places = row_values_long m.values x w 1 32;
      value = λ i t. let k = has-known w i t in value_at_lem m x w i k.0 k.1 ∙ cond-true (has w i) (cell_of m x i) 0 t;
      other = λ i lo hi t. value_at_lem m x w i lo hi ∙ cond-false (has w i) (cell_of m x i) 0 t;
    }

pub what_looks_show : WhatLooksShow
what_looks_show =
    record {
      absent = λ m p ok e. look_shows m p ok Absent e ∙ blind m Standing.Absent 0 0;
      running = λ m p ok x k f e. look_shows m p ok (Running x k f) e ∙ blind m Standing.Running x _;
      crashed = λ m p ok x k f e. look_shows m p ok (Crashed x k f) e ∙ blind m Standing.Crashed x _;
      finished = λ m p ok x w e. subst (ShowsView m x w) (sym (look_shows m p ok (Finished x w) e)) (shows m x w);
    }
