-- The values that a look shows, element by element, and the numbers that rule 7 gives.
use mathlib.Core.Path.{◌≡◌, sym, ap₂, ◌∙◌}
use mathlib.Core.Bool.{cond}
use mathlib.Core.List.{List}
use Prim.Native.Nat.{ℕ, ◌+◌, ◌-◌, ◌*◌, ◌≤◌, ◌<◌}
use native.Mathlib.Nat.{mul-le-mul}
use native.Mathlib.Omega.{arith}
use lib.ListN.{length, get_or}
use lib.Seq.{ext_get_or}
use Rattle.sets.specs.Members.{has}
use Rattle.rules.specs.Calls.{row_values}
use Rattle.rules.proofs.Laws.Looks.{row_values_at, row_values_long}

-- n is at most 32, so the accesses of a process are few
pub few : (n x : ℕ) → n ≤ 32 → (n + 1) * (n - x) ≤ 1056
few n x h = mul-le-mul (let a : n + 1 ≤ 33 = omega arith in a) (let b : n - x ≤ 32 = omega arith in b)

-- an array that holds at k what process k + 1's register shows is those values
pub values_all : (values : List ℕ) (x w : ℕ) (out : List ℕ) → length out ≡ 32
    → ((k : ℕ) → k < 32 → get_or out k 0 ≡ cond (has w (k + 1)) (get_or values (32 * (x - 1) + k) 0) 0) → out ≡ row_values values x w 1 32
values_all values x w out n u =
    ext_get_or 0 out (row_values values x w 1 32) (n ∙ sym (row_values_long values x w 1 32))
    (λ k h.
    u k (omega arith)
    ∙ ap₂ (λ (p q : ℕ). cond (has w p) (get_or values (32 * (x - 1) + q) 0) 0) (let e : k + 1 ≡ 1 + k = omega arith in e)
    (let e : k ≡ 1 + k - 1 = omega arith in e)
    ∙ sym (row_values_at values x w 1 32 k (omega arith)))
