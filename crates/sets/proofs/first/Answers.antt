-- `sets::first` meets its contract: up to 32 a 1 shifted by k, less 1, is k bits set, and above 32 all are set.
use mathlib.Core.Path.{sym, ap, ◌∙◌}
use Prim.Native.Nat.{ℕ, ◌-◌}
use native.Mathlib.Omega.{arith}
use Rattle.sets.proofs.Laws.{first_some, first_all}
use Rattle.sets.proofs.Bits.{one_shifted}
use Rattle.sets.proofs.first.Goals as goal

pub returns-then-k-gt32 : goal.returns-then-k-gt32
returns-then-k-gt32 c = sym (first_all c.args.k (omega arith))

pub returns : goal.returns
returns c =
    let k = c.args.k in
    ap (λ (x : ℕ). x - 1) (one_shifted k 64 (omega arith)) ∙ sym (first_some k (omega arith))
