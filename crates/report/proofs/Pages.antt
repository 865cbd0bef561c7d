-- One page handed over behind another: the buffer starts with the texts of both, and what is behind them stays.
use Prim.Native.Nat.{ℕ, ◌+◌, ◌-◌}
use mathlib.Core.Path.{◌≡◌}
use mathlib.Core.List.{List, ◌++◌}
use native.Mathlib.Omega.{arith}
use lib.ListN.{length, take, drop, length-append}
use borrow.Rule.Slice.PartMut.{put_mid}
use Rattle.text.specs.Stores.{over}
use Rattle.orders.proofs.Places.{over_rest}

-- a text at the start of what was lent, and where it ends
pub record Handed (b text out : List ℕ) (at : ℕ) : Type 0 where
  pub lies : out ≡ over text b
  pub ends : at ≡ length text

pub handed_more : {b x out z : List ℕ} {at k n : ℕ} (y : List ℕ) → Handed b x out at → k ≡ length out - at
    → n ≡ length y → z ≡ over y (take k (drop at out)) → Handed b (x ++ y) (put_mid at k out z) (at + n)
handed_more {b} {x} {out} {z} {at} {k} {n} y h d l o = record {
  lies = over_rest x y out b z at k h.ends h.lies d o;
  ends = omega (arith, h.ends, length-append x y);
}
