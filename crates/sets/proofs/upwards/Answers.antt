-- `sets::upwards` meets its contract: a shift down and up again puts the digits below to 0 and loses none above.
use mathlib.Core.Path.{◌∙◌}
use native.Mathlib.Nat.{mod-eq_of_lt, lt_of_le_of_lt, div-mul-le_self}
use Prim.Native.Nat.{◌-◌, ◌^◌}
use Rattle.sets.proofs.Laws.{upwards_all, upwards-none, cleared_upwards}
use Rattle.sets.proofs.upwards.Goals as goal

pub returns-then-from-lt1 : goal.returns-then-from-lt1
returns-then-from-lt1 c = upwards_all c.args.s c.args.from c.ranges.s.fits c.if-from-lt1.true

pub returns-then-from-gt32 : goal.returns-then-from-gt32
returns-then-from-gt32 c = upwards-none c.args.s c.args.from c.if-from-gt32.true

pub returns : goal.returns
returns c =
    let s = c.args.s in
    let k = c.args.from in
    let h = c.ranges.s.fits in
    mod-eq_of_lt (lt_of_le_of_lt (div-mul-le_self s (2 ^ (k - 1))) h) ∙ cleared_upwards s k h c.if-from-lt1.false
