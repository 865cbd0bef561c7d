-- `sets::has` meets its contract: a number that a set can hold is a member by its bit, and no other number is.
use Rattle.std.proofs.Common.{sym, ap, ◌∙◌, Bool, ◌&&◌, ◌-◌, ◌/◌, ◌%◌}
use Prim.Native.Nat.{◌^◌}
use lib.Dec.{eqb}
use Rattle.sets.specs.Members.{has}
use Rattle.sets.proofs.has.Goals as goal

pub returns-then-known : goal.returns-then-known
unfolding has
returns-then-known c = ap (λ (b : Bool). b && eqb (c.args.s / 2 ^ (c.args.i - 1) % 2) 1) (sym c.if-known.true ∙ c.known.ensures)

pub returns-else-known : goal.returns-else-known
unfolding has
returns-else-known c = c.if-known.false ∙ ap (λ (b : Bool). b && eqb (c.args.s / 2 ^ (c.args.i - 1) % 2) 1) (sym c.if-known.false ∙ c.known.ensures)
