-- `orders::put_values` meets its contract: a member's value is put behind those below it.
use Rattle.std.proofs.Common.{◌-◌, List, length, ℕ, sym, ap, ◌∙◌, arith}
use Rattle.std.proofs.lemmas.Grind.{common_steps}
use Rattle.text.specs.Parts.{joined}
use Rattle.text.specs.Stores.{over}
use Rattle.orders.specs.Coded.Places.{member_bytes}
use Rattle.orders.proofs.Places.{joined_one_more, joined_room, member_in, over_part}
use Rattle.orders.proofs.put_values.Goals as goal
use Rattle.orders.proofs.put_values.Goals.{then-has, else-has}

pub slice_bounds-copy_from_slice-end : goal.slice_bounds-copy_from_slice-end
slice_bounds-copy_from_slice-end c = grind (arith, common_steps, joined_room, member_in)

pub loop-member-preserved : goal.loop-member-preserved
loop-member-preserved c =
    let f = member_bytes c.args.values.now c.args.level c.args.view in
    let l = c.loop-member in
    let more = joined_one_more f l.member (grind (arith, common_steps)) in
    elim c.if-has.branch [
      | then-has w ↦
          let four = ap length (member_in c.args.values.now c.args.level c.args.view l.member (sym c.has.ensures ∙ w.if-has.true)) in
          record {
            place = grind (arith, common_steps, joined_one_more, member_in);
            there =
                w.buffer-is
                ∙ over_part (joined 1 (l.member - 1) f) (f l.member) l.buffer c.args.buffer.now _ l.at _ l.invariant.place l.invariant.there
                (omega (arith, four)) (grind (arith, common_steps, member_in))
                ∙ ap (λ (J : List ℕ). over J c.args.buffer.now) (sym more);
          }
      | else-has w ↦ record { place = grind (arith, common_steps, joined_one_more); there = grind (arith, common_steps, joined_one_more) }
    ]
