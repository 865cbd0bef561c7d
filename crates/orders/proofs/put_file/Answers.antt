-- `orders::put_file` meets its contract: a process's record is put behind those below it.
use Rattle.std.proofs.Common.{◌+◌, ◌-◌, ◌∷◌, ◌++◌, List, ℕ, length, drop, sym, ap, refl, ◌∙◌, arith}
use Rattle.std.proofs.lemmas.Grind.{common_steps}
use Rattle.text.specs.Parts.{joined}
use Rattle.text.specs.Stores.{over}
use Rattle.orders.specs.Coded.Places.{part_of, stage_bytes, machine_bytes}
use Rattle.orders.proofs.Places.{joined_none_yet, joined_one_more, joined_room, over_rest}
use Rattle.orders.proofs.put_file.Goals as goal
use Rattle.orders.proofs.put_file.Goals.{in-Finished, in_default}

pub loop-p-init : goal.loop-p-init
loop-p-init c =
    let m = c.args.m.now in
    let none = joined_none_yet (part_of m) in
    record {
      place = ap (λ (l : List ℕ). 3 + length l) (sym none);
      there =
          ap (λ (y : List ℕ). y ++ drop 3 c.args.buffer.now) c.copy_from_slice.ensures.after
          ∙ ap (λ (l : List ℕ). over (77 ∷ 78 ∷ m.n ∷ l) c.args.buffer.now) (sym none);
    }

pub put_record-at-requires-clause-room : goal.put_record-at-requires-clause-room
unfolding machine_bytes
put_record-at-requires-clause-room c =
    let m = c.args.m.now in
    let l = c.loop-p in
    let part = ap (stage_bytes m.values l.p) c.in-Finished.is in
    let room = joined_room (part_of m) l.p (grind (arith, common_steps)) c.loop-p-test.true in
    let all = c.requires.room in
    grind (arith, common_steps)

pub loop-p-preserved : goal.loop-p-preserved
loop-p-preserved c =
    let m = c.args.m.now in
    let l = c.loop-p in
    let more = joined_one_more (part_of m) l.p (grind (arith, common_steps)) in
    elim c.match-m-p.branch [
      | in-Finished w ↦ record {
        place = grind (arith, common_steps, joined_one_more);
        there =
            w.buffer-is
            ∙ over_rest (77 ∷ 78 ∷ m.n ∷ joined 1 (l.p - 1) (part_of m)) (part_of m l.p) l.buffer c.args.buffer.now _ l.at _
            (omega (arith, l.invariant.place)) l.invariant.there refl (grind (arith, common_steps))
            ∙ ap (λ (J : List ℕ). over (77 ∷ 78 ∷ m.n ∷ J) c.args.buffer.now) (sym more);
      }
      | in_default w ↦ record { place = grind (arith, common_steps); there = grind (arith, common_steps) }
    ]
