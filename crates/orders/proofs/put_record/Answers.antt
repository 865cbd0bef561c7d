-- `orders::put_record` meets its contract: the mark and the process, the set, the values.
use Rattle.std.proofs.Common.{[], ◌∷◌, ◌++◌, List, ℕ, drop, ap, refl, ◌∙◌}
use Rattle.formats.specs.Records.{word_bytes}
use Rattle.text.specs.Parts.{joined}
use Rattle.orders.specs.Coded.Places.{member_bytes, record_bytes}
use Rattle.orders.proofs.Places.{over_part, over_rest}
use Rattle.orders.proofs.put_record.Goals as goal

pub returns-clause-buffer_after : goal.returns-clause-buffer_after
unfolding record_bytes
returns-clause-buffer_after c =
    let a = c.args in
    let mark = 86 ∷ 87 ∷ a.p ∷ [] in
    let marked = ap (λ (y : List ℕ). y ++ drop 3 a.buffer.now) c.copy_from_slice.ensures.after in
    let named = over_part mark (word_bytes a.view) _ a.buffer.now _ 3 4 refl marked refl (c.copy_from_slice-2.ensures.after ∙ c.to_le_bytes.ensures) in
    over_rest
    (mark ++ word_bytes a.view)
    (joined 1 32 (member_bytes a.values.now a.level a.view))
    _ a.buffer.now _ 7 _ refl named refl c.put_values.ensures.buffer_after
