-- `orders::file_len` meets its contract: a record is counted after those below it.
use Rattle.std.proofs.Common.{arith}
use Rattle.std.proofs.lemmas.Grind.{common_steps}
use Rattle.orders.proofs.Places.{joined_one_more, record_bytes_length, size_le}
use Rattle.orders.proofs.file_len.Goals as goal
use Rattle.orders.proofs.file_len.Goals.{in-Finished, in_default}

pub loop-p-preserved : goal.loop-p-preserved
loop-p-preserved c =
    elim c.match-m-p.branch [
      | in-Finished w ↦ record {
        few = grind (arith, common_steps, size_le);
        all = grind (arith, common_steps, joined_one_more, record_bytes_length);
      }
      | in_default w ↦ record { few = grind (arith, common_steps); all = grind (arith, common_steps, joined_one_more) }
    ]
