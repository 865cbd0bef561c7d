-- `report::put_process` meets its contract: the line has at most 485 bytes, by the types of what a look answers.
use Rattle.std.proofs.Common.{arith, rules, length, ap, length-append}
use Rattle.report.proofs.Fits.{sight_length}
use Rattle.report.proofs.put_process.Goals as goal

pub put_sight-requires : goal.put_sight-requires
put_sight-requires g c =
    let h = sight_length c.args.i c.look.result (omega arith) (omega arith) (omega arith) (λ j. search rules) in
    search rules

pub returns-clause-short : goal.returns-clause-short
returns-clause-short g c =
    let h = sight_length c.args.i c.look.result (omega arith) (omega arith) (omega arith) (λ j. search rules) in
    grind (arith, ap length c.put_sight.ensures, length-append)
