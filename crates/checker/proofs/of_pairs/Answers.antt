-- `checker::of_pairs` meets its contract: the closure answers what each process above i makes with it.
use Rattle.std.proofs.Common.{suc, ◌-◌, ◌∙◌, arith, rules}
use Rattle.findings.specs.Findings.{of_pair}
use Rattle.checker.proofs.Chains.{inclusive, finds}
use Rattle.checker.proofs.of_pairs.Goals as goal

pub returns : goal.returns
returns c =
    let range = c.new.ensures in
    let i = c.args.i in
    let counts = inclusive (suc i) (32 - i) range.exhausted (range.start ∙ omega arith) (omega (arith, range.end, c.requires)) in
    finds (suc i) (32 - i) counts (of_pair c.args.v.now i)
    (λ x q f k. search rules) (λ x q k. search rules) c.find_map.result c.find_map.ensures.runs
