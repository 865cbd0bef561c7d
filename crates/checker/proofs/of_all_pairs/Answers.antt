-- `checker::of_all_pairs` meets its contract: the closure answers what each process makes with those above it.
use Rattle.std.proofs.Common.{arith, rules}
use Rattle.findings.specs.Findings.{of_pairs}
use Rattle.checker.proofs.Chains.{inclusive, finds}
use Rattle.checker.proofs.of_all_pairs.Goals as goal

pub returns : goal.returns
returns c =
    let range = c.new.ensures in
    let counts = inclusive 1 32 range.exhausted range.start (omega (arith, range.end)) in
    finds 1 32 counts (of_pairs c.args.v.now) (λ x q f k. search rules) (λ x q k. search rules)
    c.find_map.result c.find_map.ensures.runs
