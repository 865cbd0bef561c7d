-- `report::partaking` meets its contract.
use Rattle.std.proofs.Common.{rules, arith, ◌≡◌, ◌∙◌, take, length-take}
use Rattle.std.specs.List.{count_by}
use Rattle.rules.specs.declared.Process.{Process}
use Rattle.rules.specs.Stands.{entered}
use Rattle.report.proofs.Processes.{partakers}
use Rattle.report.proofs.partaking.Goals as goal

pub returns : goal.returns
returns c =
    let m = c.args.m.now in
    let e : c.count.result ≡ count_by (λ (p : Process). entered p.stage) (take m.n m.processes) = search rules in
    e ∙ partakers m (omega (arith, length-take m.n m.processes))
