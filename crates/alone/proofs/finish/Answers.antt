-- `finish` meets its contract: a running process descends, and lands or is stuck.
use Rattle.std.proofs.Common.{ap, ◌∙◌}
use Rattle.rules.specs.declared.Machine.{Machine}
use Rattle.rules.specs.State.{with_process}
use Rattle.rules.specs.Calls.{done}
use Rattle.rules.proofs.Typed.{machine_held}
use Rattle.alone.proofs.Descent.{finished_at, finish_lands, finish_sticks}
use Rattle.alone.proofs.finish.Goals as goal

pub returns-in-Some : goal.returns-in-Some
returns-in-Some c =
    let m = c.args.m in
    let r = c.in-Ok.runner in
    let l = c.in-Some.field-0 in
    ap (λ (M : Machine). done (with_process M c.args.p (finished_at l r.value))) c.descend.ensures.leaves
    ∙ finish_lands m (machine_held m c.well_formed.0) c.args.p r c.in-Ok.ensures l c.in-Some.ensures.lands

pub returns-in-None : goal.returns-in-None
returns-in-None c =
    finish_sticks c.args.m (machine_held c.args.m c.well_formed.0) c.args.p c.in-Ok.runner c.in-Ok.ensures c.in-None.ensures.lands
