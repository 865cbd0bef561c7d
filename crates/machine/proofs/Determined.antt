-- Each public function's contract determines its answer (document 01, "How much a contract must say"): two answers that meet it are equal.
use Rattle.sets.proofs.Determined.{Determined, one_value}
use Rattle.machine.proofs.new.Kinds as new-kinds
use Rattle.machine.proofs.new.Reads as new-reads
use Rattle.machine.proofs.enter.Kinds as enter-kinds
use Rattle.machine.proofs.enter.Reads as enter-reads
use Rattle.machine.proofs.step.Kinds as step-kinds
use Rattle.machine.proofs.step.Reads as step-reads
use Rattle.machine.proofs.crash.Kinds as crash-kinds
use Rattle.machine.proofs.crash.Reads as crash-reads

pub new_determined : Determined 0 new-kinds.ps new-kinds.r new-reads.Post
new_determined κs a x y e e' = one_value

pub enter_determined : Determined 0 enter-kinds.ps enter-kinds.r enter-reads.Post
enter_determined κs a x y e e' = one_value

pub step_determined : Determined 0 step-kinds.ps step-kinds.r step-reads.Post
step_determined κs a x y e e' = one_value

pub crash_determined : Determined 0 crash-kinds.ps crash-kinds.r crash-reads.Post
crash_determined κs a x y e e' = one_value
