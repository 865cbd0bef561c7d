-- Each public function's contract determines its answer (document 01, "How much a contract must say"): two answers that meet it are equal.
use Rattle.sets.proofs.Determined.{Determined, one_value}
use Rattle.checker.proofs.check.Kinds as check-kinds
use Rattle.checker.proofs.check.Reads as check-reads
use Rattle.checker.proofs.verdict.Kinds as verdict-kinds
use Rattle.checker.proofs.verdict.Reads as verdict-reads

pub check_determined : Determined 1 check-kinds.ps check-kinds.r check-reads.Post
check_determined κs a x y e e' = one_value

pub verdict_determined : Determined 1 verdict-kinds.ps verdict-kinds.r verdict-reads.Post
verdict_determined κs a x y e e' = one_value
