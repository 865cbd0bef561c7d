-- Each public function's contract determines its answer (document 01, "How much a contract must say"): two answers that meet it are equal.
use Rattle.sets.proofs.Determined.{Determined, one_value}
use Rattle.alone.proofs.finish.Kinds as finish-kinds
use Rattle.alone.proofs.finish.Reads as finish-reads

pub finish_determined : Determined 0 finish-kinds.ps finish-kinds.r finish-reads.Post
finish_determined κs a x y e e' = one_value
