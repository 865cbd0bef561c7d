-- Each public function's contract determines its answer (document 01, "How much a contract must say"): two answers that meet it are equal.
use Rattle.sets.proofs.Determined.{Determined, one_value}
use Rattle.reader.proofs.read.Kinds as read-kinds
use Rattle.reader.proofs.read.Reads as read-reads

pub read_determined : Determined 1 read-kinds.ps read-kinds.r read-reads.Post
read_determined κs a x y e e' = one_value
