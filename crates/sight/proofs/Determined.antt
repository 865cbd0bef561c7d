-- Each public function's contract determines its answer (document 01, "How much a contract must say"): two answers that meet it are equal.
use Rattle.sets.proofs.Determined.{Determined, one_value}
use Rattle.sight.proofs.look.Kinds as look-kinds
use Rattle.sight.proofs.look.Reads as look-reads

pub look_determined : Determined 0 look-kinds.ps look-kinds.r look-reads.Post
look_determined κs a x y e e' = one_value
