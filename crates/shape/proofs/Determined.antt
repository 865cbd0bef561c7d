-- Each public function's contract determines its answer: two answers that meet it are equal.
use Rattle.sets.proofs.Determined.{Determined, one_value}
use Rattle.shape.proofs.shaped.Kinds as shaped-kinds
use Rattle.shape.proofs.shaped.Reads as shaped-reads

pub shaped_determined : Determined 1 shaped-kinds.ps shaped-kinds.r shaped-reads.Post
shaped_determined κs a x y e e' = one_value
