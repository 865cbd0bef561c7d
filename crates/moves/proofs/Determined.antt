-- Each public function's contract determines its answer: two answers that meet it are equal.
use Rattle.sets.proofs.Determined.{Determined, one_value}
use Rattle.moves.proofs.find.Kinds as find-kinds
use Rattle.moves.proofs.find.Reads as find-reads
use Rattle.moves.proofs.find_running.Kinds as find-running-kinds
use Rattle.moves.proofs.find_running.Reads as find-running-reads
use Rattle.moves.proofs.next_move.Kinds as next-move-kinds
use Rattle.moves.proofs.next_move.Reads as next-move-reads

pub find_determined : Determined 1 find-kinds.ps find-kinds.r find-reads.Post
find_determined κs a x y e e' = one_value

pub find_running_determined : Determined 1 find-running-kinds.ps find-running-kinds.r find-running-reads.Post
find_running_determined κs a x y e e' = one_value

pub next_move_determined : Determined 1 next-move-kinds.ps next-move-kinds.r next-move-reads.Post
next_move_determined κs a x y e e' = one_value
