-- Each public function's contract determines its answer and what it leaves of a lent buffer (document 01, "How much a contract must say").
use mathlib.Core.Path.{◌≡◌, sym, ◌∙◌}
use contract.Lifetimes.{Lfts}
use denote.Triple.Clauses.{AtExit}
use borrow.Fn.Kinds.{Dens, res_t, ended_of}
use Rattle.sets.proofs.Determined.{Determined, one_value}
use Rattle.orders.proofs.replay.Kinds as replay-kinds
use Rattle.orders.proofs.replay.Reads as replay-reads
use Rattle.orders.proofs.write_views.Kinds as write-kinds
use Rattle.orders.proofs.write_views.Reads as write-reads

pub replay_determined : Determined 1 replay-kinds.ps replay-kinds.r replay-reads.Post
replay_determined κs a x y e e' = one_value

-- of the writer both the answer and every byte of the buffer
pub write_views_determined : (κs : Lfts 1) (a : Dens κs write-kinds.ps) (x y : (res_t write-kinds.r κs).Denot)
    (e e' : AtExit (ended_of 1 write-kinds.ps write-kinds.r) κs)
    → write-reads.Post κs a x e → write-reads.Post κs a y e' → (x ≡ y) × (e.1.0.now ≡ e'.1.0.now)
write_views_determined κs a x y e e' p q = (p.0 ∙ sym q.0, p.1 ∙ sym q.1)
