-- Each public function's contract determines its answer and every byte of the lent buffer (document 01, "How much a contract must say").
use mathlib.Core.Path.{◌≡◌, sym, ◌∙◌}
use contract.Lifetimes.{Lfts}
use denote.Triple.Clauses.{AtExit}
use borrow.Fn.Kinds.{Dens, res_t, ended_of}
use Rattle.report.proofs.replay_text.Kinds as replay-kinds
use Rattle.report.proofs.replay_text.Reads as replay-reads
use Rattle.report.proofs.verdict_text.Kinds as verdict-kinds
use Rattle.report.proofs.verdict_text.Reads as verdict-reads

pub replay_text_determined : (κs : Lfts 2) (a : Dens κs replay-kinds.ps) (x y : (res_t replay-kinds.r κs).Denot)
    (e e' : AtExit (ended_of 2 replay-kinds.ps replay-kinds.r) κs)
    → replay-reads.Post κs a x e → replay-reads.Post κs a y e' → (x ≡ y) × (e.1.0.now ≡ e'.1.0.now)
replay_text_determined κs a x y e e' p q = (p.0.0 ∙ sym q.0.0, p.1 ∙ sym q.1)

pub verdict_text_determined : (κs : Lfts 2) (a : Dens κs verdict-kinds.ps) (x y : (res_t verdict-kinds.r κs).Denot)
    (e e' : AtExit (ended_of 2 verdict-kinds.ps verdict-kinds.r) κs)
    → verdict-reads.Post κs a x e → verdict-reads.Post κs a y e' → (x ≡ y) × (e.1.0.now ≡ e'.1.0.now)
verdict_text_determined κs a x y e e' p q = (p.0.0 ∙ sym q.0.0, p.1 ∙ sym q.1)
