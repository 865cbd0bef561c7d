-- Each public function's contract determines its answer, and the machine that `slot` leaves: two answers that meet it are equal.
-- The contracts are the source's own, as the checker has them, and not copies.
use mathlib.Core.Path.{◌≡◌}
use seplogic.Ra.Ura.{Ura}
use base.Logic.{SProp, ent, sep, fst∗, snd∗}
use prog.Memory.{Memory}
use prog.Routine.{Routine}
use types.Logic.{Logic}
use contract.Lifetimes.{Lfts}
use contract.Monad.{Fun, fact, fact_i, fact_use}
use denote.Triple.Entry.{Args}
use denote.Triple.Clauses.{AtExit}
use Rattle.sets.proofs.Determined.{Determined, one_value}
use Rattle.rules.specs.declared.Answer.{Answer}
use Rattle.executor.specs.contracts.slot as slot
use Rattle.executor.proofs.in_slot.Kinds as in-slot-kinds
use Rattle.executor.proofs.in_slot.Reads as in-slot-reads

-- `slot`'s contract is taken as it stands in the logic: what it ensures of two answers and of the references at exit entails that the answers are
-- equal, and the machines at exit too.
module _ {M : Type 1} {𝓤 : Ura M} (𝓛 : Logic 𝓤) (mem : Memory → SProp 𝓤) (run : Routine → Fun 𝓤)
    (κs : Lfts 1) (a : Args slot.signature κs) where
  abbrev Ensures : Answer → AtExit slot.ended κs → SProp 𝓤
  Ensures r e = (slot.clauses 𝓛 mem run κs a).ensures tt r e

  pub slot_determined : (x y : Answer) (e e' : AtExit slot.ended κs)
      → ent 𝓤 (sep 𝓤 (Ensures x e) (Ensures y e')) (fact 𝓤 ((x ≡ y) × (e.0.now ≡ e'.0.now)))
  slot_determined x y e e' =
      fact_use 𝓤 _ (fst∗ 𝓤 (Ensures x e) (Ensures y e')) (λ p.
      fact_use 𝓤 _ (snd∗ 𝓤 (Ensures x e) (Ensures y e')) (λ q. fact_i 𝓤 _ _ (one_value p.0 q.0, one_value p.1 q.1)))

pub in_slot_determined : Determined 0 in-slot-kinds.ps in-slot-kinds.r in-slot-reads.Post
in_slot_determined κs a x y e e' = one_value
