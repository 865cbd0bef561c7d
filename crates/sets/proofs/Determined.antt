-- Each public function's contract determines its answer (document 01, "How much a contract must say"): two answers that meet it are equal.
-- The contracts are the source's own, as the checker reads them there (`Reads.Post`), and not copies.
use mathlib.Core.Path.{◌≡◌, sym, ◌∙◌}
use mathlib.Core.List.{List}
use Prim.Native.Nat.{ℕ}
use contract.Lifetimes.{Lfts}
use denote.Triple.Clauses.{AtExit}
use borrow.Fn.Kinds.{ParamKind, ResultKind, Dens, Out, res_t, ended_of}
use Rattle.sets.proofs.has.Kinds as has-kinds
use Rattle.sets.proofs.has.Reads as has-reads
use Rattle.sets.proofs.plus.Kinds as plus-kinds
use Rattle.sets.proofs.plus.Reads as plus-reads
use Rattle.sets.proofs.first.Kinds as first-kinds
use Rattle.sets.proofs.first.Reads as first_reads
use Rattle.sets.proofs.within.Kinds as within-kinds
use Rattle.sets.proofs.within.Reads as within-reads
use Rattle.sets.proofs.size.Kinds as size-kinds
use Rattle.sets.proofs.size.Reads as size-reads
use Rattle.sets.proofs.upwards.Kinds as upwards-kinds
use Rattle.sets.proofs.upwards.Reads as upwards-reads

-- two answers to the same arguments that meet a contract are equal
abbrev pub Determined : (n : ℕ) (ps : List (ParamKind n)) (r : ResultKind n) → Out n ps r → Type 0
Determined n ps r post =
    (κs : Lfts n) (a : Dens κs ps) (x y : (res_t r κs).Denot) (e e' : AtExit (ended_of n ps r) κs) → post κs a x e → post κs a y e' → x ≡ y

pub one_value : {A : Type 0} {e x y : A} → x ≡ e → y ≡ e → x ≡ y
one_value p q = p ∙ sym q

pub has_determined : Determined 0 has-kinds.ps has-kinds.r has-reads.Post
has_determined κs a x y e e' = one_value

pub plus_determined : Determined 0 plus-kinds.ps plus-kinds.r plus-reads.Post
plus_determined κs a x y e e' = one_value

pub first_determined : Determined 0 first-kinds.ps first-kinds.r first_reads.Post
first_determined κs a x y e e' = one_value

pub within_determined : Determined 0 within-kinds.ps within-kinds.r within-reads.Post
within_determined κs a x y e e' = one_value

pub size_determined : Determined 0 size-kinds.ps size-kinds.r size-reads.Post
size_determined κs a x y e e' = one_value

pub upwards_determined : Determined 0 upwards-kinds.ps upwards-kinds.r upwards-reads.Post
upwards_determined κs a x y e e' = one_value
