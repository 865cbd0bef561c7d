-- The lines of the processes, one after another, and the participants, counted one after another.
use Prim.Native.Nat.{ℕ, zero, suc, ◌+◌, ◌-◌, ◌*◌, ◌≤◌}
use mathlib.Core.Bool.{Bool, true, false, ◌&&◌, cond}
use mathlib.Core.Path.{◌≡◌, refl, ap, ap₂, ◌∙◌}
use mathlib.Core.List.{List}
use native.Mathlib.Omega.{arith}
use lib.ListN.{length, get_or, take, drop}
use borrow.Author.Tests.{le-leb}
use borrow.Rule.Slice.PartMut.{put_mid}
use Rattle.std.specs.List.{count_by}
use Rattle.std.proofs.lemmas.List.Sums.{count_by_more_yes, count_by_more_no}
use Rattle.sets.specs.Members.{count, tick}
use Rattle.rules.specs.declared.Machine.{Machine}
use Rattle.rules.specs.declared.Process.{Process}
use Rattle.rules.specs.declared.Answer.TheVariants.{NoProcess, NotShaped}
use Rattle.rules.specs.Stands.{nobody, stage_of, entered}
use Rattle.rules.specs.Shape.{Shaped}
use Rattle.rules.specs.Calls.{looked, unseen, look_of}
use Rattle.rules.proofs.Laws.Shape.{record_shaped}
use Rattle.text.specs.Parts.{joined}
use Rattle.text.specs.Stores.{over}
use Rattle.text.proofs.Parts.{joined_more}
use Rattle.output.specs.Lines.{sight_line, process_line, partaking}
use Rattle.report.proofs.Pages.{Handed, handed_more}

-- a look at a process of a well shaped machine shows what its record says
pub look_line : (m : Machine) (i : ℕ) → Shaped m → 1 ≤ i → i ≤ m.n → sight_line i (look_of m i) ≡ process_line m i
unfolding look_of process_line
look_line m i s l h =
    ap₂ (λ (t u : Bool). sight_line i (cond t (cond u (looked m (stage_of m i)) (unseen NoProcess)) (unseen NotShaped))) (record_shaped m s)
    (ap₂ (λ (t u : Bool). t && u) (le-leb 1 i l) (le-leb i m.n h))

-- the lines of the processes before i are handed over, each with at most 485 bytes
pub record Written (m : Machine) (out₀ out : List ℕ) (at i : ℕ) : Type 0 where
  pub lines : Handed out₀ (joined 1 (i - 1) (process_line m)) out at
  pub short : at ≤ 485 * (i - 1)

pub none_written : (m : Machine) (out : List ℕ) → Written m out out 0 1
unfolding joined
none_written m out = record { lines = record { lies = refl; ends = refl }; short = omega arith }

pub one_written : {m : Machine} {out₀ out page z : List ℕ} {at i k n : ℕ} → 1 ≤ i → Written m out₀ out at i → page ≡ process_line m i → n ≤ 485
    → k ≡ length out - at → n ≡ length page → z ≡ over page (take k (drop at out)) → Written m out₀ (put_mid at k out z) (at + n) (i + 1)
one_written {m} {out₀} {out} {page} {z} {at} {i} {k} {n} h w e l d q o =
    let s : i + 1 - 1 ≡ suc (i - 1) = omega arith in
    let j : suc (i - 1) ≡ i = omega arith in
    record {
      lines = rw (s, joined_more (i - 1) (process_line m), j, ← e) (handed_more page w.lines d q o);
      short = omega (arith, w.short);
    }

-- those of the first k processes that pass a test
counted : (p : Process → Bool) (xs : List Process) (k : ℕ) → k ≤ length xs
    → count_by p (take k xs) ≡ count (λ i. p (get_or xs (i - 1) nobody)) k
unfolding count
counted p xs zero h = refl
counted p xs (suc k) h = go (p (get_or xs (suc k - 1) nobody)) refl (counted p xs k (omega arith))
  where
    one_more : count_by p (take (suc k) xs) ≡ count_by p (take (k + 1) xs)
    one_more = let e : suc k ≡ k + 1 = omega arith in ap (λ (j : ℕ). count_by p (take j xs)) e

    here : {t : Bool} → p (get_or xs (suc k - 1) nobody) ≡ t → p (get_or xs k nobody) ≡ t
    here e = let j : k ≡ suc k - 1 = omega arith in ap (λ (i : ℕ). p (get_or xs i nobody)) j ∙ e

    go : (t : Bool) → p (get_or xs (suc k - 1) nobody) ≡ t → count_by p (take k xs) ≡ count (λ i. p (get_or xs (i - 1) nobody)) k
        → count_by p (take (suc k) xs) ≡ tick (p (get_or xs (suc k - 1) nobody)) + count (λ i. p (get_or xs (i - 1) nobody)) k
    go true e before = omega (arith, one_more, count_by_more_yes p xs k nobody h (here e), ap tick e)
    go false e before = omega (arith, one_more, count_by_more_no p xs k nobody h (here e), ap tick e)

pub partakers : (m : Machine) → m.n ≤ length m.processes → count_by (λ (p : Process). entered p.stage) (take m.n m.processes) ≡ partaking m
unfolding partaking
partakers m h = counted (λ (p : Process). entered p.stage) m.processes m.n h
