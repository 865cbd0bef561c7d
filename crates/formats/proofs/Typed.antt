-- What the declared type says of the slice that a function is handed: it holds bytes, so it is a file, and what is promised of every file is promised
-- of it.
use Prim.Native.Nat.{ℕ}
use mathlib.Core.List.{List, [], ◌∷◌}
use seplogic.Ra.Ura.{Ura}
use lib.Dec.{lit<}
use mir.Syntax.{w8}
use base.Logic.{ent, sep, guard}
use base.Fml.{Lft, Share, flft}
use types.Logic.{Logic, sem}
use types.Kit.{◌$◌, !, ‵, ◌⊛◌, qed, use2, given, learn, check, split, later, await, updating, now, done}
use borrow.Table.Referent.{f_int}
use borrow.Rule.Slice.Shared.{OwnH}
use borrow.Rule.Slice.Know.{AllWt, Fit, fit_at, shs_known}
use Rattle.formats.specs.Promises.{Bytes, File}

-- what the proof of a function is given of a `&[u8]` or a `&mut [u8]` that the function is handed (`type_inv`)
abbrev pub IsSlice : List ℕ → Type 0
IsSlice s = Fit (f_int w8) 0 s

pub slice_bytes : (s : List ℕ) → IsSlice s → Bytes s
slice_bytes s g i = (g i).fits

pub slice_file : (s : List ℕ) → IsSlice s → File
slice_file s g = record { content = s; bytes = slice_bytes s g }

all_bytes : (s : List ℕ) → AllWt (f_int w8) s → Bytes s
all_bytes s a = slice_bytes s (fit_at (f_int w8) 0 (record { fits = lit< tt }) s a)

-- It is given because owning a `&[u8]` says so while its lifetime lasts, on every memory: what is owned can be had with `Bytes`.
module _ {M : Type 1} {𝓤 : Ura M} (𝓛 : Logic 𝓤) (κ : Lft) (q : Share) (b o : ℕ) (s : List ℕ) where
  open 𝓛 use {H, A}

  pub shared_slice_holds-bytes : ent 𝓤 (sep 𝓤 (sem 𝓛 (OwnH 𝓛 (f_int w8) κ q b o s)) (A.lft κ q))
      (H.⇛ (guard 𝓤 (Bytes s) (sep 𝓤 (sem 𝓛 (OwnH 𝓛 (f_int w8) κ q b o s)) (A.lft κ q))))
  shared_slice_holds-bytes =
      qed 𝓛 (‵ (OwnH 𝓛 (f_int w8) κ q b o s) ∷ ‵ (flft κ q) ∷ [])
      {P = H.⇛ (guard 𝓤 (Bytes s) (sep 𝓤 (sem 𝓛 (OwnH 𝓛 (f_int w8) κ q b o s)) (A.lft κ q)))} (
      updating ! $ use2 𝓛 (later (given (AllWt (f_int w8) s) (‵ (OwnH 𝓛 (f_int w8) κ q b o s) ⊛ ‵ (flft κ q))))
      (shs_known 𝓛 (f_int w8) κ q b o s) $ await ! tt $ learn ! (λ a. now ! $ check ! (all_bytes s a) $ split ! $ done !))
