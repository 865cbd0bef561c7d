-- What the declared types say of a machine that a function is handed: its arrays' lengths, and that its sets and values are 32-bit numbers.
use mathlib.Core.Path.{◌≡◌}
use mathlib.Core.List.{List, [], ◌∷◌}
use Prim.Native.Nat.{ℕ, zero, suc, ◌-◌, ◌^◌, ◌<◌}
use native.Mathlib.Omega.{arith}
use lib.Dec.{lit<}
use lib.ListN.{length, get_or}
use mir.Syntax.{w32}
use mir.Val.{Val}
use denote.Array.{each}
use denote.Shadow.{shadow}
use denote.Laws.{Is}
use denote.Struct.Declared.{row}
use denote.Struct.Laws.{val}
use borrow.Author.Rules.{elem_Fits}
use Rattle.rules.specs.declared.Machine.{Machine}
use Rattle.rules.specs.declared.Stage.{Stage}
use Rattle.rules.specs.declared.Stage.TheVariants.{Absent, Running, Finished, Crashed}
use Rattle.rules.specs.declared.Process.{Process}
use Rattle.rules.specs.Stands.{nobody}
use Rattle.rules.specs.State.{found_of}
use Rattle.rules.specs.Shape.{Held, Words}
use Rattle.rules.specs.contracts.Stage as Stage-row
use Rattle.rules.specs.contracts.Process as Process-row
use Rattle.rules.specs.contracts.Machine.{the_type}
use Rattle.rules.proofs.Machine.TheLaws.{the_laws}

-- m is a value of the declared type
abbrev pub IsMachine : Machine → Type 0
IsMachine m = Is (row the_type) m (val the_type the_laws m ∷ [])

pub filled_fits : (m : Machine) → IsMachine m → (k : ℕ) → get_or m.filled k 0 < 2 ^ 32
filled_fits m g k = (elem_Fits w32 w32 m.filled g.1.1.1.0.0 k g.1.1.1.0.1.1 tt).fits

pub rows_long : (m : Machine) → IsMachine m → length m.filled ≡ 32
rows_long m g = g.1.1.1.0.1.0.1

pub cells_long : (m : Machine) → IsMachine m → length m.values ≡ 1024
cells_long m g = g.1.1.1.1.0.1.0.1

pub slots_long : (m : Machine) → IsMachine m → length m.processes ≡ 32
slots_long m g = g.1.1.1.1.1.0.1.0.1

-- what a process found is a 32-bit set
stage_fits : (s : Stage) (vs : List Val) → Is Stage-row.the_row s vs → found_of s < 2 ^ 32
stage_fits Absent vs g = lit< tt
stage_fits (Running x k f) vs g = omega arith
stage_fits (Finished x w) vs g = omega arith
stage_fits (Crashed x k f) vs g = omega arith

found-fits : (ps : List Process) (us : List Val) → shadow (each (Process-row.the_row).Denot (Process-row.the_row).own_val ps us)
    → (k : ℕ) → found_of (get_or ps k nobody).stage < 2 ^ 32
found-fits [] us g k = lit< tt
found-fits (P ∷ ps) [] g k = absurd g
found-fits (P ∷ ps) (u ∷ us) g zero = stage_fits P.stage g.0.0.0 g.0.1.1.0
found-fits (P ∷ ps) (u ∷ us) g (suc k) = found-fits ps us g.1 k

pub machine_held : (m : Machine) → IsMachine m → Held m
machine_held m g = record {
  rows = rows_long m g;
  cells = cells_long m g;
  slots = slots_long m g;
  row = λ x. filled_fits m g (x - 1);
  found = λ i. found-fits m.processes g.1.1.1.1.1.0.0 g.1.1.1.1.1.0.1.1 (i - 1);
}

-- so is what it deposited
value_fits : (ps : List Process) (us : List Val) → shadow (each (Process-row.the_row).Denot (Process-row.the_row).own_val ps us)
    → (k : ℕ) → (get_or ps k nobody).value < 2 ^ 32
value_fits [] us g k = lit< tt
value_fits (P ∷ ps) [] g k = absurd g
value_fits (P ∷ ps) (u ∷ us) g zero = omega (arith, g.0.1.1.1)
value_fits (P ∷ ps) (u ∷ us) g (suc k) = value_fits ps us g.1 k

pub machine_words : (m : Machine) → IsMachine m → Words m
machine_words m g i lo hi = value_fits m.processes g.1.1.1.1.1.0.0 g.1.1.1.1.1.0.1.1 (i - 1)
