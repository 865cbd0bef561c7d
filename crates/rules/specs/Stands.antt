-- What stands where in a machine: document 01's rules 1 and 2. A process and a row are numbered from 1.
use Rattle.std.specs.Prelude.{ℕ, ◌+◌, ◌-◌, ◌*◌, Bool, true, false, List, get_or}
use Rattle.rules.specs.declared.Stage.{Stage}
use Rattle.rules.specs.declared.Stage.TheVariants.{Absent, Running, Finished, Crashed}
use Rattle.rules.specs.declared.Process.{Process}
use Rattle.rules.specs.declared.Machine.{Machine}

-- a process that has not entered
abbrev pub nobody : Process
nobody = record { stage = Absent; value = 0 }

-- process p of 1 to 32
abbrev pub process_of : Machine → ℕ → Process
process_of m p = get_or m.processes (p - 1) nobody

abbrev pub stage_of : Machine → ℕ → Stage
stage_of m p = (process_of m p).stage

abbrev pub value_of : Machine → ℕ → ℕ
value_of m p = (process_of m p).value

-- rule 1: the set of processes whose register in row x is filled, and what row x, register i holds (0 beside an empty one)
abbrev pub row_in : List ℕ → ℕ → ℕ
row_in filled x = get_or filled (x - 1) 0

abbrev pub row_of : Machine → ℕ → ℕ
row_of m = row_in m.filled

abbrev pub cell_in : List ℕ → ℕ → ℕ → ℕ
cell_in values x i = get_or values (32 * (x - 1) + (i - 1)) 0

abbrev pub cell_of : Machine → ℕ → ℕ → ℕ
cell_of m = cell_in m.values

-- rule 2: what a stage says; a finished process has made n + 1 accesses at its level, and found its view there
abbrev pub entered : Stage → Bool
entered Absent = false
entered (Running x k f) = true
entered (Finished x w) = true
entered (Crashed x k f) = true
