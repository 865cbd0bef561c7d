-- What stands where in a machine: the words of document 01's rules 1 to 7. A process and a row are numbered from 1.
use Rattle.std.specs.Prelude.{ℕ, ◌+◌, ◌-◌, ◌*◌, Bool, true, false, ◌&&◌, ◌||◌, ltb, eqb, set}
use Rattle.sets.specs.Sets.{plus}
use Rattle.rules.specs.declared.Stage.{Stage}
use Rattle.rules.specs.declared.Stage.TheVariants.{Absent, Running, Finished, Crashed}
use Rattle.rules.specs.declared.Process.{Process}
use Rattle.rules.specs.declared.Machine.{Machine}
use Rattle.rules.specs.Stands.{value_of, row_of, entered}

abbrev pub finished : Stage → Bool
finished Absent = false
finished (Running x k f) = false
finished (Finished x w) = true
finished (Crashed x k f) = false

abbrev pub crashed : Stage → Bool
crashed Absent = false
crashed (Running x k f) = false
crashed (Finished x w) = false
crashed (Crashed x k f) = true

abbrev pub level_of : Stage → ℕ
level_of Absent = 0
level_of (Running x k f) = x
level_of (Finished x w) = x
level_of (Crashed x k f) = x

abbrev pub made_of : ℕ → Stage → ℕ
made_of n Absent = 0
made_of n (Running x k f) = k
made_of n (Finished x w) = n + 1
made_of n (Crashed x k f) = k

abbrev pub found_of : Stage → ℕ
found_of Absent = 0
found_of (Running x k f) = f
found_of (Finished x w) = w
found_of (Crashed x k f) = f

-- rule 7: the accesses that a process has made
abbrev pub accesses_of : ℕ → Stage → ℕ
accesses_of n Absent = 0
accesses_of n (Running x k f) = (n + 1) * (n - x) + k
accesses_of n (Finished x w) = (n + 1) * (n - x) + (n + 1)
accesses_of n (Crashed x k f) = (n + 1) * (n - x) + k

-- a process has written row x: it has entered and has level below x, or level x with at least one access there
unfoldable pub wrote : ℕ → Stage → ℕ → Bool
wrote n s x = entered s && (ltb (level_of s) x || (eqb (level_of s) x && ltb 0 (made_of n s)))

-- the machine with process p as P
abbrev pub with_process : Machine → ℕ → Process → Machine
with_process m p P = record { n = m.n; filled = m.filled; values = m.values; processes = set m.processes (p - 1) P }

-- the machine with process p at stage s
abbrev pub with_stage : Machine → ℕ → Stage → Machine
with_stage m p s = with_process m p (record { stage = s; value = value_of m p })

-- the machine with v written to row x, register p
abbrev pub with_register : Machine → ℕ → ℕ → ℕ → Machine
with_register m x p v =
    record { n = m.n; filled = set m.filled (x - 1) (plus (row_of m x) p); values = set m.values (32 * (x - 1) + (p - 1)) v; processes = m.processes }
