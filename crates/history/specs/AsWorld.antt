-- A machine as a world of Fig. 8.16: its registers, and what of the figure each of its processes has yet to do.
use Rattle.std.specs.Prelude.{false, ◌&&◌, cond, List, [], ◌∷◌, ◌++◌, ℕ, zero, suc, ◌-◌}
use Rattle.sets.specs.Members.{has}
use Rattle.rules.specs.declared.Stage.{Stage}
use Rattle.rules.specs.declared.Stage.TheVariants.{Absent, Running, Finished, Crashed}
use Rattle.rules.specs.declared.Machine.{Machine}
use Rattle.rules.specs.Stands.{stage_of, value_of, row_of, cell_of, entered}
use Rattle.world.specs.Programs.{Register, empty, holds, returns, halted}
use Rattle.world.specs.World.{World, among}
use Rattle.history.specs.Figure.{Address, Pair, Code, collect, pairs, judge, rec_update_snapshot}

-- the registers of a machine
abbrev pub register : Machine → ℕ → ℕ → Register
register m x i = cond (has (row_of m x) i) (holds (cell_of m x i)) empty

-- reg[1] to reg[k] of a process that has read them in row x, and found the set f filled there
unfoldable pub readings : Machine → ℕ → ℕ → ℕ → List Register
readings m x f zero = []
readings m x f (suc k) = readings m x f k ++ (cond (has f (suc k)) (holds (cell_of m x (suc k))) empty ∷ [])

-- What process i, at a stage and with value v, has yet to do: nothing before it enters; at level x the whole of rec_update_snapshot(x, v), or the
-- rest of it from line 4 on after the write and k reads; once finished, to return its view; nothing after a crash.
abbrev pub program_at : Machine → ℕ → Stage → ℕ → Code
program_at m i Absent v = halted
program_at m i (Running x zero f) v = rec_update_snapshot m.n i x v
program_at m i (Running x (suc k) f) v =
    collect (m.n - k) x (suc k) (readings m x f k) (λ reg. judge x (pairs 1 reg) (rec_update_snapshot m.n i (x - 1) v))
program_at m i (Finished x w) v = returns (pairs 1 (readings m x w m.n))
program_at m i (Crashed x k f) v = halted

abbrev pub program_of : Machine → ℕ → Code
program_of m i = program_at m i (stage_of m i) (value_of m i)

-- The world: nothing stands, and nobody is, outside the n rows of n registers and the n processes.
abbrev pub world_of : Machine → World Address (List Pair)
world_of m =
    record {
      registers = λ a. cond (among m.n a.row && among m.n a.register) (register m a.row a.register) empty;
      entered = λ p. cond (among m.n p) (entered (stage_of m p)) false;
      remains = λ p. cond (among m.n p) (program_of m p) halted;
    }
