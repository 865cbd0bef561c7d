-- A world of programs and registers: what stands in each register, and for each process whether it has entered and what of its program it has yet
-- to do. It knows no engine and no number of document 01.
use Rattle.std.specs.Prelude.{Bool, true, false, not, ◌&&◌, cond, ℕ, leb, eqb}
use Rattle.world.specs.Programs.{Register, Program, halted, accesses, registers_after, remains_after}
use Rattle.world.specs.Calls.{Call, enters, steps, crashes, Taker}

-- An algorithm for `processes` processes: which addresses are the same, what stands in a register at first, and the program of each process for the
-- value that it enters with.
pub record Algorithm (A R : Type 0) : Type 0 where
  pub processes : ℕ
  pub same : A → A → Bool
  pub initially : A → Register
  pub program : ℕ → ℕ → Program A R

pub record World (A R : Type 0) : Type 0 where
  pub registers : A → Register
  pub entered : ℕ → Bool
  pub remains : ℕ → Program A R

-- nobody has entered
abbrev pub start : {A R : Type 0} → Algorithm A R → World A R
start a = record { registers = a.initially; entered = λ p. false; remains = λ p. halted }

-- one of the processes 1 to n
abbrev pub among : ℕ → ℕ → Bool
among n p = leb 1 p && leb p n

-- f with x for p
abbrev pub changed : {X : Type 0} → (ℕ → X) → ℕ → X → ℕ → X
changed f p x q = cond (eqb q p) x (f q)

-- Enter: a process 1 to n that has not entered. Step: one whose program begins with an access. Crash: one that has entered, has not crashed and has
-- not returned; its program begins with an access.
abbrev pub takes : {A R : Type 0} → Algorithm A R → World A R → Call → Bool
takes a w (enters p v) = among a.processes p && not (w.entered p)
takes a w (steps p) = accesses (w.remains p)
takes a w (crashes p) = accesses (w.remains p)

-- What an accepted call does: an enter puts the process at the start of its program; a step makes one access, the first of the program, on the
-- registers as they stand; after a crash nothing is left to do.
abbrev pub does : {A R : Type 0} → Algorithm A R → World A R → Call → World A R
does a w (enters p v) =
    record { registers = w.registers; entered = changed w.entered p true; remains = changed w.remains p (a.program p v) }
does a w (steps p) =
    record {
      registers = registers_after a.same w.registers (w.remains p);
      entered = w.entered;
      remains = changed w.remains p (remains_after w.registers (w.remains p));
    }
does a w (crashes p) = record { registers = w.registers; entered = w.entered; remains = changed w.remains p halted }

-- a refused call leaves the world as it was
abbrev pub world_taker : {A R : Type 0} → Algorithm A R → Taker (World A R)
world_taker a = record { accepts = takes a; after = λ w c. cond (takes a w c) (does a w c) w }
