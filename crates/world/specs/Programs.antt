-- Programs that are register accesses and nothing else, over any type A of addresses and R of results.
use Rattle.std.specs.Prelude.{Bool, true, false, cond, ℕ}

-- what a register holds: nothing (the papers' ⊥), or a number
pub data Register : Type 0 where
  empty : Register
  holds : ℕ → Register

-- what is yet to do: write v to an address and go on; read an address and go on with what stands there; return a result; or nothing at all
pub data Program (A R : Type 0) : Type 0 where
  writes : A → ℕ → Program A R → Program A R
  reads : A → (Register → Program A R) → Program A R
  returns : R → Program A R
  halted : Program A R

-- a line, then those after it
abbrev pub ◌>>◌ : {P : Type 0} → (P → P) → P → P
◌>>◌ line next = line next

abbrev pub ◌>>=◌ : {P B : Type 0} → ((B → P) → P) → (B → P) → P
◌>>=◌ line next = line next

-- the program begins with an access
abbrev pub accesses : {A R : Type 0} → Program A R → Bool
accesses (writes a v next) = true
accesses (reads a next) = true
accesses (returns r) = false
accesses halted = false

-- The first access, on registers of which `same` tells addresses apart: what they are after it, and what remains of the program.
abbrev pub registers_after : {A R : Type 0} → (A → A → Bool) → (A → Register) → Program A R → A → Register
registers_after same REG (writes a v next) b = cond (same b a) (holds v) (REG b)
registers_after same REG (reads a next) b = REG b
registers_after same REG (returns r) b = REG b
registers_after same REG halted b = REG b

abbrev pub remains_after : {A R : Type 0} → (A → Register) → Program A R → Program A R
remains_after REG (writes a v next) = next
remains_after REG (reads a next) = next (REG a)
remains_after REG (returns r) = returns r
remains_after REG halted = halted
