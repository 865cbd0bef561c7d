-- Fig. 8.16 of source document 000, line by line, as a program that is register accesses and nothing else.
use Rattle.std.specs.Prelude.{Bool, ◌&&◌, cond, List, [], ◌∷◌, ◌++◌, ℕ, zero, suc, eqb, length}
use Rattle.world.specs.Programs.{Register, empty, holds, Program, writes, reads, returns, halted, ◌>>◌, ◌>>=◌}
use Rattle.world.specs.World.{Algorithm}

-- the register REG[x][i]: row x, register i
pub record Address : Type 0 where
  pub row : ℕ
  pub register : ℕ

abbrev pub REG : ℕ → ℕ → Address
REG x i = record { row = x; register = i }

abbrev pub same_address : Address → Address → Bool
same_address a b = eqb a.row b.row && eqb a.register b.register

-- a pair (j, reg[j]) of a view
pub record Pair : Type 0 where
  pub process : ℕ
  pub value : ℕ

-- a program that returns a view
abbrev pub Code : Type 0
Code = Program Address (List Pair)

-- line 4, where `left` registers are left to read, from j on, and `reg` has been read
unfoldable pub collect : ℕ → ℕ → ℕ → List Register → (List Register → Code) → Code
collect zero x j reg next = next reg
collect (suc left) x j reg next = do
  r ← reads (REG x j)
  collect left x (suc j) (reg ++ (r ∷ [])) next

-- line 5, for reg[j], reg[j + 1], ..
unfoldable pub pairs : ℕ → List Register → List Pair
pairs j [] = []
pairs j (empty ∷ reg) = pairs (suc j) reg
pairs j (holds v ∷ reg) = record { process = j; value = v } ∷ pairs (suc j) reg

-- lines 6 to 9
abbrev pub judge : ℕ → List Pair → Code → Code
judge x view recursive = cond (eqb (length view) x) (returns view) recursive

-- rec_update_snapshot(x, v), for n ≥ x ≥ 1, the code of process i of n. The figure's x is `suc x` here, and its x - 1 is `x`;
-- it has no call at 0 (document 01 refuses the step that would come to it, with 7).
unfoldable pub rec_update_snapshot : ℕ → ℕ → ℕ → ℕ → Code
rec_update_snapshot n i zero v = halted
rec_update_snapshot n i (suc x) v = do
  -- (3) REG[x][i] ← v
  writes (REG (suc x) i) v
  -- (4) for each j ∈ {1, .. n} do reg[j] ← REG[x][j] end for
  reg ← collect n (suc x) 1 []
  -- (5) view ← { (j, reg[j]) | reg[j] ≠ ⊥ }
  let view = pairs 1 reg
  -- (6) to (9) if (|view| = x) then res ← view else res ← rec_update_snapshot(x - 1, v) end if; return(res)
  judge (suc x) view (rec_update_snapshot n i x v)

-- update_snapshot(v): lines 1 and 2, "my_view ← rec_update_snapshot(n, v); return(my_view)"
abbrev pub update_snapshot : ℕ → ℕ → ℕ → Code
update_snapshot n i v = rec_update_snapshot n i n v

-- The algorithm for n processes: every register is empty at first.
abbrev pub figure : ℕ → Algorithm Address (List Pair)
figure n = record { processes = n; same = same_address; initially = λ a. empty; program = update_snapshot n }
