-- Finishing alone as the code makes it (rule 8): the call at level x does that level's work on the registers, and finishes there or calls itself at x - 1.
use Rattle.std.specs.Prelude.{true, false, cond, ℕ, zero, suc, ◌-◌, eqb, Option, Some, None}
use Rattle.sets.specs.Members.{size}
use Rattle.rules.specs.declared.Machine.{Machine}
use Rattle.rules.specs.Stands.{row_of}
use Rattle.rules.specs.State.{with_register}
use Rattle.rules.specs.Coded.Level.{gathered}
use Rattle.moves.specs.declared.Runner.{Runner}
use Rattle.alone.specs.declared.Landing.{Landing}

-- after the write at p's level, if it is yet to make
abbrev pub written : Machine → ℕ → Runner → Machine
written m p r = cond (eqb r.made 0) (with_register m r.level p r.value) m

-- what the reads that are left there have found then
abbrev pub seen_at : Machine → ℕ → Runner → ℕ
seen_at m p r = gathered (row_of (written m p r) r.level) r.made r.found

-- at the level below with no access made (rule 5)
abbrev pub level_below : Runner → Runner
level_below r = record { level = r.level - 1; made = 0; found = 0; value = r.value }

pub record Descent : Type 0 where
  pub machine : Machine
  pub landing : Option Landing

abbrev pub here : Machine → Option Landing → Descent
here m l = record { machine = m; landing = l }

unfoldable pub descent : ℕ → Machine → ℕ → Runner → Descent
descent zero m p r = here m None
descent (suc x) m p r =
    elim (eqb (size (seen_at m p r)) r.level)
    [ true ↦ here (written m p r) (Some (record { level = r.level; view = seen_at m p r })) | false ↦ descent x (written m p r) p (level_below r) ]
