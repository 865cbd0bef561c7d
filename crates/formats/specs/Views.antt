-- The views of a file, as data: how many processes there are, which of them have a view, and for each view its set of (process, value) pairs.
-- Processes are numbered from 1.
use Rattle.std.specs.Prelude.{ℕ, ◌+◌, ◌-◌, ◌*◌, Bool, get_or, replicate}
use Rattle.sets.specs.Members.{has}
use Rattle.formats.specs.declared.Views.{Views}

-- process i has a view
abbrev pub owns : Views → ℕ → Bool
owns v i = has v.own i

-- the processes that i's view names, and the value that it gives to process j (0 where it does not name j)
abbrev pub seen_by : Views → ℕ → ℕ
seen_by v i = get_or v.seen (i - 1) 0

abbrev pub cell : ℕ → ℕ → ℕ
cell i j = 32 * (i - 1) + (j - 1)

abbrev pub value_by : Views → ℕ → ℕ → ℕ
value_by v i j = get_or v.values (cell i j) 0

-- n processes, none of which has a view
abbrev pub none_of : ℕ → Views
none_of n = record { n = n; own = 0; seen = replicate 32 0; values = replicate 1024 0 }
