-- Parts put one after another.
use Rattle.std.specs.Prelude.{ℕ, zero, suc, List, [], ◌++◌}

-- what f gives for a, a + 1, .. and so on, k numbers in all, one after another
unfoldable pub joined : {A : Type 0} → ℕ → ℕ → (ℕ → List A) → List A
joined a zero f = []
joined a (suc k) f = f a ++ joined (suc a) k f
