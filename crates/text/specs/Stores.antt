-- Bytes stored in a lent buffer from a place on, and a text at its start.
use Rattle.std.specs.Prelude.{ℕ, ◌+◌, List, [], ◌∷◌, ◌++◌, length, set, drop}

-- the bytes of a list stored one after another from a place on
unfoldable pub put : List ℕ → ℕ → List ℕ → List ℕ
put buffer at [] = buffer
put buffer at (b ∷ bs) = put (set buffer at b) (at + 1) bs

-- a text at the start of a buffer; the bytes after it stay
abbrev pub over : List ℕ → List ℕ → List ℕ
over x b = x ++ drop (length x) b
