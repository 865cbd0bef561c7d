-- Text as the list of its bytes: `ascii "run"` is 114 ∷ 117 ∷ 110 ∷ [].
use Rattle.std.specs.Prelude.{ℕ, zero, suc, List, [], ◌∷◌, ◌++◌}
use Prim.Native.String.{String, len, char_at}
use Prim.Native.Char.{code}

-- the k characters from place i on
abbrev pub letters : String → ℕ → ℕ → List ℕ
letters t i zero = []
letters t i (suc k) = code (char_at t i) ∷ letters t (suc i) k

abbrev pub ascii : String → List ℕ
ascii t = letters t 0 (len t)

-- lines of text, each ended by byte 10
abbrev pub lines : List String → List ℕ
lines [] = []
lines (t ∷ ts) = ascii t ++ 10 ∷ lines ts
