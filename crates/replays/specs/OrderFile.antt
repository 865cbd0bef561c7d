-- The bytes of an order file, from its calls.
use Rattle.std.specs.Prelude.{ℕ, ◌^◌, ◌<◌, List, [], ◌∷◌, ◌++◌}
use Rattle.text.specs.Ascii.{ascii}
use Rattle.history.specs.Runs.{Call, enters, steps, crashes}
use Rattle.formats.specs.Records.{word_bytes}

-- "Order file: `EN`, process (1), value (4). `ST`, process (1). `CR`, process (1)."
abbrev pub call_bytes : Call → List ℕ
call_bytes (enters p v) = ascii "EN" ++ p ∷ word_bytes v
call_bytes (steps p) = ascii "ST" ++ p ∷ []
call_bytes (crashes p) = ascii "CR" ++ p ∷ []

unfoldable pub order_bytes : List Call → List ℕ
order_bytes [] = []
order_bytes (c ∷ cs) = call_bytes c ++ order_bytes cs

-- "`MN`, n (1 byte): first record"
abbrev pub order_file : ℕ → List Call → List ℕ
order_file n cs = ascii "MN" ++ n ∷ order_bytes cs

-- a call that a record can carry: the process fits one byte, the value four
abbrev pub FileCall : Call → Type 0
FileCall (enters p v) = (p < 256) × (v < 2 ^ 32)
FileCall (steps p) = p < 256
FileCall (crashes p) = p < 256

abbrev pub FileCalls : List Call → Type 0
FileCalls [] = Unit {0}
FileCalls (c ∷ cs) = FileCall c × FileCalls cs
