-- The bytes of a file of calls, and the calls of a file of bytes: up to the record that was not taken a file has just the bytes that its calls are written
-- with.
use Prim.Native.Nat.{ℕ, zero, suc, ◌+◌, ◌*◌, ◌/◌, ◌%◌, ◌≤◌, ◌<◌}
use Prim.Native.String.{String}
use mathlib.Core.Bool.{true}
use mathlib.Core.Path.{◌≡◌, refl, sym, ap, ap₂, ◌∙◌}
use mathlib.Core.List.{List, [], ◌∷◌, ◌++◌, append_assoc}
use native.Mathlib.Nat.{add-zero}
use native.Mathlib.Omega.{arith}
use lib.ListN.{length, take, drop}
use lib.Seq.{take-add, drop-cons, take-length}
use Rattle.std.specs.Prelude.{Result, Ok, Err}
use Rattle.history.specs.Runs.{Call, enters, steps, crashes}
use Rattle.text.specs.Ascii.{ascii}
use Rattle.formats.specs.declared.FileAnswer.{FileAnswer}
use Rattle.formats.specs.Records.{byte_at, word_at, word_bytes, header_of}
use Rattle.formats.specs.Promises.{Bytes}
use Rattle.formats.proofs.Ranges.{word_below}
use Rattle.formats.proofs.Shortened.{header_stands}
use Rattle.formats.proofs.RoundTrip.{bytes-none, bytes_one, bytes-append, bytes_word}
use Rattle.replays.specs.Replays.{calls_by, calls_of}
use Rattle.replays.specs.OrderFile.{call_bytes, order_bytes, order_file, FileCall, FileCalls}
use Rattle.replays.specs.Table.{marked, Holds, start, enter, step, crash}
use Rattle.replays.specs.Promises.{taken_to, OrderFileBytes, EveryFileOfCalls, WholeFileOfCalls}
use Rattle.replays.proofs.Orders.{letter, mark_bytes, enter_long, step_long, crash_long}
use Rattle.replays.proofs.WholeFile.{header_whole, zero_read}
use Rattle.replays.proofs.Promises.{whole_taken, every_file_holds}
use Rattle.replays.proofs.OrderFile.{last_call}

-- A file of calls is bytes.
mark_and_byte : (x y p : ℕ) (t : List ℕ) → x < 256 → y < 256 → p < 256 → Bytes t → Bytes (x ∷ y ∷ p ∷ t)
mark_and_byte x y p t h i j b = bytes_one x (y ∷ p ∷ t) h (bytes_one y (p ∷ t) i (bytes_one p t j b))

call_bytes_lem : (c : Call) → FileCall c → Bytes (call_bytes c)
call_bytes_lem (enters p v) w = mark_and_byte 69 78 p (word_bytes v) (omega arith) (omega arith) w.0 (bytes_word v)
call_bytes_lem (steps p) w = mark_and_byte 83 84 p [] (omega arith) (omega arith) w bytes-none
call_bytes_lem (crashes p) w = mark_and_byte 67 82 p [] (omega arith) (omega arith) w bytes-none

calls-bytes : (cs : List Call) → FileCalls cs → Bytes (order_bytes cs)
unfolding order_bytes
calls-bytes [] w = bytes-none
calls-bytes (c ∷ cs) w = bytes-append (call_bytes c) (order_bytes cs) (call_bytes_lem c w.0) (calls-bytes cs w.1)

pub order_file_bytes : OrderFileBytes
order_file_bytes n high cs w = mark_and_byte 77 78 n (order_bytes cs) (omega arith) (omega arith) (omega arith) (calls-bytes cs w)

-- The k bytes from a place and i more on.
bytes_from : List ℕ → ℕ → ℕ → ℕ → List ℕ
bytes_from s at i zero = []
bytes_from s at i (suc k) = byte_at s (at + i) ∷ bytes_from s at (suc i) k

from_place : (s : List ℕ) (at i k : ℕ) → at + i + k ≤ length s → take k (drop (at + i) s) ≡ bytes_from s at i k
unfolding bytes_from
from_place s at i zero h = refl
from_place s at i (suc k) h =
    let e : suc (at + i) ≡ at + suc i = omega arith in
    ap (take (suc k)) (drop-cons s (at + i) 0 (omega arith))
    ∙ ap (λ (j : ℕ). byte_at s (at + i) ∷ take k (drop j s)) e
    ∙ ap (λ (l : List ℕ). byte_at s (at + i) ∷ l) (from_place s at (suc i) k (omega arith))

further : (s : List ℕ) (at k : ℕ) → at + k ≤ length s → take (at + k) s ≡ take at s ++ bytes_from s at 0 k
further s at k h =
    take-add at k s
    ∙ ap (λ (j : ℕ). take at s ++ take k (drop j s)) (sym (add-zero at))
    ∙ ap (λ (l : List ℕ). take at s ++ l) (from_place s at 0 k (omega arith))

three_more : (s : List ℕ) (at : ℕ) → at + 3 ≤ length s → take (at + 3) s ≡ take at s ++ byte_at s at ∷ byte_at s (at + 1) ∷ byte_at s (at + 2) ∷ []
unfolding bytes_from
three_more s at h =
    further s at 3 h ∙ ap (λ (j : ℕ). take at s ++ byte_at s j ∷ byte_at s (at + 1) ∷ byte_at s (at + 2) ∷ []) (add-zero at)

-- four bytes are those of their number
word_bytes_lem : (a b c d : ℕ) → a < 256 → b < 256 → c < 256 → d < 256 → word_bytes (a + 256 * b + 65536 * c + 16777216 * d) ≡ a ∷ b ∷ c ∷ d ∷ []
word_bytes_lem a b c d h i j k =
    let x = a + 256 * b + 65536 * c + 16777216 * d in
    let one : x / 256 ≡ b + 256 * c + 65536 * d = omega arith in
    let two : x / 65536 ≡ c + 256 * d = omega arith in
    let three : x / 16777216 ≡ d = omega arith in
    let p : x % 256 ≡ a = omega arith in
    let q : (b + 256 * c + 65536 * d) % 256 ≡ b = omega arith in
    let r : (c + 256 * d) % 256 ≡ c = omega arith in
    let t : d % 256 ≡ d = omega arith in
    λ z. p z ∷ (ap (λ (y : ℕ). y % 256) one ∙ q) z ∷ (ap (λ (y : ℕ). y % 256) two ∙ r) z ∷ (ap (λ (y : ℕ). y % 256) three ∙ t) z ∷ []

four_more : (s : List ℕ) → Bytes s → (at : ℕ) → at + 4 ≤ length s → take (at + 4) s ≡ take at s ++ word_bytes (word_at s at)
unfolding bytes_from
four_more s b at h =
    further s at 4 h
    ∙ ap (λ (j : ℕ). take at s ++ byte_at s j ∷ byte_at s (at + 1) ∷ byte_at s (at + 2) ∷ byte_at s (at + 3) ∷ []) (add-zero at)
    ∙ ap (λ (l : List ℕ). take at s ++ l)
    (sym (word_bytes_lem (byte_at s at) (byte_at s (at + 1)) (byte_at s (at + 2)) (byte_at s (at + 3)) (b at) (b (at + 1)) (b (at + 2)) (b (at + 3))))

-- One record more: its mark and its process, and the value of an enter.
module _ (s : List ℕ) (b : Bytes s) (at : ℕ) where
  short_record : (t : String) → marked s at t ≡ true → at + 3 ≤ length s
      → take (at + 3) s ≡ take at s ++ letter t 0 ∷ letter t 1 ∷ byte_at s (at + 2) ∷ []
  short_record t e h =
      let m = mark_bytes s at t e in
      three_more s at h ∙ ap₂ (λ (x y : ℕ). take at s ++ x ∷ y ∷ byte_at s (at + 2) ∷ []) m.0 m.1

  enter_record : marked s at "EN" ≡ true → at + 7 ≤ length s → take (at + 7) s ≡ take at s ++ call_bytes (enters (byte_at s (at + 2)) (word_at s (at + 3)))
  enter_record e h =
      let z : at + 7 ≡ at + 3 + 4 = omega arith in
      ap (λ (j : ℕ). take j s) z
      ∙ four_more s b (at + 3) (omega arith)
      ∙ ap (λ (l : List ℕ). l ++ word_bytes (word_at s (at + 3))) (short_record "EN" e (omega arith))
      ∙ append_assoc (take at s) (ascii "EN" ++ byte_at s (at + 2) ∷ []) (word_bytes (word_at s (at + 3)))

-- one call more at the end
file_more : (s : List ℕ) (at k : ℕ) (cs : List Call) (c : Call) → take at s ≡ order_file (byte_at s 2) cs → take k s ≡ take at s ++ call_bytes c
    → take k s ≡ order_file (byte_at s 2) (cs ++ c ∷ [])
file_more s at k cs c e f =
    f ∙ ap (λ (l : List ℕ). l ++ call_bytes c) e ∙ ap (λ (l : List ℕ). ascii "MN" ++ byte_at s 2 ∷ l) (sym (last_call cs c))

-- What a place holds are the bytes before it.
held_bytes : {s : List ℕ} {at : ℕ} {cs : List Call} → Bytes s → Holds s at cs → take at s ≡ order_file (byte_at s 2) cs
unfolding order_bytes
held_bytes {s} b (start z) = let w = header_stands s z in short_record s b 0 "MN" w.mark w.long
held_bytes {s} b (enter {at = at} {cs = cs} h r) =
    file_more s at (at + 7) cs (enters (byte_at s (at + 2)) (word_at s (at + 3))) (held_bytes b h) (enter_record s b at r.mark (enter_long s at r))
held_bytes {s} b (step {at = at} {cs = cs} h r) =
    file_more s at (at + 3) cs (steps (byte_at s (at + 2))) (held_bytes b h) (short_record s b at "ST" r.mark (step_long s at r))
held_bytes {s} b (crash {at = at} {cs = cs} h r) =
    file_more s at (at + 3) cs (crashes (byte_at s (at + 2))) (held_bytes b h) (short_record s b at "CR" r.mark (crash_long s at r))

-- and its calls are such calls
carried_more : (cs : List Call) (c : Call) → FileCalls cs → FileCall c → FileCalls (cs ++ c ∷ [])
carried_more [] c w f = (f, tt)
carried_more (d ∷ cs) c w f = (w.0, carried_more cs c w.1 f)

held_carried : {s : List ℕ} {at : ℕ} {cs : List Call} → Bytes s → Holds s at cs → FileCalls cs
held_carried b (start z) = tt
held_carried {s} b (enter {at = at} {cs = cs} h r) =
    carried_more cs (enters (byte_at s (at + 2)) (word_at s (at + 3))) (held_carried b h) (b (at + 2), word_below s b (at + 3))
held_carried {s} b (step {at = at} {cs = cs} h r) = carried_more cs (steps (byte_at s (at + 2))) (held_carried b h) (b (at + 2))
held_carried {s} b (crash {at = at} {cs = cs} h r) = carried_more cs (crashes (byte_at s (at + 2))) (held_carried b h) (b (at + 2))

pub every_file_of_calls : EveryFileOfCalls
every_file_of_calls f budget z =
    let h = every_file_holds f.content budget z in
    record {
      carried = held_carried f.bytes h.calls;
      bytes = held_bytes f.bytes h.calls ∙ ap (λ (n : ℕ). order_file n (calls_of f.content budget)) (sym h.processes);
    }

-- the calls of a refused header too, which are none
pub file_calls : (s : List ℕ) → Bytes s → (budget : ℕ) (h : Result ℕ FileAnswer) → header_of s ≡ h → FileCalls (calls_by s budget h)
file_calls s b budget (Err a) e = tt
file_calls s b budget (Ok n) e = rw e at (every_file_of_calls (record { content = s; bytes = b }) budget (header_whole s n e)).carried

pub whole_file_of_calls : WholeFileOfCalls
whole_file_of_calls f budget z =
    let s = f.content in
    let h = zero_read s budget z in
    let all : take (taken_to s budget) s ≡ s = ap (λ (k : ℕ). take k s) (whole_taken s budget z) ∙ take-length s in
    sym all ∙ (every_file_of_calls f budget (header_whole s h.0 h.1)).bytes
