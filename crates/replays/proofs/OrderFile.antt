-- Every list of calls is the replay of a file: its bytes read back as the same calls. And how long such a file is.
use Prim.Native.Nat.{ℕ, zero, suc, ◌+◌, ◌≤◌}
use Prim.Native.String.{String}
use mathlib.Core.Bool.{true}
use mathlib.Core.Path.{◌≡◌, refl, sym, ap, ap₂, ◌∙◌, subst}
use mathlib.Core.List.{List, [], ◌∷◌, ◌++◌, append_assoc, append-nil}
use native.Mathlib.Nat.{add-zero}
use native.Mathlib.Omega.{arith}
use lib.ListN.{length, length-append}
use Rattle.std.specs.Prelude.{Some, Ok}
use Rattle.history.specs.Runs.{Call, enters, steps, crashes}
use Rattle.formats.specs.declared.FileAnswer.TheVariants.{Whole}
use Rattle.formats.specs.declared.Order.{Order}
use Rattle.formats.specs.Records.{byte_at, word_at, spells, order_at}
use Rattle.formats.proofs.Bytes.{word_back, byte_past, word_past}
use Rattle.formats.proofs.Table.{header_read}
use Rattle.replays.specs.Replays.{Orders, then, order_then, orders_from, replayed, replay_by, replay_of}
use Rattle.replays.specs.OrderFile.{call_bytes, order_bytes, order_file, FileCall, FileCalls}
use Rattle.replays.specs.Promises.{EveryListReplays}
use Rattle.replays.specs.Table.{marked, Holds, start, enter, step, crash}
use Rattle.replays.proofs.Turns.{from_end, from_order}
use Rattle.replays.proofs.Orders.{enter_at_lem, step_at_lem, crash_at_lem}

-- the order that asks for a call
abbrev order_of : Call → Order
order_of (enters p v) = Order.Enter p v
order_of (steps p) = Order.Step p
order_of (crashes p) = Order.Crash p

-- a call's bytes, after others and before others
module _ (a t : List ℕ) where
  at_0 : (l : List ℕ) → byte_at (a ++ l) (length a) ≡ byte_at l 0
  at_0 l = ap (byte_at (a ++ l)) (sym (add-zero (length a))) ∙ byte_past a l 0

  long : (l : List ℕ) (k : ℕ) → k ≤ length l → length a + k ≤ length (a ++ l)
  long l k h = omega (arith, length-append a l)

  -- the mark of a call's bytes
  marks : (l : List ℕ) (t : String) → marked l 0 t ≡ true → marked (a ++ l) (length a) t ≡ true
  marks l t e = ap₂ (spells t) (at_0 l) (byte_past a l 1) ∙ e

  stands : (c : Call) → FileCall c → order_at (a ++ (call_bytes c ++ t)) (length a) ≡ Ok (Some (order_of c))
  stands (enters p v) w =
      let l : List ℕ = call_bytes (enters p v) ++ t in
      enter_at_lem (a ++ l) (length a) (long l 7 (omega arith)) (marks l "EN" refl)
      ∙ ap₂ (λ (p x : ℕ). Ok (Some (Order.Enter p x))) (byte_past a l 2) (word_past a l 3 ∙ word_back v t w.1)
  stands (steps p) w =
      let l : List ℕ = call_bytes (steps p) ++ t in
      step_at_lem (a ++ l) (length a) (long l 3 (omega arith)) (marks l "ST" refl) ∙ ap (λ (p : ℕ). Ok (Some (Order.Step p))) (byte_past a l 2)
  stands (crashes p) w =
      let l : List ℕ = call_bytes (crashes p) ++ t in
      crash_at_lem (a ++ l) (length a) (long l 3 (omega arith)) (marks l "CR" refl) ∙ ap (λ (p : ℕ). Ok (Some (Order.Crash p))) (byte_past a l 2)

-- what follows a call's bytes
follows : (s : List ℕ) (at k : ℕ) (c : Call)
    → order_then s at (Ok (Some (order_of c))) (orders_from k s) ≡ then c (orders_from k s (at + length (call_bytes c)))
follows s at k (enters p v) = refl
follows s at k (steps p) = refl
follows s at k (crashes p) = refl

-- a file read from a place on to its end
abbrev whole : List ℕ → List Call → Orders
whole s cs = record { answer = Whole; place = length s; calls = cs }

read_back_lem : (cs : List Call) (a : List ℕ) (k : ℕ) → FileCalls cs → length cs ≤ k
    → orders_from k (a ++ order_bytes cs) (length a) ≡ whole (a ++ order_bytes cs) cs
unfolding order_bytes
read_back_lem [] a k w h = from_end k (a ++ []) (length a) (omega (arith, length-append a []))
read_back_lem (c ∷ cs) a zero w h = absurd (omega arith)
read_back_lem (c ∷ cs) a (suc k) w h =
    let s : List ℕ = a ++ (call_bytes c ++ order_bytes cs) in
    let e : (a ++ call_bytes c) ++ order_bytes cs ≡ s = append_assoc a (call_bytes c) (order_bytes cs) in
    let next : orders_from k s (length a + length (call_bytes c)) ≡ whole s cs
    = subst (λ (n : ℕ). orders_from k s n ≡ whole s cs) (length-append a (call_bytes c))
    (subst (λ (l : List ℕ). orders_from k l (length (a ++ call_bytes c)) ≡ whole l cs) e (read_back_lem cs (a ++ call_bytes c) k w.1 (omega arith))) in
    from_order (suc k) k s (length a) (Ok (Some (order_of c))) refl (stands a (order_bytes cs) c w.0)
    ∙ follows s (length a) k c
    ∙ ap (then c) next

pub every_list_replays : EveryListReplays
unfolding replay_of
every_list_replays n low high cs w budget h =
    ap (replay_by (order_file n cs) budget) (header_read n (order_bytes cs) low high)
    ∙ ap (replayed (order_file n cs) n) (read_back_lem cs (77 ∷ 78 ∷ n ∷ []) budget w h)

-- One call more at the end.
pub last_call : (cs : List Call) (c : Call) → order_bytes (cs ++ c ∷ []) ≡ order_bytes cs ++ call_bytes c
unfolding order_bytes
last_call [] c = append-nil (call_bytes c)
last_call (d ∷ cs) c = ap (λ (l : List ℕ). call_bytes d ++ l) (last_call cs c) ∙ sym (append_assoc (call_bytes d) (order_bytes cs) (call_bytes c))

one_longer : (at n k : ℕ) (cs : List Call) (c : Call) → at ≡ length (order_file n cs) → length (call_bytes c) ≡ k
    → at + k ≡ length (order_file n (cs ++ c ∷ []))
one_longer at n k cs c e f = omega (arith, ap length (last_call cs c), length-append (order_bytes cs) (call_bytes c))

-- A place that holds calls is where the file of these calls ends.
pub held_length : {s : List ℕ} {at : ℕ} {cs : List Call} (n : ℕ) → Holds s at cs → at ≡ length (order_file n cs)
unfolding order_bytes
held_length n (start z) = refl
held_length {s} n (enter {at = at} {cs = cs} h r) = one_longer at n 7 cs (enters (byte_at s (at + 2)) (word_at s (at + 3))) (held_length n h) refl
held_length {s} n (step {at = at} {cs = cs} h r) = one_longer at n 3 cs (steps (byte_at s (at + 2))) (held_length n h) refl
held_length {s} n (crash {at = at} {cs = cs} h r) = one_longer at n 3 cs (crashes (byte_at s (at + 2))) (held_length n h) refl
