-- What the texts are by the length of the input.
use Prim.Native.Nat.{ℕ, ◌≤◌, ◌<◌}
use mathlib.Core.Bool.{Bool, true, false, cond}
use mathlib.Core.Path.{◌≡◌, refl, sym, ap, ◌∙◌}
use mathlib.Core.Logic.{◌↔◌, ◌≢◌}
use mathlib.Core.List.{List, [], ◌∷◌}
use native.Mathlib.Omega.{arith}
use lib.Dec.{leb}
use lib.ListN.{length, get_or}
use borrow.Author.Tests.{le-leb, lt-leb, leb-true, leb-false}
use Rattle.text.specs.Ascii.{lines}
use Rattle.findings.specs.Verdict.{verdict_of}
use Rattle.replays.specs.Replays.{replay_of}
use Rattle.output.specs.Lines.{too_long, verdict_line, verdict_text, run_line, replay_lines, replay_text}
use Rattle.output.specs.Promises.{TooLongExactly}

-- the text of an input that is taken, and of one that is not
pub verdict_short : (s : List ℕ) → length s ≤ 65535 → verdict_text s ≡ verdict_line (verdict_of s)
unfolding verdict_text
verdict_short s h = ap (λ (t : Bool). cond t (verdict_line (verdict_of s)) too_long) (le-leb (length s) 65535 h)

pub verdict_long : (s : List ℕ) → 65535 < length s → verdict_text s ≡ too_long
unfolding verdict_text
verdict_long s h = ap (λ (t : Bool). cond t (verdict_line (verdict_of s)) too_long) (lt-leb (length s) 65535 h)

pub replay_short : (s : List ℕ) → length s ≤ 65535 → replay_text s ≡ replay_lines (replay_of s 65535)
unfolding replay_text
replay_short s h = ap (λ (t : Bool). cond t (replay_lines (replay_of s 65535)) too_long) (le-leb (length s) 65535 h)

pub replay_long : (s : List ℕ) → 65535 < length s → replay_text s ≡ too_long
unfolding replay_text
replay_long s h = ap (λ (t : Bool). cond t (replay_lines (replay_of s 65535)) too_long) (lt-leb (length s) 65535 h)

-- Of an input that is taken the first byte is that of `run` or `verdict`, and not that of `too long`.
exactly : (s text : List ℕ) → (65535 < length s → text ≡ lines ("too long" ∷ [])) → (b : ℕ) → (length s ≤ 65535 → get_or text 0 0 ≡ b) → b ≢ 116
    → (text ≡ lines ("too long" ∷ [])) ↔ (65535 < length s)
exactly s text long b first ne = (go (leb (length s) 65535) refl, long)
  where
    go : (t : Bool) → leb (length s) 65535 ≡ t → text ≡ lines ("too long" ∷ []) → 65535 < length s
    go true e x = absurd (ne (sym (first (leb-true (length s) 65535 e)) ∙ ap (λ (l : List ℕ). get_or l 0 0) x))
    go false e x = leb-false (length s) 65535 e

replay-first : (s : List ℕ) → length s ≤ 65535 → get_or (replay_text s) 0 0 ≡ 114
unfolding replay_lines run_line
replay-first s h = ap (λ (l : List ℕ). get_or l 0 0) (replay_short s h)

verdict-first : (s : List ℕ) → length s ≤ 65535 → get_or (verdict_text s) 0 0 ≡ 118
unfolding verdict_line
verdict-first s h = ap (λ (l : List ℕ). get_or l 0 0) (verdict_short s h)

pub too_long_exactly : TooLongExactly
too_long_exactly s = (
  exactly s (replay_text s) (replay_long s) 114 (replay-first s) (λ e. omega arith),
  exactly s (verdict_text s) (verdict_long s) 118 (verdict-first s) (λ e. omega arith),
)
