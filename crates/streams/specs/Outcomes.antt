-- What a call of C's read or write came to.
use Rattle.std.specs.Prelude.{ℕ, zero, suc, ◌≡◌, ◌≢◌, if◌then◌else◌, ◌==◌, ℤ, pos, negsuc, Option, Some, None, Result, Ok, Err}
use Rattle.std.specs.IoError.{raw_os_error}
use Rattle.std.specs.declared.io.Error.{Error}
use Rattle.streams.specs.declared.Outcome.{Outcome}

-- a call failed, and its error has this number of the system's, if any: 4 is EINTR, a signal came before a byte was moved
abbrev pub failed_by : Option ℤ → Error → Outcome
failed_by (Some (pos e)) why = if e == 4 then Outcome.Interrupted else Outcome.Failed why
failed_by (Some (negsuc e)) why = Outcome.Failed why
failed_by None why = Outcome.Failed why

-- by the call's result: a count of bytes, 0 where there are no more, or its error
abbrev pub came_to : Result ℕ Error → Outcome
came_to (Ok zero) = Outcome.Nothing
came_to (Ok (suc k)) = Outcome.Moved (suc k)
came_to (Err e) = failed_by (raw_os_error e) e

-- A failed call is not the end of the input, and an interrupted one is neither.
pub record Examples : Type 0 where
  pub some : (k : ℕ) → came_to (Ok (suc k)) ≡ Outcome.Moved (suc k)
  pub end : came_to (Ok 0) ≡ Outcome.Nothing
  -- EISDIR: standard input is a directory
  pub directory : (e : Error) → raw_os_error e ≡ Some (pos 21) → came_to (Err e) ≡ Outcome.Failed e
  -- EBADF: the stream is closed
  pub closed : (e : Error) → raw_os_error e ≡ Some (pos 9) → came_to (Err e) ≡ Outcome.Failed e
  -- ENOSPC: the disk is full
  pub full : (e : Error) → raw_os_error e ≡ Some (pos 28) → came_to (Err e) ≡ Outcome.Failed e
  pub interrupted : (e : Error) → raw_os_error e ≡ Some (pos 4) → came_to (Err e) ≡ Outcome.Interrupted
  -- an error of the library's own, which has no number of the system's
  pub unnumbered : (e : Error) → raw_os_error e ≡ None → came_to (Err e) ≡ Outcome.Failed e

-- a call that failed, whatever its error, is not the end of the input
abbrev pub FailedIsNoEnd : Type 0
FailedIsNoEnd = (e : Error) → came_to (Err e) ≢ Outcome.Nothing
