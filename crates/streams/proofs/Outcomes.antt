-- The examples of specs/Outcomes, computed; and that a failure is not the end of the input.
use Rattle.std.proofs.Common.{ap, refl, rules}
use Rattle.std.specs.Prelude.{◌≢◌, Option, Some, None, ℤ, pos, negsuc}
use Rattle.std.specs.IoError.{raw_os_error}
use Rattle.std.specs.declared.io.Error.{Error}
use Rattle.streams.specs.declared.Outcome.{Outcome}
use Rattle.streams.specs.Outcomes.{failed_by, Examples, FailedIsNoEnd}

pub examples : Examples
examples =
    record {
      some = λ k. refl;
      end = refl;
      directory = λ e h. ap (λ n. failed_by n e) h;
      closed = λ e h. ap (λ n. failed_by n e) h;
      full = λ e h. ap (λ n. failed_by n e) h;
      interrupted = λ e h. ap (λ n. failed_by n e) h;
      unnumbered = λ e h. ap (λ n. failed_by n e) h;
    }

failed_ends_nothing : (n : Option ℤ) (e : Error) → failed_by n e ≢ Outcome.Nothing
failed_ends_nothing (Some (pos k)) e = grind rules
failed_ends_nothing (Some (negsuc k)) e = search rules
failed_ends_nothing None e = search rules

pub failed_is_no_end : FailedIsNoEnd
failed_is_no_end e = failed_ends_nothing (raw_os_error e) e
