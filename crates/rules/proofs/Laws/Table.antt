-- Document 01's table of numbers, call by call.
use mathlib.Core.Path.{refl}
use Rattle.rules.specs.Calls.{enter_of, step_of, crash_of, look_of, new_of}
use Rattle.rules.specs.Numbers.{always, enter_lines, step_lines, crash_lines, new_lines}
use Rattle.rules.specs.Statements.{TableOfNumbers}
use Rattle.rules.proofs.Laws.Numbers.{exactly_when, number-enter, number_step, number-crash, number-look, number-new}
use Rattle.rules.proofs.Laws.Finishing.{exactly_alone}

pub table_of_numbers : TableOfNumbers
table_of_numbers =
    record {
      enter = λ m p v. exactly_when (enter_of m p v).answer (enter_lines m p) refl (number-enter m p v);
      step = λ m p. exactly_when (step_of m p).answer (step_lines m p) refl (number_step m p);
      crash = λ m p. exactly_when (crash_of m p).answer (crash_lines m p) refl (number-crash m p);
      finish = exactly_alone;
      look = λ m p. exactly_when (look_of m p).answer (always m p) refl (number-look m p);
      new = λ n. exactly_when (new_of n).answer (new_lines n) refl (number-new n);
    }
