-- The example of a world, computed.
use mathlib.Core.Path.{refl}
use Rattle.world.specs.Calls.{leaves, counts, ever, deposits}
use Rattle.world.specs.Counts.{admits}
use Rattle.world.specs.Accesses.{accesses_made}
use Rattle.world.specs.Examples.{Computed}

pub computed : Computed
unfolding leaves counts ever deposits admits accesses_made
computed =
    record {
      one_holds = refl;
      two_holds = refl;
      none_holds = refl;
      two_returns = refl;
      one_halts = refl;
      one_stepped = refl;
      two_stepped = refl;
      stepped = refl;
      accepted = refl;
      made = refl;
      two_goes = refl;
      two_rests = refl;
      three_rests = refl;
      refused = refl;
      two_deposits = refl;
      one_deposits = refl;
      nobody_deposits = refl;
      two_admitted = refl;
      three_admitted = refl;
      has_entered = refl;
      has_not_entered = refl;
    }
