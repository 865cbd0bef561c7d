-- Numbers in digits, computed.
use mathlib.Core.Path.{refl}
use Rattle.text.specs.Decimal.{digits_in, decimal, read_on, Decimals}

pub decimals : Decimals
unfolding digits_in decimal read_on
decimals = record { zero_is = refl; nine = refl; ten = refl; several = refl; largest = refl; back = refl }
