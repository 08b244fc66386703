-- Shown: the float that stands for no number is not a number.
-- Why: its bits are read as that.
use mathlib.Core.Path.{◌≡◌, refl}
use lib.Ieee.{nan, binary64, of_bits}

pub no_number : of_bits binary64 9221120237041090560 ≡ nan
unfolding of_bits
no_number = refl
