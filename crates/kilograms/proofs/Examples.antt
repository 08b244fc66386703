-- Shown: the kilograms of the judged examples E3 and E4 and of a minus zero, none of an overloaded zero, and that one part in 2^54 would be too much to promise.
-- Why: each side computes to the same.
use Rattle.std.specs.Prelude.{Ok, Err}
use Prim.Native.Nat.{◌^◌}
use mathlib.Core.Path.{◌≡◌, refl}
use mathlib.Core.Bool.{true, false}
use mathlib.Core.List.{[], ◌∷◌, map}
use native.Mathlib.Nat.{not-le_of_lt}
use lib.Dec.{lit<}
use lib.IntN.{pos, negsuc}
use lib.Ieee.{fin, binary64, of_bits, round, units, odd, size, span, climb}
use Rattle.refusal.specs.declared.Refusal.TheVariants.{FieldOutside, Overloaded}
use Rattle.weight.specs.Bytes.{in_range}
use Rattle.weight.specs.Tenths.{value_of}
use Rattle.weight.proofs.Examples.{overloaded, e3_reading, e4_reading, minus_zero, e3_value, e4_value, minus_zero_value}
use Rattle.kilograms.specs.Rounded.{rounded, kilograms_of}
use Rattle.kilograms.specs.Within.{Within}

-- E3: the float nearest to 25.1, by its bits
pub e3_kilograms : kilograms_of e3_reading ≡ Ok (of_bits binary64 0x4039_1999_9999_999A)
unfolding kilograms_of rounded round units odd size span climb of_bits
e3_kilograms = rw e3_value

-- E4: minus a half, which is exact
pub e4_kilograms : kilograms_of e4_reading ≡ Ok (fin true 1 (negsuc 0))
unfolding kilograms_of rounded round units odd size span climb
e4_kilograms = rw e4_value

pub kilograms_of_minus_zero : kilograms_of minus_zero ≡ Ok (fin false 0 (pos 0))
unfolding kilograms_of rounded round units odd size span climb
kilograms_of_minus_zero = rw minus_zero_value

-- 02, request 7: nothing with the overload light on is no plus zero; and 8 comes before 24
pub kilograms_of_an_overload :
    map kilograms_of (overloaded 60000 0 ∷ overloaded 0 0 ∷ overloaded 0 8 ∷ []) ≡ Err Overloaded ∷ Err Overloaded ∷ Err FieldOutside ∷ []
unfolding kilograms_of value_of in_range
kilograms_of_an_overload = refl

-- 21 tenths of a milligram: the nearest float is further off than one part in 2^54
pub no_closer : Within (2 ^ 54) (rounded (pos 21)) false 21 10000000 → ⊥
unfolding rounded round units odd size span climb
no_closer near = not-le_of_lt (lit< tt) near.1
