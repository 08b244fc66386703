-- Shown: a inRange reading's number, point and bit 6, the largest size, and that a size with its sign fits 64 bits.
-- Why: `inRange` is three tests; 10^(7 - point) is at most 10^7; a sign adds at most one to a magnitude.
use Prim.Native.Nat.{ℕ, zero, suc, ◌*◌, ◌-◌, ◌^◌, ◌<◌, ◌≤◌}
use mathlib.Core.Path.{◌≡◌, refl}
use mathlib.Core.Bool.{Bool, true, false, ◌&&◌, and-eq-true_iff}
use native.Mathlib.Nat.{mul-le-mul, pow-le-pow_right}
use native.Mathlib.Omega.{arith}
use lib.Dec.{leb}
use lib.IntN.{ℤ, pos, negsuc, nat_abs}
use lib.Signed.{mag}
use mir.Syntax.{w64}
use mir.Val.{SFits}
use borrow.Author.Tests.{leb-true}
use Rattle.weight.specs.declared.Reading.{Reading}
use Rattle.weight.specs.Families.{terminal, allowed}
use Rattle.weight.specs.Bytes.{in_range}
use Rattle.weight.specs.Tenths.{signed}

module _ (reading : Reading) (good : in_range reading ≡ true) where
  abbrev sized : Bool
  sized = leb reading.number 999999 && leb reading.point 7

  abbrev clear : Bool
  clear = allowed (terminal reading.family).sixth reading.bit6

  legal_sized : sized ≡ true
  unfolding in_range
  legal_sized = ((and-eq-true_iff sized clear).0 good).0

  pub legal_number : reading.number ≤ 999999
  legal_number = leb-true _ _ ((and-eq-true_iff (leb reading.number 999999) (leb reading.point 7)).0 legal_sized).0

  pub legal_point : reading.point ≤ 7
  legal_point = leb-true _ _ ((and-eq-true_iff (leb reading.number 999999) (leb reading.point 7)).0 legal_sized).1

  pub legal_sixth : clear ≡ true
  unfolding in_range
  legal_sixth = ((and-eq-true_iff sized clear).0 good).1

-- "The largest is 9,999,990,000,000"
pub size_le : (number point : ℕ) → number ≤ 999999 → number * 10 ^ (7 - point) ≤ 9999990000000
size_le number point h = mul-le-mul h (pow-le-pow_right {n = 10} (omega arith) {i = 7 - point} {j = 7} (omega arith))

pub abs_signed : (minus : Bool) (size : ℕ) → nat_abs (signed minus size) ≡ size
abs_signed false size = refl
abs_signed true zero = refl
abs_signed true (suc size) = refl

mag_le : (z : ℤ) → mag z ≤ nat_abs z
mag_le (pos n) = omega arith
mag_le (negsuc n) = omega arith

-- a number whose magnitude is below 2^63 fits
pub fits_64 : (z : ℤ) → nat_abs z < 2 ^ 63 → SFits w64 z
fits_64 z h = let m = mag_le z in record { sfits = omega arith }
