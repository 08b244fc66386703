-- Shown: a number over what is common to the size of a sum and its count is what the library's division computes, and it fits 64 bits.
-- Why: what is common divides the count, so that it is positive and small; a quotient is no larger than what is divided.
use Rattle.std.proofs.Common.{ℕ, ◌/◌, ◌^◌, ◌<◌, ◌≤◌, ◌≡◌, ◌∙◌, refl, arith}
use Rattle.std.proofs.lemmas.Int.{quot_fits}
use lib.Dec.{lt→ltb}
use lib.IntN.{ℤ, pos, negsuc, nat_abs}
use lib.Signed.{quot_z}
use mir.Syntax.{w64}
use mir.Val.{SFits, to_z, of_z}
use mir.ValLaws.{to_z_pos, to_z-of_z}
use native.Mathlib.Nat.{le_of_dvd}
use Rattle.hour_mean.specs.Means.{greatest_common, signed_as}
use Rattle.hour_mean.proofs.Greatest.{greatest_common_lem, greatest_positive}

-- a quotient by a number that is not negative has the sign of what is divided
pub quotient_is : (sum : ℤ) (part : ℕ) → quot_z sum (pos part) ≡ signed_as sum (nat_abs sum / part)
quotient_is (pos n) part = refl
quotient_is (negsuc n) part = refl

-- what is common to the size of a sum and its count, as the code has it
module _ (count size shared : ℕ) (few : count < 65536) (some : count ≡ 0 → ⊥) (is : shared ≡ greatest_common size count) where
  pub positive : 0 < shared
  positive = rw is (greatest_positive size count (omega arith))

  pub small : shared < 2 ^ 63
  small =
      let most : greatest_common size count ≤ count = le_of_dvd (omega arith) (greatest_common_lem size count).of_count in
      omega arith

  pub fits : (number : ℤ) → SFits w64 number → (0 < shared) × SFits w64 (quot_z (to_z w64 (of_z w64 number)) (to_z w64 shared))
  fits number held =
      (positive, rw (to_z-of_z w64 number held, to_z_pos w64 shared small) (quot_fits w64 number (pos shared) held (record { lt = lt→ltb 0 shared positive })))

  -- what the code divides
  pub told : (number : ℤ) → SFits w64 number → to_z w64 (of_z w64 (quot_z (to_z w64 (of_z w64 number)) (to_z w64 shared))) ≡ quot_z number (pos shared)
  told number held = to_z-of_z w64 _ (fits number held).1 ∙ rw (to_z-of_z w64 number held, to_z_pos w64 shared small)
