-- Shown: no value is beyond 9,999,990,000,000 either way, and the difference of two values fits 64 bits.
-- Why: a value is a inRange number times at most 10^7; a difference is at most the two magnitudes together.
use Rattle.std.specs.Prelude.{Ok, Err}
use Prim.Native.Nat.{ℕ, zero, suc, ◌+◌, ◌-◌, ◌≤◌}
use mathlib.Core.Path.{◌≡◌, refl, ◌∙◌, ap₂}
use mathlib.Core.Bool.{Bool, true, false, cond}
use native.Mathlib.Omega.{arith}
use lib.Dec.{ltb}
use lib.IntN.{ℤ, pos, negsuc, nat_abs, sub_ℕ, ◌-ℤ◌}
use mir.Syntax.{w64}
use mir.Val.{SFits, to_z, of_z}
use mir.ValLaws.{to_z-of_z}
use borrow.Author.Tests.{ltb-true, ltb-false}
use Rattle.refusal.specs.declared.Refusal.TheVariants.{FieldOutside, Overloaded}
use Rattle.weight.specs.declared.Reading.{Reading}
use Rattle.weight.specs.Bytes.{in_range}
use Rattle.weight.specs.Tenths.{tenths_shown, value_of}
use Rattle.weight.proofs.Sizes.{legal_number, size_le, abs_signed, fits_64}

-- "The largest is 9,999,990,000,000."
pub value_bound : (reading : Reading) (value : ℤ) → value_of reading ≡ Ok value → nat_abs value ≤ 9999990000000
unfolding value_of
value_bound reading value = by_tests (in_range reading) reading.overload refl
  where
    by_tests : (good over : Bool) → in_range reading ≡ good
        → cond good (cond over (Err Overloaded) (Ok (tenths_shown reading))) (Err FieldOutside) ≡ Ok value
        → nat_abs value ≤ 9999990000000
    by_tests true false good e =
        let same : value ≡ tenths_shown reading = cc in
        rw (same, abs_signed) (size_le reading.number reading.point (legal_number reading good))
    by_tests true true good e = cc
    by_tests false over good e = cc

pub value_fits : (reading : Reading) (value : ℤ) → value_of reading ≡ Ok value → SFits w64 value
value_fits reading value e = let h = value_bound reading value e in fits_64 value (omega arith)

abs_subℕ : (a b : ℕ) → nat_abs (sub_ℕ a b) ≤ a + b
abs_subℕ a b = by_order (ltb a b) refl
  where
    by_order : (t : Bool) → ltb a b ≡ t → nat_abs (cond t (negsuc (b - suc a)) (pos (a - b))) ≤ a + b
    by_order true e = omega (arith, ltb-true a b e)
    by_order false e = omega (arith, ltb-false a b e)

pub abs_less : (a b : ℤ) → nat_abs (a -ℤ b) ≤ nat_abs a + nat_abs b
abs_less (pos a) (pos zero) = omega arith
abs_less (pos a) (pos (suc b)) = abs_subℕ a (suc b)
abs_less (pos a) (negsuc b) = omega arith
abs_less (negsuc a) (pos zero) = let h = abs_subℕ 0 (suc a) in omega arith
abs_less (negsuc a) (pos (suc b)) = omega arith
abs_less (negsuc a) (negsuc b) = let h = abs_subℕ (suc b) (suc a) in omega arith

-- two values, and their difference as the machine makes it from their bits
module _ (gross net : Reading) (a b : ℤ) (of_gross : value_of gross ≡ Ok a) (of_net : value_of net ≡ Ok b) where
  read_back : to_z w64 (of_z w64 a) -ℤ to_z w64 (of_z w64 b) ≡ a -ℤ b
  read_back = ap₂ ◌-ℤ◌ (to_z-of_z w64 a (value_fits gross a of_gross)) (to_z-of_z w64 b (value_fits net b of_net))

  pub difference_fits : SFits w64 (to_z w64 (of_z w64 a) -ℤ to_z w64 (of_z w64 b))
  difference_fits =
      let h = abs_less a b in
      let ha = value_bound gross a of_gross in
      let hb = value_bound net b of_net in
      rw read_back (fits_64 (a -ℤ b) (omega arith))

  pub difference_made : to_z w64 (of_z w64 (to_z w64 (of_z w64 a) -ℤ to_z w64 (of_z w64 b))) ≡ a -ℤ b
  difference_made = to_z-of_z w64 (to_z w64 (of_z w64 a) -ℤ to_z w64 (of_z w64 b)) difference_fits ∙ read_back
