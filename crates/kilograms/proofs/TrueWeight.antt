-- Shown: the kilograms of a reading lie within one part in 2^53 of its true weight and have its sign, and value 0 gives plus zero.
-- Why: a value is at most 9,999,990,000,000, so its quotient is in the normal range and is rounded to the nearest float.
use Rattle.std.specs.Prelude.{Ok}
use Prim.Native.Nat.{ℕ, zero, suc, ◌^◌, ◌≤◌, zero-le}
use mathlib.Core.Path.{◌≡◌, refl, ap, ◌∙◌}
use mathlib.Core.Bool.{Bool, true, false}
use native.Mathlib.Nat.{le_trans, mul-le-mul_right, lt_of_le_of_lt, zero-lt-suc}
use lib.Dec.{lit<, lit≤}
use lib.IntN.{ℤ, pos, negsuc, nat_abs}
use lib.Ieee.{Float, fin, binary64, low, round, size, units, odd, span, climb}
use Rattle.weight.specs.declared.Reading.{Reading}
use Rattle.weight.specs.Tenths.{value_of}
use Rattle.weight.proofs.Values.{value_bound}
use Rattle.kilograms.specs.Rounded.{rounded, kilograms_of}
use Rattle.kilograms.specs.Within.{NearTrueWeight, Within}
use Rattle.kilograms.proofs.Rounding.{many, round_within}

-- "value 0 gives plus zero"
zero_gives_plus_zero : rounded (pos 0) ≡ fin false 0 (pos 0)
unfolding rounded round units odd size span climb
zero_gives_plus_zero = refl

-- a size above 0 over ten million
above_zero : (sign : Bool) (n : ℕ) → suc n ≤ 9999990000000 → Within (2 ^ 53) (round binary64 sign (suc n) 10000000) sign (suc n) 10000000
above_zero sign n h = round_within binary64 sign (suc n) 10000000 (lit< tt)
    (lt_of_le_of_lt (mul-le-mul_right 2 h) (lit< tt)) (le_trans (lit≤ tt) (many (2 ^ low binary64) (zero-lt-suc n)))

near : (value : ℤ) → nat_abs value ≤ 9999990000000 → NearTrueWeight value (rounded value)
unfolding rounded round units odd size span climb
near (pos zero) h = (refl, zero-le)
near (pos (suc n)) h = above_zero false n h
near (negsuc n) h = above_zero true n h

-- the two laws of a reading's answer
module _ (reading : Reading) (value : ℤ) (of_reading : value_of reading ≡ Ok value) where
  answer : kilograms_of reading ≡ Ok (rounded value)
  unfolding kilograms_of
  answer = rw of_reading

  pub near_true_weight : (float : Float) → kilograms_of reading ≡ Ok float → NearTrueWeight value float
  near_true_weight float e =
      let made = answer in
      let same : float ≡ rounded value = cc in
      rw same (near value (value_bound reading value of_reading))

  pub plus_zero : value ≡ pos 0 → kilograms_of reading ≡ Ok (fin false 0 (pos 0))
  plus_zero e = answer ∙ ap Ok (ap rounded e ∙ zero_gives_plus_zero)
