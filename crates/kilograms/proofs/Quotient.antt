-- Shown: a whole number within 2^53 as a float, divided by the float ten million, is the quotient rounded once.
-- Why: the cast is exact, ten million is exact, and division rounds the quotient of the two exact fractions.
use Rattle.std.specs.Prelude.{Ok}
use Prim.Native.Nat.{ℕ, suc, ◌*◌, ◌^◌, ◌≤◌}
use mathlib.Core.Path.{◌≡◌, refl, ap, ◌∙◌}
use mathlib.Core.Bool.{Bool, true, false}
use native.Mathlib.Nat.{mul-pos, mul_assoc, mul_comm}
use native.Mathlib.Omega.{arith}
use lib.Dec.{T, lit<, le→leb}
use lib.IntN.{ℤ, pos, negsuc, nat_abs}
use lib.Ieee.{Float, nan, inf, fin, binary64, up, down, unlike, round, div, of_int, of_bits, in_float}
use lib.Ieee.Back.{round_whole}
use lib.Ieee.Exact.{HasValue}
use lib.Ieee.Fits.{down_pos}
use lib.Ieee.Scale.{round_same}
use mir.Syntax.{w64}
use mir.Val.{to_z, of_z}
use mir.ValLaws.{to_z-of_z}
use Rattle.weight.specs.declared.Reading.{Reading}
use Rattle.weight.specs.Tenths.{value_of}
use Rattle.weight.proofs.Values.{value_bound, value_fits}
use Rattle.kilograms.specs.Rounded.{rounded}

-- the float 10,000,000.0, by its bits
abbrev pub ten_million : Float
ten_million = of_bits binary64 4711630319722168320

unlike_plus : (s : Bool) → unlike s false ≡ s
unlike_plus true = refl
unlike_plus false = refl

-- an exact number over ten million
exact_over : (x : Float) (s : Bool) (n : ℕ) → HasValue x s n 1 → div binary64 x ten_million ≡ round binary64 s n 10000000
unfolding div of_bits
exact_over nan s n v = absurd v
exact_over (inf t) s n v = absurd v
exact_over (fin t m e) s n v =
    ap (λ (sign : Bool). round binary64 sign (m * up e * 1) (10000000 * down e)) (unlike_plus t ∙ v.0)
    ∙ round_same binary64 s (m * up e * 1) (10000000 * down e) n 10000000 (mul-pos (lit< tt) (down_pos e)) (lit< tt)
    (ap (λ (x : ℕ). x * 10000000) v.1 ∙ mul_assoc n (down e) 10000000 ∙ ap (λ (x : ℕ). n * x) (mul_comm (down e) 10000000))

quotient : (value : ℤ) → nat_abs value ≤ 2 ^ 53 → div binary64 (of_int binary64 value) ten_million ≡ rounded value
unfolding of_int rounded
quotient (pos n) h = exact_over (round binary64 false n 1) false n (round_whole binary64 false n h)
quotient (negsuc n) h = exact_over (round binary64 true (suc n) 1) true (suc n) (round_whole binary64 true (suc n) h)

-- the cast's own need: no digit of a number within 2^53 is lost
castable : (value : ℤ) → nat_abs value ≤ 2 ^ 53 → T (in_float binary64 value)
unfolding in_float
castable (pos n) h = le→leb n (2 ^ 53) h
castable (negsuc n) h = le→leb (suc n) (2 ^ 53) h

-- a reading's value as the machine holds it: its cast loses no digit, and the one division rounds
module _ (reading : Reading) (value : ℤ) (of_reading : value_of reading ≡ Ok value) where
  held : to_z w64 (of_z w64 value) ≡ value
  held = to_z-of_z w64 value (value_fits reading value of_reading)

  small : nat_abs value ≤ 2 ^ 53
  small = let h = value_bound reading value of_reading in omega arith

  pub reading_castable : T (in_float binary64 (to_z w64 (of_z w64 value)))
  reading_castable = rw held (castable value small)

  pub reading_quotient : div binary64 (of_int binary64 (to_z w64 (of_z w64 value))) ten_million ≡ rounded value
  reading_quotient = rw held (quotient value small)
