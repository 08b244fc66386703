-- 01, "Weight": "The model reads kilograms as a 64-bit float: the value over 10,000,000, rounded once." 02, request 7: "the float" of an overloaded
-- reading is "refused too".
use Rattle.std.specs.Prelude.{ℕ, Bool, true, false, ℤ, pos, negsuc, nat_abs, Float, Result, Ok, Err}
use Rattle.std.specs.Float.{binary64}
use Rattle.std.specs.Float.Ieee.{round}
use Rattle.weight.specs.declared.Reading.{Reading}
use Rattle.weight.specs.Tenths.{value_of}
use Rattle.refusal.specs.declared.Refusal.{Refusal}

-- whether a value is below 0; a value of 0 is not, whatever the reading's sign bit
abbrev pub negative : ℤ → Bool
negative (pos size) = false
negative (negsuc size) = true

-- "the value over 10,000,000"
abbrev pub per_kilogram : ℕ
per_kilogram = 10_000_000

-- the 64-bit float nearest to it
unfoldable pub rounded : ℤ → Float
rounded value = round binary64 (negative value) (nat_abs value) per_kilogram

-- each case of a value; a refusal, 8 or 24, stays what it is
abbrev pub in_kilograms : Result ℤ Refusal → Result Float Refusal
in_kilograms (Ok value) = Ok (rounded value)
in_kilograms (Err why) = Err why

unfoldable pub kilograms_of : Reading → Result Float Refusal
kilograms_of reading = in_kilograms (value_of reading)
