-- Weights for another language. Four bytes and the number of a family go in; a reading, a value or kilograms come out. A refused answer has fields that no weight has;
-- 8 and 24 (an overloaded reading has no value) cross alike.
use Rattle.std.specs.Prelude.{ℕ, Bool, true, false, ℤ, negsuc, Result, Ok, Err, Float}
use Rattle.std.specs.Float.{nan}
use Rattle.refusal.specs.declared.Refusal.{Refusal}
use Rattle.refusal.specs.Numbers.{number_of}
use Rattle.weight.specs.declared.Reading.{Reading}
use Rattle.weight.specs.Families.{family_number}
use Rattle.weight.specs.Tenths.{value_of, difference_of}
use Rattle.kilograms.specs.Rounded.{kilograms_of}
use Rattle.quay_weight.specs.declared.weights.QuayReading.{QuayReading}
use Rattle.quay_weight.specs.declared.weights.QuayValue.{QuayValue}
use Rattle.quay_weight.specs.declared.weights.QuayKilograms.{QuayKilograms}

abbrev pub mark : Bool → ℕ
mark true = 1
mark false = 0

-- ---- a reading

abbrev pub good_reading : Reading → QuayReading
good_reading reading = record {
  number = reading.number;
  point = reading.point;
  minus = mark reading.minus;
  bit6 = mark reading.bit6;
  bit5 = mark reading.bit5;
  settled = mark reading.settled;
  overload = mark reading.overload;
  family = family_number reading.family;
  refusal = 0;
}

-- a number above 999,999, marks above 1, no family. The point is 0: with more digits behind it the number would look small, and like nothing with 255
abbrev pub no_reading : Refusal → QuayReading
no_reading why = record {
  number = 4_294_967_295;
  point = 0;
  minus = 255;
  bit6 = 255;
  bit5 = 255;
  settled = 255;
  overload = 255;
  family = 255;
  refusal = number_of why;
}

abbrev pub reading_out : Result Reading Refusal → QuayReading
reading_out (Ok reading) = good_reading reading
reading_out (Err why) = no_reading why

-- ---- a value

-- the lowest number of 64 bits: no weight is so low
abbrev pub no_value : ℤ
no_value = negsuc 9_223_372_036_854_775_807

abbrev pub value_out : Result ℤ Refusal → QuayValue
value_out (Ok tenths) = record { value = tenths; refusal = 0 }
value_out (Err why) = record { value = no_value; refusal = number_of why }

abbrev pub value_read : Result Reading Refusal → Result ℤ Refusal
value_read (Ok reading) = value_of reading
value_read (Err why) = Err why

abbrev pub difference_read : Result Reading Refusal → Result Reading Refusal → Result ℤ Refusal
difference_read (Err why) net = Err why
difference_read (Ok gross) (Err why) = Err why
difference_read (Ok gross) (Ok net) = difference_of gross net

-- ---- kilograms

abbrev pub kilograms_out : Result Float Refusal → QuayKilograms
kilograms_out (Ok kilograms) = record { kilograms = kilograms; refusal = 0 }
kilograms_out (Err why) = record { kilograms = nan; refusal = number_of why }

abbrev pub kilograms_read : Result Reading Refusal → Result Float Refusal
kilograms_read (Ok reading) = kilograms_of reading
kilograms_read (Err why) = Err why
