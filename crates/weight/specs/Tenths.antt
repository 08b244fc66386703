-- 01, "Weight": "Its value is a signed whole number of tenths of a milligram: the digits times 10^(7 − point), negated for minus. Minus zero
-- is 0 in value and keeps its sign bit in the reading." "Gross less net is a signed difference and may be negative." 02, request 7: "The value of a
-- reading with bit 3 set must be refused"; "the gross less net difference" is "refused too"; "24 overload, after 8, instead of a value".
use Rattle.std.specs.Prelude.{ℕ, ◌*◌, ◌-◌, ◌^◌, Bool, true, false, ◌&&◌, cond, ℤ, pos, neg_ℤ, ◌-ℤ◌, Result, Ok, Err}
use Rattle.refusal.specs.declared.Refusal.TheVariants.{FieldOutside, Overloaded}
use Rattle.weight.specs.declared.Reading.{Reading}
use Rattle.weight.specs.Bytes.{in_range}
use Rattle.refusal.specs.declared.Refusal.{Refusal}

-- a number with a sign; minus zero is 0
abbrev pub signed : Bool → ℕ → ℤ
signed true size = neg_ℤ (pos size)
signed false size = pos size

-- "the digits times 10^(7 − point), negated for minus": what the digits say, whether or not it is a value
abbrev pub tenths_shown : Reading → ℤ
tenths_shown reading = signed reading.minus (reading.number * 10 ^ (7 - reading.point))

-- the value of a reading, or refusal 8, and then 24 where bit 3 is set; every user of a reading's value asks here
unfoldable pub value_of : Reading → Result ℤ Refusal
value_of reading = cond (in_range reading) (cond reading.overload (Err Overloaded) (Ok (tenths_shown reading))) (Err FieldOutside)

-- a value less another; a refusal of the first goes before one of the second
abbrev pub less : Result ℤ Refusal → Result ℤ Refusal → Result ℤ Refusal
less (Ok gross) (Ok net) = Ok (gross -ℤ net)
less (Ok gross) (Err why) = Err why
less (Err why) net = Err why

-- gross less net: first 8 of either reading, then 24 of either, as their values say
unfoldable pub difference_of : Reading → Reading → Result ℤ Refusal
difference_of gross net = cond (in_range gross && in_range net) (less (value_of gross) (value_of net)) (Err FieldOutside)
