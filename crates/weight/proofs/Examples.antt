-- Shown: the readings and values of the judged examples E3 and E4, the largest value, a minus zero, an overloaded bridge, and what is refused.
-- Why: each side computes to the same.
use Rattle.std.specs.Prelude.{Ok, Err}
use Prim.Native.Nat.{ℕ}
use mathlib.Core.Path.{◌≡◌, refl}
use mathlib.Core.Bool.{Bool, true, false}
use mathlib.Core.List.{[], ◌∷◌, map}
use lib.IntN.{pos, neg_ℤ}
use Rattle.refusal.specs.declared.Refusal.TheVariants.{FieldOutside, Overloaded}
use Rattle.refusal.specs.Numbers.{number_of}
use Rattle.weight.specs.declared.families.Family.{Family}
use Rattle.weight.specs.declared.families.Family.TheVariants.{Plain, Of000, Of001, Of002}
use Rattle.weight.specs.declared.FourBytes.{FourBytes}
use Rattle.weight.specs.declared.Reading.{Reading}
use Rattle.weight.specs.Families.{named_in, family_named}
use Rattle.weight.specs.Bytes.{in_range, read_as, read_of, packed_of}
use Rattle.weight.specs.Tenths.{value_of, difference_of}

-- a reading of 002 without overload and with bits 6 and 5 clear: sign bit, number, point, settled
abbrev pub shown : Bool → ℕ → ℕ → Bool → Reading
shown minus number point settled =
    record { minus = minus; number = number; point = point; bit6 = false; bit5 = false; settled = settled; overload = false; family = Of002 }

-- E3: 25.1 kg, not settled
abbrev pub e3_reading : Reading
e3_reading = shown false 251 1 false

abbrev pub e3_bytes : FourBytes
e3_bytes = record { w0 = 0x51; w1 = 0x02; w2 = 0x00; con = 0x01; family = 3 }

pub e3_read : read_of e3_bytes ≡ Ok e3_reading
unfolding read_of read_as family_named named_in
e3_read = refl

pub e3_value : value_of e3_reading ≡ Ok (pos 251000000)
unfolding value_of in_range
e3_value = refl

-- E4: minus 0.5 kg, settled
abbrev pub e4_reading : Reading
e4_reading = shown true 5 1 true

abbrev pub e4_bytes : FourBytes
e4_bytes = record { w0 = 0x05; w1 = 0x00; w2 = 0x00; con = 0x91; family = 3 }

pub e4_read : read_of e4_bytes ≡ Ok e4_reading
unfolding read_of read_as family_named named_in
e4_read = refl

pub e4_value : value_of e4_reading ≡ Ok (neg_ℤ (pos 5000000))
unfolding value_of in_range
e4_value = refl

-- "Gross less net is a signed difference and may be negative."
pub e3_less_e4 : difference_of e3_reading e4_reading ≡ Ok (pos 256000000)
unfolding difference_of value_of in_range
e3_less_e4 = refl

pub e4_less_e3 : difference_of e4_reading e3_reading ≡ Ok (neg_ℤ (pos 256000000))
unfolding difference_of value_of in_range
e4_less_e3 = refl

-- "The largest is 9,999,990,000,000."
pub largest_value : value_of (shown false 999999 0 true) ≡ Ok (pos 9999990000000)
unfolding value_of in_range
largest_value = refl

-- "Minus zero is 0 in value and keeps its sign bit in the reading."
abbrev pub minus_zero : Reading
minus_zero = shown true 0 0 true

pub minus_zero_value : value_of minus_zero ≡ Ok (pos 0)
unfolding value_of in_range
minus_zero_value = refl

pub minus_zero_bytes : packed_of minus_zero ≡ Ok (record { w0 = 0x00; w1 = 0x00; w2 = 0x00; con = 0x90; family = 3 })
unfolding packed_of in_range
minus_zero_bytes = refl

-- ---- `FieldOutside` is refusal 8: a half above 9, a number above 999,999, a point above 7, in either reading

pub outside_is_8 : number_of FieldOutside ≡ 8
outside_is_8 = refl

pub half_of_ten : read_of (record { w0 = 0x0A; w1 = 0x00; w2 = 0x00; con = 0x00; family = 3 }) ≡ Err FieldOutside
unfolding read_of read_as family_named named_in
half_of_ten = refl

pub seven_digits : packed_of (shown false 1000000 0 true) ≡ Err FieldOutside
unfolding packed_of in_range
seven_digits = refl

pub point_of_8 : value_of (shown false 0 8 true) ≡ Err FieldOutside
unfolding value_of in_range
point_of_8 = refl

pub net_outside : difference_of e3_reading (shown false 0 8 true) ≡ Err FieldOutside
unfolding difference_of in_range
net_outside = refl

-- ---- 02, request 7: "24 overload, after 8"; the four bytes come back

abbrev pub overloaded : ℕ → ℕ → Reading
overloaded number point =
    record { minus = false; number = number; point = point; bit6 = false; bit5 = false; settled = true; overload = true; family = Of002 }

pub overloaded_is_24 : number_of Overloaded ≡ 24
overloaded_is_24 = refl

-- 60 tonnes, and nothing at all; and a number out of its range
pub overloaded_values :
    map value_of (overloaded 60000 0 ∷ overloaded 0 0 ∷ overloaded 1000000 0 ∷ overloaded 0 8 ∷ [])
    ≡ Err Overloaded ∷ Err Overloaded ∷ Err FieldOutside ∷ Err FieldOutside ∷ []
unfolding value_of in_range
overloaded_values = refl

-- 8 of either reading, then 24 of either
pub overloaded_differences :
    map (difference_of (overloaded 60000 0)) (e3_reading ∷ overloaded 1 0 ∷ shown false 0 8 true ∷ [])
    ≡ Err Overloaded ∷ Err Overloaded ∷ Err FieldOutside ∷ []
unfolding difference_of value_of in_range
overloaded_differences = refl

pub less_overloaded :
    map (λ (gross : Reading). difference_of gross (overloaded 60000 0)) (e3_reading ∷ shown false 0 8 true ∷ [])
    ≡ Err Overloaded ∷ Err FieldOutside ∷ []
unfolding difference_of value_of in_range
less_overloaded = refl

abbrev overloaded_bytes : FourBytes
overloaded_bytes = record { w0 = 0x00; w1 = 0x00; w2 = 0x06; con = 0x18; family = 3 }

pub overloaded_read : read_of overloaded_bytes ≡ Ok (overloaded 60000 0)
unfolding read_of read_as family_named named_in
overloaded_read = refl

pub overloaded_packed : packed_of (overloaded 60000 0) ≡ Ok overloaded_bytes
unfolding packed_of in_range
overloaded_packed = refl

-- ---- bits 6 and 5, by the family: each reads four bytes with both set but for 002, which reserves bit 6; a number above 3 names none

abbrev pub both_set : ℕ → FourBytes
both_set number = record { w0 = 0x00; w1 = 0x00; w2 = 0x00; con = 0x60; family = number }

abbrev pub with_both : Family → Reading
with_both family =
    record { minus = false; number = 0; point = 0; bit6 = true; bit5 = true; settled = false; overload = false; family = family }

pub read_by_family :
    map read_of (both_set 0 ∷ both_set 1 ∷ both_set 2 ∷ both_set 3 ∷ both_set 4 ∷ both_set 255 ∷ [])
    ≡ Ok (with_both Plain) ∷ Ok (with_both Of000) ∷ Ok (with_both Of001) ∷ Err FieldOutside ∷ Err FieldOutside ∷ Err FieldOutside ∷ []
unfolding read_of read_as family_named named_in
read_by_family = refl

pub packed_by_family :
    map packed_of (with_both Plain ∷ with_both Of000 ∷ with_both Of001 ∷ with_both Of002 ∷ [])
    ≡ Ok (both_set 0) ∷ Ok (both_set 1) ∷ Ok (both_set 2) ∷ Err FieldOutside ∷ []
unfolding packed_of in_range
packed_by_family = refl
