-- 02, request 5: "The weight is a signed 32-bit count of divisions; codes 0 to 4 are 100 mg, 1 g, 10 g, 100 g, 1 kg; the value comes out in our
-- tenths of a milligram. Stable is 0 or 1." A tenth of a milligram is 01's unit: 100 mg are 1,000 of them.
use Rattle.std.specs.Prelude.{ℕ, ◌+◌, ◌^◌, cond, pos, ◌*ℤ◌, Result, Ok, Err, ℤ}
use Rattle.refusal.specs.declared.Refusal.TheVariants.{FieldOutside}
use Rattle.parcel_scale.specs.declared.parcels.ParcelWeight.{ParcelWeight}
use Rattle.parcel_scale.specs.declared.parcels.Parcel.TheVariants.{AckWeight}
use Rattle.parcel_scale.specs.Writing.{legal_fields}
use Rattle.refusal.specs.declared.Refusal.{Refusal}

-- a division in tenths of a milligram: code 0 is 100 mg, and each code is ten times the one before
abbrev pub division_of : ℕ → ℕ
division_of code = 10 ^ (3 + code)

-- the value of a weight, or 8 where a field is outside its values: a division above 4 or a stable mark above 1
unfoldable pub parcel_value : ParcelWeight → Result ℤ Refusal
parcel_value told = cond (legal_fields (AckWeight told)) (Ok (told.count *ℤ pos (division_of told.division))) (Err FieldOutside)
