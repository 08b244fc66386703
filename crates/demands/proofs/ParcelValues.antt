-- Shown: a parcel's value is at most 2^31 divisions of a kilogram, sign aside, and every weight that was read has one.
-- Why: a legal division is at most 4, so at most 10^7 tenths of a milligram, and a weight that was read has legal fields.
use native.Mathlib.Omega.{arith}
use native.Mathlib.Nat.{pow-le-pow_right}
use Rattle.std.proofs.lemmas.Grind.{common_steps}
use Rattle.parcel_scale.specs.declared.parcels.Parcel.TheVariants.{AckWeight}
use Rattle.parcel_scale.specs.Value.{parcel_value}
use Rattle.parcel_scale.proofs.Values.{value_most}
use Rattle.demands.specs.Parcels.{ValueBound, ReadHasValue}
use Rattle.demands.proofs.ParcelWriting.{legal_exactly}
use Rattle.demands.proofs.ParcelsBack.{read_legal}

pub value_bound : ValueBound
unfolding parcel_value
value_bound told tenths fits e = grind (arith, common_steps, legal_exactly, pow-le-pow_right, value_most)

pub read_has_value : ReadHasValue
unfolding parcel_value
read_has_value bytes told used e = rw (read_legal bytes (AckWeight told) used e)
