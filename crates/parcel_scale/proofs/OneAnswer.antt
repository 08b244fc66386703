-- Shown: each promise of this crate admits one answer.
-- Why: each is an equation with a definition; a write's promise is two, of the answer and of the room.
use Rattle.std.specs.Prelude.{Result, ℤ}
use Prim.Native.Nat.{ℕ}
use mathlib.Core.Path.{◌≡◌}
use mathlib.Core.List.{List}
use Rattle.laws.proofs.OneAnswer.{one}
use Rattle.room.specs.Writing.{Leaves}
use Rattle.room.proofs.OneAnswer.{leaves_one}
use Rattle.parcel_scale.specs.declared.parcels.ParcelWeight.{ParcelWeight}
use Rattle.parcel_scale.specs.declared.parcels.Parcel.{Parcel}
use Rattle.parcel_scale.specs.Reading.{read_parcel}
use Rattle.parcel_scale.specs.Value.{parcel_value}
use Rattle.parcel_scale.specs.Writing.{written_parcel}
use Rattle.refusal.specs.declared.Refusal.{Refusal}

pub read_one : (bytes : List ℕ) (a b : Result (Parcel × ℕ) Refusal) → a ≡ read_parcel bytes → b ≡ read_parcel bytes → a ≡ b
read_one bytes a b = one

pub value_of_one : (told : ParcelWeight) (a b : Result ℤ Refusal) → a ≡ parcel_value told → b ≡ parcel_value told → a ≡ b
value_of_one told a b = one

pub write_one : (parcel : Parcel) (room : List ℕ) (a b : Result ℕ Refusal) (l m : List ℕ)
    → Leaves (written_parcel parcel room) a l → Leaves (written_parcel parcel room) b m → (a ≡ b) × (l ≡ m)
write_one parcel room a b l m = leaves_one
