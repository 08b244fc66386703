-- 02, request 5, "Parcel scales at the foot desk": "reading a written message back, and the single writing of each accepted one, are" claimed here.
-- Demand 3 is not claimed: "Header bytes may recur inside a body". ParcelsShown has a capture in which they do.
use Rattle.std.specs.Prelude.{ℕ, ◌*◌, ◌^◌, ◌≤◌, ◌<◌, ◌≡◌, Bool, true, false, List, [], ◌∷◌, ◌++◌, map, ℤ, pos, nat_abs, ◌*ℤ◌, T, length, take, replicate, Ok, Err}
use Rattle.std.specs.Int.Bits.{bit_xor}
use Rattle.std.proofs.Math.Pow.{are_bytes}
use Rattle.std.specs.Int.{w32}
use Rattle.std.proofs.Common.{SFits}
use Rattle.refusal.specs.declared.Refusal.TheVariants.{CodeUnknown, LengthWrong, FieldOutside, RoomShort, HeaderWrong, BytesMissing, ParcelCheckWrong}
use Rattle.room.specs.Writing.{Left, wrote}
use Rattle.register.specs.Register.{all_in}
use Rattle.parcel_check.specs.Check.{enter_byte, parcel_check}
use Rattle.parcel_check.specs.Printed.{printed}
use Rattle.parcel_scale.specs.declared.parcels.ParcelWeight.{ParcelWeight}
use Rattle.parcel_scale.specs.declared.parcels.Parcel.{Parcel}
use Rattle.parcel_scale.specs.declared.parcels.Parcel.TheVariants.{GetWeight, SetTare, GetDeviceId, AckWeight, AckCommand, AckDeviceId, Nack}
use Rattle.parcel_scale.specs.Frame.{headed, needs, body_in}
use Rattle.parcel_scale.specs.Layouts.{Row, Found, known, unknown, row_of}
use Rattle.parcel_scale.specs.Reading.{sized, within, whole, checked, read_parcel}
use Rattle.parcel_scale.specs.Value.{division_of, parcel_value}
use Rattle.parcel_scale.specs.Writing.{parcel_bytes, legal_fields, judged_parcel, written_parcel}
use Rattle.laws.specs.Exactly.{ExactlyWhere}
use Rattle.demands.specs.Messages.{count_written, written_bytes}

-- a message whose tare or count is "a signed 32-bit" number, as every message that a program can hold
abbrev pub OfItsTypes : Parcel → Type 0
OfItsTypes GetWeight = Unit
OfItsTypes (SetTare grams) = SFits w32 grams
OfItsTypes GetDeviceId = Unit
OfItsTypes (AckWeight told) = SFits w32 told.count
OfItsTypes AckCommand = Unit
OfItsTypes (AckDeviceId number) = Unit
OfItsTypes Nack = Unit

-- ---- "reading a written message back": the same message, and as many bytes used as were written, whatever stands behind them in the room

pub record ReadsBack (parcel : Parcel) (left : Left) : Type 0 where
  pub room : read_parcel left.room ≡ Ok (parcel, count_written left.answer)
  pub alone : read_parcel (written_bytes left) ≡ Ok (parcel, count_written left.answer)

abbrev pub ParcelReadsBack : Type 0
ParcelReadsBack = (parcel : Parcel) (room : List ℕ) → OfItsTypes parcel → judged_parcel parcel room ≡ Ok tt → ReadsBack parcel (written_parcel parcel room)

-- ---- "the single writing of each accepted one": it is written again as exactly the bytes that were used

pub record WrittenAsUsed (bytes : List ℕ) (parcel : Parcel) (used : ℕ) : Type 0 where
  pub there : used ≤ length bytes
  pub same : parcel_bytes parcel ≡ take used bytes
  pub written : (room : List ℕ) → used ≤ length room → written_parcel parcel room ≡ wrote (Ok tt) (take used bytes) room

abbrev pub SingleWriting : Type 0
SingleWriting = (bytes : List ℕ) (parcel : Parcel) (used : ℕ) → T (are_bytes bytes) → read_parcel bytes ≡ Ok (parcel, used) → WrittenAsUsed bytes parcel used

-- two messages never have one writing, of those that may be written
abbrev pub TwoWritings : Type 0
TwoWritings =
    (first second : Parcel) → OfItsTypes first → OfItsTypes second → legal_fields first ≡ true → legal_fields second ≡ true
    → parcel_bytes first ≡ parcel_bytes second → first ≡ second

-- ---- every byte string gets exactly one answer, by the order 20, 21, 22, 6, 7, 8

-- what is asked of a body: its code is one of the seven, its data have the row's length, its fields have values that they may have
abbrev pub of_row : (Row → List ℕ → Bool) → Found → List ℕ → Bool
of_row asked (known row) data' = asked row data'
of_row asked unknown data' = false

abbrev pub of_body : (Row → List ℕ → Bool) → List ℕ → Bool
of_body asked [] = false
of_body asked (code ∷ data') = of_row asked (row_of code) data'

abbrev pub code_known : List ℕ → Bool
code_known = of_body (λ (row : Row) (data' : List ℕ). true)

abbrev pub data_length_right : List ℕ → Bool
data_length_right = of_body sized

abbrev pub data_fields_right : List ℕ → Bool
data_fields_right = of_body within

-- header, length and check are passed
abbrev pub FramePassed : List ℕ → Type 0
FramePassed bytes = (headed bytes ≡ true) × ((whole bytes ≡ true) × (checked bytes ≡ true))

-- some message, with as many bytes used as header, length, body and check have
pub record Accepts (bytes : List ℕ) : Type 0 where
  pub parcel : Parcel
  pub told : read_parcel bytes ≡ Ok (parcel, needs bytes)

pub record AnsweredInOrder (bytes : List ℕ) : Type 0 where
  pub header : ExactlyWhere (read_parcel bytes ≡ Err HeaderWrong) (headed bytes ≡ false)
  pub missing : ExactlyWhere (read_parcel bytes ≡ Err BytesMissing) ((headed bytes ≡ true) × (whole bytes ≡ false))
  pub check : ExactlyWhere (read_parcel bytes ≡ Err ParcelCheckWrong) ((headed bytes ≡ true) × ((whole bytes ≡ true) × (checked bytes ≡ false)))
  pub code : ExactlyWhere (read_parcel bytes ≡ Err CodeUnknown) (FramePassed bytes × (code_known (body_in bytes) ≡ false))
  pub data_length : ExactlyWhere (read_parcel bytes ≡ Err LengthWrong) (FramePassed bytes × ((code_known (body_in bytes) ≡ true) × (data_length_right (body_in bytes) ≡ false)))
  pub field : ExactlyWhere (read_parcel bytes ≡ Err FieldOutside) (FramePassed bytes × ((code_known (body_in bytes) ≡ true) × ((data_length_right (body_in bytes) ≡ true) × (data_fields_right (body_in bytes) ≡ false))))
  pub accepted : ExactlyWhere (Accepts bytes) (FramePassed bytes × ((code_known (body_in bytes) ≡ true) × ((data_length_right (body_in bytes) ≡ true) × (data_fields_right (body_in bytes) ≡ true))))

abbrev pub OneAnswerInOrder : Type 0
OneAnswerInOrder = (bytes : List ℕ) → AnsweredInOrder bytes

-- "Bytes after the check aren't looked at": bytes behind a whole frame change nothing, also where it is refused
abbrev pub BehindTheCheck : Type 0
BehindTheCheck = (bytes more : List ℕ) → whole bytes ≡ true → read_parcel (bytes ++ more) ≡ read_parcel bytes

-- ---- "writing judges 6, 8, 9": 6 has nobody to meet

pub record JudgedInOrder (parcel : Parcel) (room : List ℕ) : Type 0 where
  pub never_code : judged_parcel parcel room ≡ Err CodeUnknown → ⊥
  pub field : ExactlyWhere (judged_parcel parcel room ≡ Err FieldOutside) (legal_fields parcel ≡ false)
  pub room_short : ExactlyWhere (judged_parcel parcel room ≡ Err RoomShort) ((legal_fields parcel ≡ true) × (length room < length (parcel_bytes parcel)))
  pub good : ExactlyWhere (judged_parcel parcel room ≡ Ok tt) ((legal_fields parcel ≡ true) × (length (parcel_bytes parcel) ≤ length room))

abbrev pub WritingInOrder : Type 0
WritingInOrder = (parcel : Parcel) (room : List ℕ) → JudgedInOrder parcel room

-- 8 is a division above 4 or a stable mark above 1, and nothing else: a tare, a count and a serial may have any value of their type
pub record LegalExactly : Type 0 where
  pub plain : map legal_fields (GetWeight ∷ GetDeviceId ∷ AckCommand ∷ Nack ∷ []) ≡ replicate 4 true
  pub tare : (grams : ℤ) → SFits w32 grams → legal_fields (SetTare grams) ≡ true
  pub serial : (number : ℕ) → number < 2 ^ 32 → legal_fields (AckDeviceId number) ≡ true
  pub weight : (told : ParcelWeight) → SFits w32 told.count → ExactlyWhere (legal_fields (AckWeight told) ≡ true) ((told.division ≤ 4) × (told.stable ≤ 1))

-- ---- the check

-- in parts
abbrev pub CheckInParts : Type 0
CheckInParts = (first second : List ℕ) → parcel_check (first ++ second) ≡ all_in enter_byte (parcel_check first) second

-- of 16 bits
abbrev pub CheckOfSixteenBits : Type 0
CheckOfSixteenBits = (body : List ℕ) → parcel_check body < 2 ^ 16

-- two bodies folded together, byte by byte
unfoldable pub folded_bytes : List ℕ → List ℕ → List ℕ
folded_bytes [] second = []
folded_bytes (byte ∷ first) [] = []
folded_bytes (byte ∷ first) (other ∷ second) = bit_xor byte other ∷ folded_bytes first second

-- linear
abbrev pub CheckLinear : Type 0
CheckLinear = (first second : List ℕ) → length first ≡ length second → parcel_check (folded_bytes first second) ≡ bit_xor (parcel_check first) (parcel_check second)

-- the code that 003 prints and 02's wording are one check, of whatever numbers
abbrev pub PrintedIsTheCheck : Type 0
PrintedIsTheCheck = (body : List ℕ) → printed 0 body ≡ parcel_check body

-- ---- the value

-- at most 2^31 divisions of a kilogram, sign aside
abbrev pub ValueBound : Type 0
ValueBound = (told : ParcelWeight) (tenths : ℤ) → SFits w32 told.count → parcel_value told ≡ Ok tenths → nat_abs tenths ≤ 2 ^ 31 * 10 ^ 7

-- a weight that was read has a value
abbrev pub ReadHasValue : Type 0
ReadHasValue =
    (bytes : List ℕ) (told : ParcelWeight) (used : ℕ) → read_parcel bytes ≡ Ok (AckWeight told, used)
    → parcel_value told ≡ Ok (told.count *ℤ pos (division_of told.division))
