-- 003, section 3: the messages of the parcel scales, field by field, in one table. 02, request 5: "Read and write: A0, A3 with a four-byte tare,
-- 90, and the answers 10, 12, 50, F0." "Numbers go low byte first."
use Rattle.std.specs.Prelude.{ℕ, ◌+◌, Bool, true, cond, ◌&&◌, List, [], ◌∷◌, ◌++◌, take, drop, get_or, leb, eqb}
use Rattle.low_first.specs.LowFirst.{low_first, low_bytes}
use Rattle.low_first.specs.Signed.{signed_of, word_of}
use Rattle.parcel_scale.specs.declared.parcels.Parcel.{Parcel}
use Rattle.parcel_scale.specs.declared.parcels.Parcel.TheVariants.{GetWeight, SetTare, GetDeviceId, AckWeight, AckCommand, AckDeviceId, Nack}

-- a field behind the code, by its name in 003
pub data Field : Type 0 where
  Weight Division Stable Tare SerialNum : Field

-- "int Weight 4 байта", "byte Division 1 байт", "byte Stable 1 байт", "int32 Tare 4 байта", "dword SerialNum 4 байта"
abbrev pub width_of : Field → ℕ
width_of Weight = 4
width_of Division = 1
width_of Stable = 1
width_of Tare = 4
width_of SerialNum = 4

-- the highest value: "0 - 100 мг, 1 - 1 г, 2 - 10 г, 3 - 100 г, 4 - 1 кг"; "0 - нестабильна, 1 - стабильна". The other fields may have any value
abbrev pub highest_of : Field → ℕ
highest_of Weight = 0xFFFF_FFFF
highest_of Division = 4
highest_of Stable = 1
highest_of Tare = 0xFFFF_FFFF
highest_of SerialNum = 0xFFFF_FFFF

-- a row: the code, the fields behind it in their order, and the message that says the fields' numbers
pub record Row : Type 0 where
  pub code : ℕ
  pub fields : List Field
  pub says : List ℕ → Parcel

-- a field's number among the numbers of a row
abbrev pub nth : ℕ → List ℕ → ℕ
nth place numbers = get_or numbers place 0

abbrev pub table : List Row
table =
    record { code = 0xA0; fields = []; says = λ numbers. GetWeight }
    ∷ record { code = 0xA3; fields = Tare ∷ []; says = λ numbers. SetTare (signed_of (nth 0 numbers)) }
    ∷ record { code = 0x90; fields = []; says = λ numbers. GetDeviceId }
    ∷ record { code = 0x10; fields = Weight ∷ Division ∷ Stable ∷ []; says = λ numbers. AckWeight (record { count = signed_of (nth 0 numbers); division = nth 1 numbers; stable = nth 2 numbers }) }
    ∷ record { code = 0x12; fields = []; says = λ numbers. AckCommand }
    ∷ record { code = 0x50; fields = SerialNum ∷ []; says = λ numbers. AckDeviceId (nth 0 numbers) }
    ∷ record { code = 0xF0; fields = []; says = λ numbers. Nack }
    ∷ []

-- the row of a code, or none
pub data Found : Type 0 where
  known : Row → Found
  unknown : Found

unfoldable pub row_in : List Row → ℕ → Found
row_in [] code = unknown
row_in (row ∷ rows) code = cond (eqb code row.code) (known row) (row_in rows code)

unfoldable pub row_of : ℕ → Found
row_of code = row_in table code

-- each message's code ..
abbrev pub code_of : Parcel → ℕ
code_of GetWeight = 0xA0
code_of (SetTare grams) = 0xA3
code_of GetDeviceId = 0x90
code_of (AckWeight told) = 0x10
code_of AckCommand = 0x12
code_of (AckDeviceId number) = 0x50
code_of Nack = 0xF0

-- .. and the numbers of its fields, in the order of its row
abbrev pub numbers_of : Parcel → List ℕ
numbers_of GetWeight = []
numbers_of (SetTare grams) = word_of grams ∷ []
numbers_of GetDeviceId = []
numbers_of (AckWeight told) = word_of told.count ∷ told.division ∷ told.stable ∷ []
numbers_of AckCommand = []
numbers_of (AckDeviceId number) = number ∷ []
numbers_of Nack = []

-- how many bytes some fields have
unfoldable pub widths : List Field → ℕ
widths [] = 0
widths (field ∷ fields) = width_of field + widths fields

-- the numbers that bytes hold in some fields
unfoldable pub numbers_in : List Field → List ℕ → List ℕ
numbers_in [] bytes = []
numbers_in (field ∷ fields) bytes = low_first (take (width_of field) bytes) ∷ numbers_in fields (drop (width_of field) bytes)

-- numbers as the bytes of some fields
unfoldable pub laid_out : List Field → List ℕ → List ℕ
laid_out [] numbers = []
laid_out (field ∷ fields) numbers = low_bytes (width_of field) (nth 0 numbers) ++ laid_out fields (drop 1 numbers)

-- each field's number is one that the field may have
unfoldable pub in_values : List Field → List ℕ → Bool
in_values [] numbers = true
in_values (field ∷ fields) numbers = leb (nth 0 numbers) (highest_of field) && in_values fields (drop 1 numbers)
