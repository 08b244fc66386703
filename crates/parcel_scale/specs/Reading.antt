-- 02, request 5: "Refusals, judged in this order: 20 header wrong or under 3 bytes, 21 fewer bytes than length and check need, 22 check wrong,
-- 6 (also an empty body), 7, 8". "Bytes after the check aren't looked at; the answer tells how many were used."
use Rattle.std.specs.Prelude.{ℕ, Bool, not, List, [], ◌∷◌, length, ltb, eqb, Result, Ok, Err}
use Rattle.refusal.specs.declared.Refusal.TheVariants.{CodeUnknown, LengthWrong, FieldOutside, HeaderWrong, BytesMissing, ParcelCheckWrong}
use Rattle.refusal.specs.Numbers.{refuse_if, by_verdict}
use Rattle.parcel_check.specs.Check.{parcel_check}
use Rattle.parcel_scale.specs.declared.parcels.Parcel.{Parcel}
use Rattle.parcel_scale.specs.Frame.{headed, needs, body_in, check_in}
use Rattle.parcel_scale.specs.Layouts.{Row, Found, known, unknown, row_of, widths, numbers_in, in_values}
use Rattle.refusal.specs.declared.Refusal.{Refusal}

-- the data behind a code have the row's length, and their fields the values that they may have
abbrev pub sized : Row → List ℕ → Bool
sized row data' = eqb (length data') (widths row.fields)

abbrev pub within : Row → List ℕ → Bool
within row data' = in_values row.fields (numbers_in row.fields data')

-- 7, 8; and then the message, with how many bytes were used
unfoldable pub read_row : ℕ → Row → List ℕ → Result (Parcel × ℕ) Refusal
read_row used row data' =
    by_verdict (λ (parcel : Parcel). Ok (parcel, used)) Err
    (refuse_if (not (sized row data')) LengthWrong (refuse_if (not (within row data')) FieldOutside (Ok tt)))
    (row.says (numbers_in row.fields data'))

-- 6: no row has the code
unfoldable pub read_code : ℕ → Found → List ℕ → Result (Parcel × ℕ) Refusal
read_code used (known row) data' = read_row used row data'
read_code used unknown data' = Err CodeUnknown

-- 6 "(also an empty body)"
unfoldable pub read_body : ℕ → List ℕ → Result (Parcel × ℕ) Refusal
read_body used [] = Err CodeUnknown
read_body used (code ∷ data') = read_code used (row_of code) data'

-- the frame is whole: no fewer bytes "than length and check need"
abbrev pub whole : List ℕ → Bool
whole bytes = not (ltb (length bytes) (needs bytes))

abbrev pub checked : List ℕ → Bool
checked bytes = eqb (check_in bytes) (parcel_check (body_in bytes))

-- 20, 21, 22
unfoldable pub judged_frame : List ℕ → Result (Unit {0}) Refusal
judged_frame bytes = refuse_if (not (headed bytes)) HeaderWrong (refuse_if (not (whole bytes)) BytesMissing (refuse_if (not (checked bytes)) ParcelCheckWrong (Ok tt)))

-- what lent bytes are read as: 20, 21, 22, and then what the body says. A refusal is its number only, as in 01: an accepted message alone tells
-- how many bytes were used
abbrev pub after_frame : Result (Unit {0}) Refusal → Result (Parcel × ℕ) Refusal → Result (Parcel × ℕ) Refusal
after_frame (Ok tt) said = said
after_frame (Err why) said = Err why

unfoldable pub read_parcel : List ℕ → Result (Parcel × ℕ) Refusal
read_parcel bytes = after_frame (judged_frame bytes) (read_body (needs bytes) (body_in bytes))
