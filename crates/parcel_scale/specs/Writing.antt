-- 02, request 5: "writing judges 6, 8, 9." The message is a type with the seven codes alone, so 6 is judged and never answered.
use Rattle.std.specs.Prelude.{ℕ, Bool, not, List, [], ◌∷◌, length, Result, Err}
use Rattle.refusal.specs.declared.Refusal.TheVariants.{CodeUnknown, FieldOutside}
use Rattle.refusal.specs.Numbers.{refuse_if}
use Rattle.room.specs.Writing.{Left, judged_room, wrote}
use Rattle.parcel_scale.specs.declared.parcels.Parcel.{Parcel}
use Rattle.parcel_scale.specs.Frame.{framed}
use Rattle.parcel_scale.specs.Layouts.{Field, Found, known, unknown, row_of, code_of, numbers_of, laid_out, in_values}
use Rattle.refusal.specs.declared.Refusal.{Refusal}

-- the fields of a message: those of its code's row
abbrev pub fields_in : Found → List Field
fields_in (known row) = row.fields
fields_in unknown = []

unfoldable pub fields_of : Parcel → List Field
fields_of parcel = fields_in (row_of (code_of parcel))

-- the body of a message: its code, and its fields behind it
unfoldable pub body_of : Parcel → List ℕ
body_of parcel = code_of parcel ∷ laid_out (fields_of parcel) (numbers_of parcel)

-- its bytes as they go out
unfoldable pub parcel_bytes : Parcel → List ℕ
parcel_bytes parcel = framed (body_of parcel)

-- each of its fields has a value that it may have
unfoldable pub legal_fields : Parcel → Bool
legal_fields parcel = in_values (fields_of parcel) (numbers_of parcel)

-- 6 ahead of what comes after
abbrev pub judged_code : Found → Result (Unit {0}) Refusal → Result (Unit {0}) Refusal
judged_code (known row) after = after
judged_code unknown after = Err CodeUnknown

-- 6, 8, 9
unfoldable pub judged_parcel : Parcel → List ℕ → Result (Unit {0}) Refusal
judged_parcel parcel room =
    judged_code (row_of (code_of parcel)) (refuse_if (not (legal_fields parcel)) FieldOutside (judged_room (length (parcel_bytes parcel)) room))

-- the message's bytes stand in the first bytes of the room, and every other byte is as it stood; if refused, every byte is as it stood
unfoldable pub written_parcel : Parcel → List ℕ → Left
written_parcel parcel room = wrote (judged_parcel parcel room) (parcel_bytes parcel) room
