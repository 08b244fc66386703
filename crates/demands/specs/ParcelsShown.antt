-- 02, request 5: parcels computed. The seven messages as they go out, what bytes are read as at the edge of each refusal, what is written at the edge
-- of 8 and 9, values, and the capture for which demand 3 is not claimed.
use Rattle.std.specs.Prelude.{ℕ, ◌≡◌, List, [], ◌∷◌, map, ℤ, pos, negsuc, length, drop, replicate, Result, Ok, Err, None}
use Rattle.refusal.specs.declared.Refusal.TheVariants.{CodeUnknown, LengthWrong, FieldOutside, RoomShort, HeaderWrong, BytesMissing, ParcelCheckWrong}
use Rattle.refusal.specs.declared.Refusal.{Refusal}
use Rattle.refusal.specs.Numbers.{number_of, named_of}
use Rattle.room.specs.Writing.{Left}
use Rattle.parcel_check.specs.Check.{parcel_check}
use Rattle.parcel_scale.specs.declared.parcels.ParcelWeight.{ParcelWeight}
use Rattle.parcel_scale.specs.declared.parcels.Parcel.{Parcel}
use Rattle.parcel_scale.specs.declared.parcels.Parcel.TheVariants.{GetWeight, SetTare, GetDeviceId, AckWeight, AckCommand, AckDeviceId, Nack}
use Rattle.parcel_scale.specs.Reading.{read_parcel}
use Rattle.parcel_scale.specs.Value.{parcel_value}
use Rattle.parcel_scale.specs.Writing.{parcel_bytes, written_parcel}
use Rattle.demands.specs.Parcels.{OfItsTypes}

-- a weight by its three fields
abbrev pub weighed : ℤ → ℕ → ℕ → ParcelWeight
weighed count division stable = record { count = count; division = division; stable = stable }

-- ---- the seven messages: each goes out as these bytes, and these bytes are read as the message, all of them used

pub record Sent : Type 0 where
  pub parcel : Parcel
  pub bytes : List ℕ

-- A0 goes out as F8 55 CE 01 00 A0 A0 00; a tare of -5 grams; 12,345 divisions of a gram and -5 of ten grams, stable; a serial
abbrev pub seven_messages : List Sent
seven_messages =
    record { parcel = GetWeight; bytes = 0xF8 ∷ 0x55 ∷ 0xCE ∷ 0x01 ∷ 0x00 ∷ 0xA0 ∷ 0xA0 ∷ 0x00 ∷ [] }
    ∷ record { parcel = SetTare (negsuc 4); bytes = 0xF8 ∷ 0x55 ∷ 0xCE ∷ 0x05 ∷ 0x00 ∷ 0xA3 ∷ 0xFB ∷ 0xFF ∷ 0xFF ∷ 0xFF ∷ 0xF8 ∷ 0xCA ∷ [] }
    ∷ record { parcel = GetDeviceId; bytes = 0xF8 ∷ 0x55 ∷ 0xCE ∷ 0x01 ∷ 0x00 ∷ 0x90 ∷ 0x90 ∷ 0x00 ∷ [] }
    ∷ record { parcel = AckWeight (weighed (pos 12345) 1 1); bytes = 0xF8 ∷ 0x55 ∷ 0xCE ∷ 0x07 ∷ 0x00 ∷ 0x10 ∷ 0x39 ∷ 0x30 ∷ 0x00 ∷ 0x00 ∷ 0x01 ∷ 0x01 ∷ 0x60 ∷ 0x1F ∷ [] }
    ∷ record { parcel = AckWeight (weighed (negsuc 4) 2 1); bytes = 0xF8 ∷ 0x55 ∷ 0xCE ∷ 0x07 ∷ 0x00 ∷ 0x10 ∷ 0xFB ∷ 0xFF ∷ 0xFF ∷ 0xFF ∷ 0x02 ∷ 0x01 ∷ 0x65 ∷ 0x55 ∷ [] }
    ∷ record { parcel = AckCommand; bytes = 0xF8 ∷ 0x55 ∷ 0xCE ∷ 0x01 ∷ 0x00 ∷ 0x12 ∷ 0x12 ∷ 0x00 ∷ [] }
    ∷ record { parcel = AckDeviceId 0x12345678; bytes = 0xF8 ∷ 0x55 ∷ 0xCE ∷ 0x05 ∷ 0x00 ∷ 0x50 ∷ 0x78 ∷ 0x56 ∷ 0x34 ∷ 0x12 ∷ 0x1F ∷ 0xD1 ∷ [] }
    ∷ record { parcel = Nack; bytes = 0xF8 ∷ 0x55 ∷ 0xCE ∷ 0x01 ∷ 0x00 ∷ 0xF0 ∷ 0xF0 ∷ 0x00 ∷ [] }
    ∷ []

pub record SevenMessages : Type 0 where
  pub written : map (λ (sent : Sent). parcel_bytes sent.parcel) seven_messages ≡ map (λ (sent : Sent). sent.bytes) seven_messages
  pub read : map (λ (sent : Sent). read_parcel sent.bytes) seven_messages
      ≡ map (λ (sent : Sent). Ok (sent.parcel, length sent.bytes)) seven_messages

-- ---- reading, at the edge of each refusal

pub record Lent : Type 0 where
  pub bytes : List ℕ
  pub read : Result (Parcel × ℕ) Refusal

abbrev pub lent_bytes : List Lent
lent_bytes =
    -- no bytes, one and two bytes of a right header: 20, not 21
    record { bytes = []; read = Err HeaderWrong }
    ∷ record { bytes = 0xF8 ∷ []; read = Err HeaderWrong }
    ∷ record { bytes = 0xF8 ∷ 0x55 ∷ []; read = Err HeaderWrong }
    -- the third header byte wrong, the rest right
    ∷ record { bytes = 0xF8 ∷ 0x55 ∷ 0xCF ∷ 0x01 ∷ 0x00 ∷ 0xA0 ∷ 0xA0 ∷ 0x00 ∷ []; read = Err HeaderWrong }
    -- three right bytes and nothing else: 21
    ∷ record { bytes = 0xF8 ∷ 0x55 ∷ 0xCE ∷ []; read = Err BytesMissing }
    ∷ record { bytes = 0xF8 ∷ 0x55 ∷ 0xCE ∷ 0x01 ∷ []; read = Err BytesMissing }
    -- one byte of the check missing
    ∷ record { bytes = 0xF8 ∷ 0x55 ∷ 0xCE ∷ 0x01 ∷ 0x00 ∷ 0xA0 ∷ 0xA0 ∷ []; read = Err BytesMissing }
    -- the length is low byte first: 256 bytes are wanted here
    ∷ record { bytes = 0xF8 ∷ 0x55 ∷ 0xCE ∷ 0x00 ∷ 0x01 ∷ 0xA0 ∷ 0xA0 ∷ 0x00 ∷ []; read = Err BytesMissing }
    -- the check's bytes exchanged; it is also the check with one zero byte fed
    ∷ record { bytes = 0xF8 ∷ 0x55 ∷ 0xCE ∷ 0x01 ∷ 0x00 ∷ 0xA0 ∷ 0x00 ∷ 0xA0 ∷ []; read = Err ParcelCheckWrong }
    -- the check as it would be with two zero bytes fed
    ∷ record { bytes = 0xF8 ∷ 0x55 ∷ 0xCE ∷ 0x01 ∷ 0x00 ∷ 0xA0 ∷ 0xEA ∷ 0xB5 ∷ []; read = Err ParcelCheckWrong }
    -- a zero byte that ends the body is fed like any other
    ∷ record { bytes = 0xF8 ∷ 0x55 ∷ 0xCE ∷ 0x02 ∷ 0x00 ∷ 0xA0 ∷ 0x00 ∷ 0xA0 ∷ 0x00 ∷ []; read = Err ParcelCheckWrong }
    -- an empty body needs its check first, and is then 6
    ∷ record { bytes = 0xF8 ∷ 0x55 ∷ 0xCE ∷ 0x00 ∷ 0x00 ∷ 0x01 ∷ 0x00 ∷ []; read = Err ParcelCheckWrong }
    ∷ record { bytes = 0xF8 ∷ 0x55 ∷ 0xCE ∷ 0x00 ∷ 0x00 ∷ 0x00 ∷ 0x00 ∷ []; read = Err CodeUnknown }
    -- A1 is a code of 004, and none of the seven
    ∷ record { bytes = 0xF8 ∷ 0x55 ∷ 0xCE ∷ 0x01 ∷ 0x00 ∷ 0xA1 ∷ 0xA1 ∷ 0x00 ∷ []; read = Err CodeUnknown }
    -- A0 with a byte too many
    ∷ record { bytes = 0xF8 ∷ 0x55 ∷ 0xCE ∷ 0x02 ∷ 0x00 ∷ 0xA0 ∷ 0x00 ∷ 0x00 ∷ 0xA0 ∷ []; read = Err LengthWrong }
    -- division 5, stable 2
    ∷ record { bytes = 0xF8 ∷ 0x55 ∷ 0xCE ∷ 0x07 ∷ 0x00 ∷ 0x10 ∷ 0x00 ∷ 0x00 ∷ 0x00 ∷ 0x00 ∷ 0x05 ∷ 0x01 ∷ 0x5B ∷ 0x01 ∷ []; read = Err FieldOutside }
    ∷ record { bytes = 0xF8 ∷ 0x55 ∷ 0xCE ∷ 0x07 ∷ 0x00 ∷ 0x10 ∷ 0x00 ∷ 0x00 ∷ 0x00 ∷ 0x00 ∷ 0x00 ∷ 0x02 ∷ 0x58 ∷ 0x04 ∷ []; read = Err FieldOutside }
    -- bytes behind the check are not looked at
    ∷ record { bytes = 0xF8 ∷ 0x55 ∷ 0xCE ∷ 0x01 ∷ 0x00 ∷ 0xA0 ∷ 0xA0 ∷ 0x00 ∷ 0xF8 ∷ 0x55 ∷ []; read = Ok (GetWeight, 8) }
    ∷ []

-- an answer's number: 0 where nothing is refused
abbrev pub number_read : Result (Parcel × ℕ) Refusal → ℕ
number_read (Ok (parcel, used)) = 0
number_read (Err why) = number_of why

pub record ReadAtTheEdges : Type 0 where
  pub read : map (λ (lent : Lent). read_parcel lent.bytes) lent_bytes ≡ map (λ (lent : Lent). lent.read) lent_bytes
  pub numbers : map (λ (lent : Lent). number_read lent.read) lent_bytes
      ≡ 20 ∷ 20 ∷ 20 ∷ 20 ∷ 21 ∷ 21 ∷ 21 ∷ 21 ∷ 22 ∷ 22 ∷ 22 ∷ 22 ∷ 6 ∷ 6 ∷ 7 ∷ 8 ∷ 8 ∷ 0 ∷ []

-- ---- writing: 8 ahead of 9, and room for exactly the message is enough

pub record AskedWrite : Type 0 where
  pub parcel : Parcel
  pub room : List ℕ
  pub left : Left

-- what a refused write leaves: the refusal, and the room as it stood
abbrev pub untouched : Refusal → List ℕ → Left
untouched why room = record { answer = Err why; room = room }

abbrev pub lent_room : ℕ → List ℕ
lent_room count = replicate count 0xEE

abbrev pub asked_writes : List AskedWrite
asked_writes =
    record {
      parcel = GetWeight;
      room = 1 ∷ 2 ∷ 3 ∷ 4 ∷ 5 ∷ 6 ∷ 7 ∷ 8 ∷ 9 ∷ 10 ∷ [];
      left = record { answer = Ok 8; room = 0xF8 ∷ 0x55 ∷ 0xCE ∷ 0x01 ∷ 0x00 ∷ 0xA0 ∷ 0xA0 ∷ 0x00 ∷ 9 ∷ 10 ∷ [] };
    }
    ∷ record {
      parcel = GetWeight;
      room = lent_room 8;
      left = record { answer = Ok 8; room = 0xF8 ∷ 0x55 ∷ 0xCE ∷ 0x01 ∷ 0x00 ∷ 0xA0 ∷ 0xA0 ∷ 0x00 ∷ [] };
    }
    ∷ record { parcel = GetWeight; room = lent_room 7; left = untouched RoomShort (lent_room 7) }
    ∷ record { parcel = AckWeight (weighed (pos 0) 5 0); room = lent_room 20; left = untouched FieldOutside (lent_room 20) }
    ∷ record { parcel = AckWeight (weighed (pos 0) 0 2); room = []; left = untouched FieldOutside [] }
    ∷ record { parcel = AckWeight (weighed (negsuc 0) 4 0); room = []; left = untouched RoomShort [] }
    ∷ record { parcel = SetTare (negsuc 0); room = lent_room 11; left = untouched RoomShort (lent_room 11) }
    ∷ record { parcel = AckDeviceId 0xFFFF_FFFF; room = lent_room 11; left = untouched RoomShort (lent_room 11) }
    ∷ []

abbrev pub WrittenAtTheEdges : Type 0
WrittenAtTheEdges = map (λ (asked : AskedWrite). written_parcel asked.parcel asked.room) asked_writes ≡ map (λ (asked : AskedWrite). asked.left) asked_writes

-- ---- values, in tenths of a milligram

pub record Worth : Type 0 where
  pub told : ParcelWeight
  pub value : Result ℤ Refusal

-- one division of each code: 100 mg, 1 g, 10 g, 100 g, 1 kg; a negative count; the lowest and the highest; 8
abbrev pub worths : List Worth
worths =
    record { told = weighed (pos 1) 0 0; value = Ok (pos 1000) }
    ∷ record { told = weighed (pos 1) 1 1; value = Ok (pos 10000) }
    ∷ record { told = weighed (pos 1) 2 1; value = Ok (pos 100000) }
    ∷ record { told = weighed (pos 1) 3 1; value = Ok (pos 1000000) }
    ∷ record { told = weighed (pos 1) 4 1; value = Ok (pos 10000000) }
    ∷ record { told = weighed (negsuc 4) 1 0; value = Ok (negsuc 49999) }
    ∷ record { told = weighed (negsuc 2147483647) 4 1; value = Ok (negsuc 21474836479999999) }
    ∷ record { told = weighed (pos 2147483647) 4 1; value = Ok (pos 21474836470000000) }
    ∷ record { told = weighed (pos 1) 5 1; value = Err FieldOutside }
    ∷ record { told = weighed (pos 1) 0 2; value = Err FieldOutside }
    ∷ []

abbrev pub ValuesShown : Type 0
ValuesShown = map (λ (worth : Worth). parcel_value worth.told) worths ≡ map (λ (worth : Worth). worth.value) worths

-- ---- "Header bytes may recur inside a body, so demand 3 is not claimed here"

-- a tare whose bytes are the header's: whoever starts listening behind the code, at place 6, meets a header that nobody sent
abbrev pub header_in_tare : List ℕ
header_in_tare = 0xF8 ∷ 0x55 ∷ 0xCE ∷ 0x05 ∷ 0x00 ∷ 0xA3 ∷ 0xF8 ∷ 0x55 ∷ 0xCE ∷ 0x01 ∷ 0xF5 ∷ 0xBA ∷ []

-- a part of a file as 004 sends it (82; a file's type, how many parts and which, 8 bytes of data), with the bytes of A0 as its data: whoever
-- starts at place 13 hears an A0 that nobody sent
abbrev pub message_in_file : List ℕ
message_in_file = 0xF8 ∷ 0x55 ∷ 0xCE ∷ 0x10 ∷ 0x00 ∷ 0x82 ∷ 0x01 ∷ 0x01 ∷ 0x00 ∷ 0x01 ∷ 0x00 ∷ 0x08 ∷ 0x00 ∷ 0xF8 ∷ 0x55 ∷ 0xCE ∷ 0x01 ∷ 0x00 ∷ 0xA0 ∷ 0xA0 ∷ 0x00 ∷ 0x8A ∷ 0x0F ∷ []

pub record HeaderInsideABody : Type 0 where
  pub tare : read_parcel header_in_tare ≡ Ok (SetTare (pos 30299640), 12)
  pub tare_late : read_parcel (drop 6 header_in_tare) ≡ Err BytesMissing
  pub file : read_parcel message_in_file ≡ Err CodeUnknown
  pub file_late : read_parcel (drop 13 message_in_file) ≡ Ok (GetWeight, 8)

-- ---- the check: "no zero bytes fed", so that a receiver compares: A0 with its check behind it feeds to 15EAh and not to 0

abbrev pub CheckFedThrough : Type 0
CheckFedThrough = parcel_check (0xA0 ∷ 0xA0 ∷ 0x00 ∷ []) ≡ 0x15EA

-- 12 to 19 are no refusal's number
abbrev pub NobodysNumbers : Type 0
NobodysNumbers = map named_of (12 ∷ 13 ∷ 14 ∷ 15 ∷ 16 ∷ 17 ∷ 18 ∷ 19 ∷ []) ≡ replicate 8 None

-- ---- "a signed 32-bit" number: what the laws ask of a message's types holds of every message up to the last number, and of none beyond

pub record OfTheirTypes : Type 0 where
  pub lowest : OfItsTypes (SetTare (negsuc 2147483647)) × OfItsTypes (AckWeight (weighed (negsuc 2147483647) 0 0))
  pub highest : OfItsTypes (SetTare (pos 2147483647)) × OfItsTypes (AckWeight (weighed (pos 2147483647) 0 0))
  pub others : OfItsTypes GetWeight × (OfItsTypes GetDeviceId × (OfItsTypes AckCommand × (OfItsTypes (AckDeviceId 0xFFFF_FFFF) × OfItsTypes Nack)))
  pub beyond : OfItsTypes (SetTare (pos 2147483648)) → ⊥
  pub below : OfItsTypes (AckWeight (weighed (negsuc 2147483648) 0 0)) → ⊥
