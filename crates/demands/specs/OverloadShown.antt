-- 02, request 7: "The clerk saw 60 tonnes typed from a screen with the overload light on." These 60 tonnes, from the wire to the listing and to the log;
-- which refusal comes first; and what a person reads of a line.
use Rattle.std.specs.Prelude.{ℕ, ◌≡◌, Bool, true, false, List, [], ◌∷◌, map, pos, negsuc, replicate, Result, Ok, Err, Some, None, ℤ}
use Rattle.refusal.specs.declared.Refusal.TheVariants.{FieldOutside, HeaderWrong, BytesMissing, ParcelCheckWrong, CountFull, Overloaded, LengthOutside, CheckRight, SumBeyond}
use Rattle.refusal.specs.Numbers.{named_of, line_status}
use Rattle.body.specs.declared.addresses.Address.TheVariants.{Short}
use Rattle.line.specs.Listener.{frame, fresh, events}
use Rattle.weight.specs.declared.families.Family.TheVariants.{Of002}
use Rattle.weight.specs.declared.FourBytes.{FourBytes}
use Rattle.weight.specs.declared.Reading.{Reading}
use Rattle.weight.specs.Bytes.{read_of, packed_of}
use Rattle.weight.specs.Tenths.{value_of, difference_of}
use Rattle.kilograms.specs.Rounded.{kilograms_of}
use Rattle.codes.specs.declared.table.Role.TheVariants.{Reply}
use Rattle.codes.specs.declared.table.Load.TheVariants.{Gross}
use Rattle.meaning.specs.declared.meaning.What.TheVariants as says
use Rattle.records.specs.declared.records.Record.{Record}
use Rattle.records.specs.Records.{met_kind, good}
use Rattle.records.specs.Layout.{bytes_of_record}
use Rattle.records.specs.Reading.{read_record}
use Rattle.records.specs.Weighings.{weight_noted}
use Rattle.weighing_log.specs.Hearing.{weighing}
use Rattle.entries.specs.declared.entries.Entry.TheVariants as entry_as
use Rattle.entries.specs.Entries.{sound}
use Rattle.listing.specs.Texts.{spelt}
use Rattle.listing.specs.Whole.{listing}
use Rattle.quay_weight.specs.Weights.{reading_out}
use Rattle.demands.specs.Examples.{Example, computed, framed_again, as_sent, from1}
use Rattle.demands.specs.Families.{listed_by_each}
use Rattle.demands.specs.Weighings.{records_heard}
use Rattle.demands.specs.WeightLines.{field, any_digit, all_digits, shows_digits, value_shown}
use Rattle.refusal.specs.declared.Refusal.{Refusal}

-- 60 tonnes, settled, with the overload light on or off, and a point; with a point above 7 it is out of its ranges
abbrev pub sixty : Bool → ℕ → Reading
sixty over point = record { minus = false; number = 60000; point = point; bit6 = false; bit5 = false; settled = true; overload = over; family = Of002 }

abbrev pub readings : List Reading
readings = sixty false 0 ∷ sixty true 0 ∷ sixty false 8 ∷ sixty true 8 ∷ []

-- minus zero, overloaded: no weight of nothing
abbrev pub overloaded_zero : Reading
overloaded_zero = record { minus = true; number = 0; point = 0; bit6 = false; bit5 = false; settled = true; overload = true; family = Of002 }

-- W0 W1 W2 CON
abbrev pub sixty_bytes : FourBytes
sixty_bytes = record { w0 = 0x00; w1 = 0x00; w2 = 0x06; con = 0x18; family = 3 }

abbrev pub sixty_body : List ℕ
sixty_body = 0x01 ∷ 0xC3 ∷ 0x00 ∷ 0x00 ∷ 0x06 ∷ 0x18 ∷ 0xA2 ∷ []

-- on the wire: the message is read as it was, and its value is refused
abbrev pub sixty_example : Example
sixty_example = record {
  bytes = 0xFF ∷ 0x01 ∷ 0xC3 ∷ 0x00 ∷ 0x00 ∷ 0x06 ∷ 0x18 ∷ 0xA2 ∷ 0xFF ∷ 0xFF ∷ [];
  heard = frame 10 7 sixty_body ∷ [];
  role = Reply;
  family = Of002;
  said = from1 0xC3 6 (says.Weight (record { load = Gross; bytes = sixty_bytes; reading = sixty true 0 })) ∷ [];
  values = Err Overloaded ∷ [];
}

-- the same; minus 6 tonnes, net, overloaded, in net mode; E3; and the first of E6
abbrev pub mixed_capture : List ℕ
mixed_capture =
    0xFF ∷ 0x01 ∷ 0xC3 ∷ 0x00 ∷ 0x00 ∷ 0x06 ∷ 0x18 ∷ 0xA2 ∷ 0xFF ∷ 0xFF
    ∷ 0xFF ∷ 0x01 ∷ 0xC2 ∷ 0x00 ∷ 0x00 ∷ 0x06 ∷ 0xB9 ∷ 0xAD ∷ 0xFF ∷ 0xFF
    ∷ 0xFF ∷ 0x01 ∷ 0xC3 ∷ 0x51 ∷ 0x02 ∷ 0x00 ∷ 0x01 ∷ 0xDE ∷ 0xFF ∷ 0xFF
    ∷ 0xFF ∷ 0x01 ∷ 0xC3 ∷ 0xE2 ∷ 0xFF ∷ 0xFF ∷ []

abbrev pub sixty_record : Record
sixty_record = weighing 1 (Short 1) Gross sixty_bytes

-- a record of kind 3 that would note 24
abbrev pub noted24 : Record
noted24 = record { time = 0; kind = met_kind; address = 0; serial = 0; status = 24; w0 = 0; w1 = 0; w2 = 0; family = 0 }

-- one of them as gross, less each of them
abbrev pub less_each : Reading → List (Result ℤ Refusal)
less_each gross = map (difference_of gross) readings

pub record OverloadShown : Type 0 where
  -- the numbers of 02 so far, and those beside them that are nobody's
  pub numbers :
      map named_of (20 ∷ 21 ∷ 22 ∷ 23 ∷ 24 ∷ 25 ∷ 26 ∷ 31 ∷ [])
      ≡ map Some (HeaderWrong ∷ BytesMissing ∷ ParcelCheckWrong ∷ CountFull ∷ Overloaded ∷ LengthOutside ∷ CheckRight ∷ SumBeyond ∷ [])
  pub nobodys : map named_of (0 ∷ 27 ∷ 28 ∷ 29 ∷ 30 ∷ 32 ∷ 255 ∷ []) ≡ replicate 7 None
  -- no line meets 24, no record notes it, and none is listed
  pub unmet : (line_status 24 ≡ false) × ((good noted24 ≡ false) × (sound (Some (entry_as.Refused Overloaded)) ≡ false))
  -- "after 8"
  pub values : map value_of readings ≡ Ok (pos 600_000_000_000) ∷ Err Overloaded ∷ Err FieldOutside ∷ Err FieldOutside ∷ []
  pub zero : value_of overloaded_zero ≡ Err Overloaded
  pub floats :
      map kilograms_of (sixty true 0 ∷ sixty true 8 ∷ overloaded_zero ∷ [])
      ≡ Err Overloaded ∷ Err FieldOutside ∷ Err Overloaded ∷ []
  -- 8 of either reading, then 24 of either
  pub less :
      map less_each readings
      ≡ (Ok (pos 0) ∷ Err Overloaded ∷ Err FieldOutside ∷ Err FieldOutside ∷ [])
      ∷ (Err Overloaded ∷ Err Overloaded ∷ Err FieldOutside ∷ Err FieldOutside ∷ [])
      ∷ (Err FieldOutside ∷ Err FieldOutside ∷ Err FieldOutside ∷ Err FieldOutside ∷ [])
      ∷ (Err FieldOutside ∷ Err FieldOutside ∷ Err FieldOutside ∷ Err FieldOutside ∷ [])
      ∷ []
  -- digits 000251 of a terminal of 001, not settled, overloaded, in another language: read, with its digits and the light
  pub crossed :
      reading_out (read_of (record { w0 = 0x51; w1 = 0x02; w2 = 0x00; con = 0x09; family = 2 }))
      ≡ record { number = 251; point = 1; minus = 0; bit6 = 0; bit5 = 0; settled = 0; overload = 1; family = 2; refusal = 0 }
  -- "Its digits are still in the reading and the log, so the bytes come back"
  pub heard : computed sixty_example ≡ sixty_example
  pub written : framed_again sixty_example ≡ as_sent sixty_example
  pub packed : packed_of (sixty true 0) ≡ Ok sixty_bytes
  pub noted : records_heard (λ (number : ℕ). number) Reply Of002 (events fresh sixty_example.bytes) ≡ sixty_record ∷ []
  pub kept : read_record (bytes_of_record sixty_record) ≡ Ok sixty_record
  pub still_noted : weight_noted sixty_record ≡ Ok (sixty true 0)
  -- "The listing prints six hyphens for the digits"; the line counts as a weight
  pub listed :
      listed_by_each sixty_example.bytes
      ≡ spelt "1 weight gross 1 + ------ 0 1 1\ntotal 1 weights 1 refused 0\n"
      ∷ spelt "1 weight gross 1 + ------ 0 1 1 gross\ntotal 1 weights 1 refused 0\n"
      ∷ spelt "1 weight gross 1 + ------ 0 1 1 scale0\ntotal 1 weights 1 refused 0\n"
      ∷ spelt "1 weight gross 1 + ------ 0 1 1 gross\ntotal 1 weights 1 refused 0\n"
      ∷ []
  -- beside a weight and a wrong check; sign, point and mode as they came
  pub mixed :
      listing Of002 (events fresh mixed_capture)
      ≡ spelt "1 weight gross 1 + ------ 0 1 1 gross\n2 weight net 1 - ------ 1 1 1 net\n3 weight gross 1 + 000251 1 0 0 gross\n4 refused 4\ntotal 4 weights 3 refused 1\n"

-- ---- what a person reads of a line

-- E4's line, as 002 lists it, and one of an overloaded bridge
abbrev pub e4_line : List ℕ
e4_line = spelt "2 weight net 1 - 000005 1 1 0 gross\n"

abbrev pub overloaded_line : List ℕ
overloaded_line = spelt "7 weight gross 0:70501 + ------ 0 1 1\n"

pub record LinesShown : Type 0 where
  pub fields :
      map (λ (place : ℕ). field place e4_line) (0 ∷ 1 ∷ 2 ∷ 3 ∷ 4 ∷ 5 ∷ 6 ∷ 7 ∷ 8 ∷ 9 ∷ 10 ∷ [])
      ≡ spelt "2" ∷ spelt "weight" ∷ spelt "net" ∷ spelt "1" ∷ spelt "-" ∷ spelt "000005" ∷ spelt "1" ∷ spelt "1" ∷ spelt "0" ∷ spelt "gross" ∷ [] ∷ []
  pub digits : shows_digits e4_line ≡ true
  -- "minus 0.5 kg .. value −5,000,000"
  pub value : value_shown e4_line ≡ negsuc 4_999_999
  pub sixty_tonnes : value_shown (spelt "1 weight gross 1 + 060000 0 1 0\n") ≡ pos 600_000_000_000
  pub hyphens : field 5 overloaded_line ≡ spelt "------"
  pub no_digits_lem : shows_digits overloaded_line ≡ false
  -- one digit among hyphens is a digit shown
  pub one_digit_lem : map any_digit (spelt "-----0" ∷ spelt "9-----" ∷ spelt "------" ∷ spelt "+/:" ∷ []) ≡ true ∷ true ∷ false ∷ false ∷ []
  pub each_digit : map all_digits (spelt "060000" ∷ spelt "1-----" ∷ spelt "12345/" ∷ spelt ":23456" ∷ []) ≡ true ∷ false ∷ false ∷ false ∷ []
