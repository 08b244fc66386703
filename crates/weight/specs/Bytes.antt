-- 01, "Weight": a reading and its four bytes. "A reading keeps the sign bit, the number 0 to 999,999, the point and the flags, so its four
-- bytes come back exactly. A reading handed in with a number above 999,999 or a point above 7 is refusal 8 wherever it is used." 02, request 4: "A
-- reading now carries its terminal family"; "the four bytes still come back exactly"; "8 also for family 002 with bit 6 set".
use Rattle.std.specs.Prelude.{ℕ, ◌/◌, Bool, true, false, ◌&&◌, cond, List, [], ◌∷◌, leb, get_or, Result, Ok, Err, Option, Some, None}
use Rattle.refusal.specs.declared.Refusal.TheVariants.{FieldOutside}
use Rattle.weight.specs.declared.families.Family.{Family}
use Rattle.weight.specs.declared.FourBytes.{FourBytes}
use Rattle.weight.specs.declared.Reading.{Reading}
use Rattle.weight.specs.Digits.{all_decimal, digits_of, pair_of}
use Rattle.weight.specs.Families.{terminal, family_number, family_named, allowed}
use Rattle.weight.specs.Status.{sixth, marked, reading_of, status_of}
use Rattle.refusal.specs.declared.Refusal.{Refusal}

-- the number and the point lie in their ranges, and a reserved bit 6 is 0; otherwise refusal 8, which is `FieldOutside`, wherever the reading is used
unfoldable pub in_range : Reading → Bool
in_range reading = leb reading.number 999999 && leb reading.point 7 && allowed (terminal reading.family).sixth reading.bit6

-- W0 W1 W2 CON, as they follow each other in a body
abbrev pub in_order : FourBytes → List ℕ
in_order bytes = bytes.w0 ∷ bytes.w1 ∷ bytes.w2 ∷ bytes.con ∷ []

-- four bytes of a line: "The caller says the family per line"
unfoldable pub four_in : Family → List ℕ → FourBytes
four_in family data' = record { w0 = get_or data' 0 0; w1 = get_or data' 1 0; w2 = get_or data' 2 0; con = get_or data' 3 0; family = family_number family }

-- four bytes to a reading, by a family: "a half above 9 is refusal 8", and "8 also for family 002 with bit 6 set"
unfoldable pub read_as : Family → FourBytes → Result Reading Refusal
read_as family bytes =
    cond (all_decimal bytes.w0 bytes.w1 bytes.w2 && allowed (terminal family).sixth (marked sixth bytes.con))
    (Ok (reading_of family (digits_of bytes.w0 bytes.w1 bytes.w2) bytes.con))
    (Err FieldOutside)

-- by the family that a number names; 8 if it names none
abbrev pub read_named : Option Family → FourBytes → Result Reading Refusal
read_named (Some family) bytes = read_as family bytes
read_named None bytes = Err FieldOutside

-- by the family whose number stands beside them
unfoldable pub read_of : FourBytes → Result Reading Refusal
read_of bytes = read_named (family_named bytes.family) bytes

-- whether they could be read
abbrev pub readable : Result Reading Refusal → Bool
readable (Ok reading) = true
readable (Err why) = false

-- a reading to its four bytes
abbrev pub bytes_of : Reading → FourBytes
bytes_of reading = record {
  w0 = pair_of reading.number;
  w1 = pair_of (reading.number / 100);
  w2 = pair_of (reading.number / 10000);
  con = status_of reading;
  family = family_number reading.family;
}

unfoldable pub packed_of : Reading → Result FourBytes Refusal
packed_of reading = cond (in_range reading) (Ok (bytes_of reading)) (Err FieldOutside)
