-- 01, "Weight" and "Judged examples", as they stood before 02's request 4: a reading had no family, a weight line no last field, and an overload refused
-- nothing. This page keeps those definitions, so that the promises of today can be set beside them (Families).
use Rattle.std.specs.Prelude.{ℕ, ◌+◌, ◌*◌, ◌/◌, ◌%◌, ◌-◌, ◌^◌, Bool, cond, ◌&&◌, List, [], ◌∷◌, leb, Result, Ok, Err, ℤ}
use Rattle.refusal.specs.declared.Refusal.{Refusal}
use Rattle.refusal.specs.declared.Refusal.TheVariants.{FieldOutside}
use Rattle.body.specs.declared.addresses.Address.{Address}
use Rattle.codes.specs.declared.table.Load.{Load}
use Rattle.weight.specs.declared.Reading.{Reading}
use Rattle.weight.specs.Digits.{all_decimal, digits_of, pair_of}
use Rattle.weight.specs.Status.{minus, sixth, fifth, settled, overload, bit_of, marked, on_at}
use Rattle.weight.specs.Tenths.{signed, less}
use Rattle.listing.specs.Texts.{spelt, decimal, six_digits, one_digit, address_text, sign_byte, mark_byte}
use Rattle.listing.specs.Lines.{line, load_text}

-- "A reading keeps the sign bit, the number 0 to 999,999, the point and the flags"; "6 and 5 carried as two plain bits"
pub record ReadingBefore : Type 0 where
  pub minus : Bool
  pub number : ℕ
  pub point : ℕ
  pub bit6 : Bool
  pub bit5 : Bool
  pub settled : Bool
  pub overload : Bool

-- a reading of today without its family
abbrev pub without : Reading → ReadingBefore
without reading = record {
  minus = reading.minus;
  number = reading.number;
  point = reading.point;
  bit6 = reading.bit6;
  bit5 = reading.bit5;
  settled = reading.settled;
  overload = reading.overload;
}

-- "A reading handed in with a number above 999,999 or a point above 7 is refusal 8 wherever it is used."
abbrev pub in_range_before : ReadingBefore → Bool
in_range_before reading = leb reading.number 999999 && leb reading.point 7

-- "a half above 9 is refusal 8"
pub data ReadBefore : Type 0 where
  good : ReadingBefore → ReadBefore
  refused : Refusal → ReadBefore

abbrev pub read_before : ℕ → ℕ → ℕ → ℕ → ReadBefore
read_before w0 w1 w2 con =
    cond (all_decimal w0 w1 w2)
    (good (record {
      minus = marked minus con;
      number = digits_of w0 w1 w2;
      point = con % 2 ^ 3;
      bit6 = marked sixth con;
      bit5 = marked fifth con;
      settled = marked settled con;
      overload = marked overload con;
    }))
    (refused FieldOutside)

-- "so its four bytes come back exactly"
pub data PackedBefore : Type 0 where
  bytes : List ℕ → PackedBefore
  none : Refusal → PackedBefore

abbrev pub status_before : ReadingBefore → ℕ
status_before reading =
    on_at reading.minus (2 ^ bit_of minus) + on_at reading.bit6 (2 ^ bit_of sixth) + on_at reading.bit5 (2 ^ bit_of fifth)
    + on_at reading.settled (2 ^ bit_of settled) + on_at reading.overload (2 ^ bit_of overload) + reading.point

abbrev pub packed_before : ReadingBefore → PackedBefore
packed_before reading =
    cond (in_range_before reading)
    (bytes (pair_of reading.number ∷ pair_of (reading.number / 100) ∷ pair_of (reading.number / 10000) ∷ status_before reading ∷ []))
    (none FieldOutside)

-- "the digits times 10^(7 − point), negated for minus"; "Gross less net is a signed difference"
abbrev pub value_before : ReadingBefore → Result ℤ Refusal
value_before reading = cond (in_range_before reading) (Ok (signed reading.minus (reading.number * 10 ^ (7 - reading.point)))) (Err FieldOutside)

abbrev pub difference_before : ReadingBefore → ReadingBefore → Result ℤ Refusal
difference_before gross net = cond (in_range_before gross && in_range_before net) (less (value_before gross) (value_before net)) (Err FieldOutside)

-- "(event; address, or `0:` and the serial, in decimal; sign bit as + or -; digits; point; settled; overload)"
-- with a text for the digits, which are six digits here and may be hyphens since (Overload)
abbrev pub fields_with : List ℕ → ReadingBefore → List (List ℕ)
fields_with digits reading =
    (sign_byte reading.minus ∷ []) ∷ digits ∷ one_digit reading.point ∷ (mark_byte reading.settled ∷ [])
    ∷ (mark_byte reading.overload ∷ []) ∷ []

abbrev pub fields_before : ReadingBefore → List (List ℕ)
fields_before reading = fields_with (six_digits reading.number) reading

-- the fields of a weight line up to its reading
abbrev pub ahead : Load → Address → List (List ℕ) → List (List ℕ)
ahead load address fields = spelt "weight" ∷ load_text load ∷ address_text address ∷ fields

abbrev pub line_before : ℕ → Load → Address → ReadingBefore → List ℕ
line_before number load address reading = line (decimal number) (ahead load address (fields_before reading))
