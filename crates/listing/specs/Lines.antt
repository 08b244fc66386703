-- 01, "Judged examples": the lines of a listing, "(event; address, or `0:` and the serial, in decimal; sign bit as + or -; digits; point;
-- settled; overload)"; "Other messages list as `N message ADDRESS CODE`, the code in two capital hex digits; refusals 1 to 8 all as the third line."
-- 02, request 4: "The listing adds one field at the end of a weight line"; request 7: "The listing prints six hyphens for the digits".
use Rattle.std.specs.Prelude.{ℕ, Bool, true, false, cond, List, [], ◌∷◌, ◌++◌, Option, Some, None}
use Rattle.refusal.specs.Numbers.{number_of}
use Rattle.codes.specs.declared.table.Load.{Load}
use Rattle.codes.specs.declared.table.Load.TheVariants.{Net, Gross}
use Rattle.weight.specs.declared.Reading.{Reading}
use Rattle.weight.specs.Families.{Called, plain_bit, key_code, net_mode, event, scale_number, reserved, terminal}
use Rattle.entries.specs.declared.entries.Entry.{Entry}
use Rattle.entries.specs.declared.entries.Entry.TheVariants.{Weight, Message, Refused}
use Rattle.listing.specs.Texts.{spelt, decimal, six_digits, one_digit, hex_byte, address_text, sign_byte, mark_byte}

-- the rest of a line behind a field: one blank ahead of each further field, and a newline behind the last
abbrev pub rest : List (List ℕ) → List ℕ
rest [] = spelt "\n"
rest (field ∷ more) = spelt " " ++ (field ++ rest more)

abbrev pub line : List ℕ → List (List ℕ) → List ℕ
line field more = field ++ rest more

abbrev pub load_text : Load → List ℕ
load_text Net = spelt "net"
load_text Gross = spelt "gross"

-- "`net`, `gross`, or `scale0`, `scale1`": what bit 5 says, by what the family calls it; no field where it has no such name
abbrev pub fifth_fields : Called → Bool → List (List ℕ)
fifth_fields net_mode true = spelt "net" ∷ []
fifth_fields net_mode false = spelt "gross" ∷ []
fifth_fields scale_number true = spelt "scale1" ∷ []
fifth_fields scale_number false = spelt "scale0" ∷ []
fifth_fields plain_bit set = []
fifth_fields key_code set = []
fifth_fields event set = []
fifth_fields reserved set = []

abbrev pub mode_fields : Reading → List (List ℕ)
mode_fields reading = fifth_fields (terminal reading.family).fifth reading.bit5

-- point, settled, overload, and the mode
abbrev pub mark_fields : Reading → List (List ℕ)
mark_fields reading = one_digit reading.point ∷ (mark_byte reading.settled ∷ []) ∷ (mark_byte reading.overload ∷ []) ∷ mode_fields reading

-- the digits, or six hyphens of an overloaded bridge
abbrev pub digits_field : Reading → List ℕ
digits_field reading = cond reading.overload (spelt "------") (six_digits reading.number)

-- the fields of a reading: sign, digits, and then the marks
abbrev pub reading_fields : Reading → List (List ℕ)
reading_fields reading = (sign_byte reading.minus ∷ []) ∷ digits_field reading ∷ mark_fields reading

-- the line of an entry; if nothing was heard, there is no line
abbrev pub line_of : ℕ → Option Entry → List ℕ
line_of number None = []
line_of number (Some (Weight load address reading)) = line (decimal number) (spelt "weight" ∷ load_text load ∷ address_text address ∷ reading_fields reading)
line_of number (Some (Message address code)) = line (decimal number) (spelt "message" ∷ address_text address ∷ hex_byte code ∷ [])
line_of number (Some (Refused why)) = line (decimal number) (spelt "refused" ∷ decimal (number_of why) ∷ [])

-- "The total counts all events."
abbrev pub total_of : ℕ → ℕ → ℕ → List ℕ
total_of total weights refused =
    line (spelt "total") (decimal total ∷ spelt "weights" ∷ decimal weights ∷ spelt "refused" ∷ decimal refused ∷ [])
