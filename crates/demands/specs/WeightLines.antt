-- 02, request 7: "The clerk saw 60 tonnes typed from a screen with the overload light on." Every weight line that shows digits has a value, and that value
-- is the digits'. A line is taken byte for byte, and read as a person reads it: by its blanks.
use Rattle.std.specs.Prelude.{ℕ, zero, suc, ◌+◌, ◌*◌, ◌-◌, ◌^◌, ◌≡◌, Bool, true, false, cond, ◌&&◌, ◌||◌, List, [], ◌∷◌, leb, eqb, ℤ, length, get_or, Ok, Err, Option, Some}
use Prim.Native.Char.{code}
use Rattle.refusal.specs.declared.Refusal.{Refusal}
use Rattle.refusal.specs.declared.Refusal.TheVariants.{Overloaded}
use Rattle.refusal.specs.Numbers.{verdict_of}
use Rattle.body.specs.declared.addresses.Address.{Address}
use Rattle.line.specs.Listener.{Heard}
use Rattle.weight.specs.declared.families.Family.{Family}
use Rattle.weight.specs.declared.Reading.{Reading}
use Rattle.weight.specs.Tenths.{signed, value_of}
use Rattle.codes.specs.declared.table.Load.{Load}
use Rattle.entries.specs.declared.entries.Entry.{Entry}
use Rattle.entries.specs.declared.entries.Entry.TheVariants as entry_as
use Rattle.entries.specs.Entries.{entry_heard}
use Rattle.listing.specs.Texts.{spelt}
use Rattle.listing.specs.Lines.{line_of, total_of}
use Rattle.listing.specs.Writing.{written_line}
use Rattle.demands.specs.Messages.{written_bytes}

-- ---- the fields of a line

-- a blank, and the end of the line
abbrev pub parts : ℕ → Bool
parts byte = eqb byte (code " ") || eqb byte (code "\n")

-- the bytes up to the first of these, and the bytes behind it
unfoldable pub word : List ℕ → List ℕ
word [] = []
word (byte ∷ more) = cond (parts byte) [] (byte ∷ word more)

unfoldable pub after_word : List ℕ → List ℕ
after_word [] = []
after_word (byte ∷ more) = cond (parts byte) more (after_word more)

-- the field at a place, from 0: event, `weight`, load, address, sign, digits, point, settled, overload, and what bit 5 says
unfoldable pub field : ℕ → List ℕ → List ℕ
field zero text = word text
field (suc place) text = field place (after_word text)

-- ---- what the digits say

abbrev pub is_digit : ℕ → Bool
is_digit byte = leb (code "0") byte && leb byte (code "9")

unfoldable pub any_digit : List ℕ → Bool
any_digit [] = false
any_digit (byte ∷ more) = is_digit byte || any_digit more

unfoldable pub all_digits : List ℕ → Bool
all_digits [] = true
all_digits (byte ∷ more) = is_digit byte && all_digits more

abbrev pub shows_digits : List ℕ → Bool
shows_digits text = any_digit (field 5 text)

-- the number that digits spell, from the left
unfoldable pub spelling : ℕ → List ℕ → ℕ
spelling said [] = said
spelling said (byte ∷ more) = spelling (said * 10 + (byte - code "0")) more

abbrev pub number_shown : List ℕ → ℕ
number_shown digits = spelling 0 digits

-- "the digits times 10^(7 − point), negated for minus", by the sign, the digits and the point on the line; asked only where digits are shown (of
-- hyphens it would say nothing but 0)
abbrev pub value_shown : List ℕ → ℤ
value_shown text = signed (eqb (get_or (field 4 text) 0 0) (code "-")) (number_shown (field 5 text) * 10 ^ (7 - number_shown (field 6 text)))

-- ---- what a line tells of a reading

pub record Tells (text : List ℕ) (reading : Reading) : Type 0 where
  pub digits : shows_digits text ≡ true → value_of reading ≡ Ok (value_shown text)
  pub six : shows_digits text ≡ true → (length (field 5 text) ≡ 6) × (all_digits (field 5 text) ≡ true)
  pub no_digits_lem : (why : Refusal) → value_of reading ≡ Err why → shows_digits text ≡ false
  pub hyphens : shows_digits text ≡ false → (field 5 text ≡ spelt "------") × (value_of reading ≡ Err Overloaded)
  -- the overload light is off beside digits and on beside hyphens
  pub light_off : shows_digits text ≡ true → field 8 text ≡ spelt "0"
  pub light_on : shows_digits text ≡ false → field 8 text ≡ spelt "1"

-- the line of a weight says `weight`, and tells of its reading
pub record WeightLine (text : List ℕ) (reading : Reading) : Type 0 where
  pub says : field 1 text ≡ spelt "weight"
  pub tells : Tells text reading

-- so it is with each weight that is written, as it stands in the lent room
abbrev pub WeightLinesTell : Type 0
WeightLinesTell =
    (number : ℕ) (load : Load) (address : Address) (reading : Reading) (room : List ℕ)
    → verdict_of (written_line number (Some (entry_as.Weight load address reading)) room).answer ≡ Ok tt
    → WeightLine (written_bytes (written_line number (Some (entry_as.Weight load address reading)) room)) reading

-- and with each that is heard, on a line of any family
abbrev pub HeardLinesTell : Type 0
HeardLinesTell =
    (family : Family) (heard : Heard) (load : Load) (address : Address) (reading : Reading) → entry_heard family heard ≡ Some (entry_as.Weight load address reading)
    → (number : ℕ) → WeightLine (line_of number (entry_heard family heard)) reading

-- the other way round: a line whose second word is `weight` is that of a weight; the total's second word is a number
pub record OfAWeight (entry : Option Entry) : Type 0 where
  pub load : Load
  pub address : Address
  pub reading : Reading
  pub is : entry ≡ Some (entry_as.Weight load address reading)

abbrev pub OnlyWeightsSayWeight : Type 0
OnlyWeightsSayWeight = (number : ℕ) (entry : Option Entry) → field 1 (line_of number entry) ≡ spelt "weight" → OfAWeight entry

abbrev pub TotalSaysNoWeight : Type 0
TotalSaysNoWeight = (total weights refused : ℕ) → field 1 (total_of total weights refused) ≡ spelt "weight" → ⊥
