-- Shown: the paper's listing of E3, E4 and the first of E6, heard one after another; and every text that can be spelt in two ways.
-- Why: both sides of each equation compute to the same bytes.
use Rattle.std.specs.Prelude.{Option, Some, None}
use Prim.Native.Nat.{ℕ}
use mathlib.Core.Path.{◌≡◌, refl}
use mathlib.Core.Bool.{Bool, true, false}
use mathlib.Core.List.{List, [], ◌∷◌, map}
use Rattle.refusal.specs.declared.Refusal.TheVariants.{BodyShort, RecordBroken}
use Rattle.check_byte.specs.Register.{received, feed_all, feed_byte, feed_bits, shift_in}
use Rattle.weight.specs.declared.families.Family.{Family}
use Rattle.weight.specs.declared.families.Family.TheVariants.{Plain, Of000, Of001, Of002}
use Rattle.weight.specs.Families.{named_in, family_named}
use Rattle.weight.specs.Bytes.{four_in, read_as, read_of}
use Rattle.weight.specs.declared.Reading.{Reading}
use Rattle.low_first.specs.LowFirst.{low_first}
use Rattle.body.specs.declared.addresses.Address.TheVariants.{Short, Serial}
use Rattle.body.specs.Addresses.{legal, address_in, address_length}
use Rattle.body.specs.Body.{short, judged, judged_lent, code_in, data_in}
use Rattle.line.specs.Listener.{fresh, events, heard_then, hear, hear_in, keep, ended, tick}
use Rattle.codes.specs.declared.table.Load.TheVariants.{Net, Gross}
use Rattle.codes.specs.Table.{line_in, line_of as rows_of, row_of}
use Rattle.meaning.specs.Judging.{judged_code, judged_data, judged_message}
use Rattle.message.specs.Reading.{message_of, read_message, read_if}
use Rattle.entries.specs.declared.entries.Entry.{Entry}
use Rattle.entries.specs.declared.entries.Entry.TheVariants.{Weight, Message, Refused}
use Rattle.listing.specs.Texts.{spelt, decimal_in, decimal}
use Rattle.listing.specs.Lines.{line_of}
use Rattle.entries.specs.Entries.{entry_heard}
use Rattle.listing.specs.Whole.{listing}

-- E3, E4 and the first of E6, one after another
abbrev pub capture : List ℕ
capture =
    0xFF ∷ 0x01 ∷ 0xC3 ∷ 0x51 ∷ 0x02 ∷ 0x00 ∷ 0x01 ∷ 0xDE ∷ 0xFF ∷ 0xFF
    ∷ 0xFF ∷ 0x01 ∷ 0xC2 ∷ 0x05 ∷ 0x00 ∷ 0x00 ∷ 0x91 ∷ 0x32 ∷ 0xFF ∷ 0xFF
    ∷ 0xFF ∷ 0x01 ∷ 0xC3 ∷ 0xE2 ∷ 0xFF ∷ 0xFF ∷ []

-- as a line of 002: both weight lines end in `gross`, since bit 5 is 0 in both
pub four_lines :
    listing Of002 (events fresh capture)
    ≡ spelt "1 weight gross 1 + 000251 1 0 0 gross\n2 weight net 1 - 000005 1 1 0 gross\n3 refused 4\ntotal 3 weights 2 refused 1\n"
unfolding listing entry_heard decimal decimal_in events heard_then hear hear_in keep ended tick read_message read_if message_of judged_message judged_code judged_data row_of rows_of line_in four_in read_of read_as family_named named_in judged_lent judged short received feed_all feed_byte feed_bits shift_in legal address_in low_first address_length code_in data_in
four_lines = refl

-- a silent capture
pub silence : (family : Family) → listing family [] ≡ spelt "total 0 weights 0 refused 0\n"
unfolding listing decimal decimal_in
silence family = refl

-- ---- lines, each of an entry with its number

pub record Listed : Type 0 where
  pub number : ℕ
  pub entry : Option Entry
  pub line : List ℕ

abbrev lists_as : ℕ → Option Entry → List ℕ → Listed
lists_as number entry line = record { number = number; entry = entry; line = line }

-- minus zero keeps its sign; an overloaded one shows hyphens for its digits
abbrev overloaded : Family → Bool → Reading
overloaded family bit5 = record { minus = true; number = 0; point = 7; bit6 = true; bit5 = bit5; settled = false; overload = true; family = family }

-- 002, settled: sign bit, number, overload
abbrev shown : Bool → ℕ → Bool → Reading
shown minus number over =
    record { minus = minus; number = number; point = 0; bit6 = false; bit5 = false; settled = true; overload = over; family = Of002 }

abbrev pub lines : List Listed
lines =
    lists_as 18_446_744_073_709_551_615 (Some (Weight Net (Serial 16_777_215) (overloaded Plain true))) (spelt "18446744073709551615 weight net 0:16777215 - ------ 7 0 1\n")
    -- the last field is that of bit 5, by the family
    ∷ lists_as 1 (Some (Weight Net (Short 1) (overloaded Of000 true))) (spelt "1 weight net 1 - ------ 7 0 1 net\n")
    ∷ lists_as 2 (Some (Weight Net (Short 1) (overloaded Of000 false))) (spelt "2 weight net 1 - ------ 7 0 1 gross\n")
    ∷ lists_as 3 (Some (Weight Gross (Short 1) (overloaded Of001 true))) (spelt "3 weight gross 1 - ------ 7 0 1 scale1\n")
    ∷ lists_as 4 (Some (Weight Gross (Short 1) (overloaded Of001 false))) (spelt "4 weight gross 1 - ------ 7 0 1 scale0\n")
    ∷ lists_as 5 (Some (Weight Gross (Short 1) (overloaded Of002 true))) (spelt "5 weight gross 1 - ------ 7 0 1 net\n")
    -- minus zero without overload, and 60 tonnes with it
    ∷ lists_as 6 (Some (Weight Net (Short 1) (shown true 0 false))) (spelt "6 weight net 1 - 000000 0 1 0 gross\n")
    ∷ lists_as 8 (Some (Weight Gross (Short 1) (shown false 60000 true))) (spelt "8 weight gross 1 + ------ 0 1 1 gross\n")
    ∷ lists_as 10 (Some (Message (Serial 0) 0xA1)) (spelt "10 message 0:0 A1\n")
    ∷ lists_as 100 (Some (Message (Short 253) 0x0F)) (spelt "100 message 253 0F\n")
    ∷ lists_as 9 (Some (Refused BodyShort)) (spelt "9 refused 1\n")
    ∷ lists_as 0 (Some (Refused RecordBroken)) (spelt "0 refused 11\n")
    ∷ lists_as 7 None []
    ∷ []

pub lines_listed : map (λ (listed : Listed). line_of listed.number listed.entry) lines ≡ map (λ (listed : Listed). listed.line) lines
unfolding decimal decimal_in
lines_listed = refl
