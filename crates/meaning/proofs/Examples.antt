-- Shown: what code and data of the paper's table say to a short address on a line of 002, and which are refused: each rule that can be read in two ways.
-- Why: both columns of the table compute to the same.
use Rattle.std.specs.Prelude.{Result, Ok, Err}
use Prim.Native.Nat.{ℕ}
use mathlib.Core.Path.{◌≡◌, refl}
use mathlib.Core.List.{List, [], ◌∷◌, map}
use Rattle.refusal.specs.declared.Refusal.TheVariants.{CodeUnknown, LengthWrong, FieldOutside}
use Rattle.body.specs.declared.addresses.Address.TheVariants.{Short}
use Rattle.body.specs.Addresses.{address_length}
use Rattle.weight.specs.declared.families.Family.TheVariants.{Of002}
use Rattle.weight.specs.Families.{named_in, family_named}
use Rattle.weight.specs.Bytes.{four_in, read_as, read_of}
use Rattle.weight.proofs.Examples.{e3_bytes, e3_reading}
use Rattle.codes.specs.declared.table.Load.TheVariants.{Gross}
use Rattle.inputs.specs.On.{inputs_on, sum_of_bits}
use Rattle.codes.specs.declared.table.Role.{Role}
use Rattle.codes.specs.declared.table.Role.TheVariants.{Request, Reply}
use Rattle.codes.specs.Table.{line_in, line_of, row_of}
use Rattle.meaning.specs.declared.meaning.SaidWeight.{SaidWeight}
use Rattle.meaning.specs.declared.meaning.What.TheVariants as says
use Rattle.meaning.specs.Meaning.{on_in}
use Rattle.low_first.specs.LowFirst.{low_first}
use Rattle.meaning.specs.Judging.{judged_code, judged_data, judged_message, told}
use Rattle.meaning.specs.declared.meaning.What.{What}
use Rattle.refusal.specs.declared.Refusal.{Refusal}

-- E3: a gross weight of 25.1 kg
abbrev pub e3_said : SaidWeight
e3_said = record { load = Gross; bytes = e3_bytes; reading = e3_reading }

pub record Case : Type 0 where
  pub role : Role
  pub code : ℕ
  pub data' : List ℕ
  pub answer : Result What Refusal

abbrev tells : Role → ℕ → List ℕ → Result What Refusal → Case
tells role code data' answer = record { role = role; code = code; data' = data'; answer = answer }

abbrev pub cases : List Case
cases =
    tells Request 0xC3 [] (Ok says.Nothing)
    -- 6: an error is not asked, and 002's reply to an unknown code is not in the table
    ∷ tells Request 0xEE (0x01 ∷ []) (Err CodeUnknown)
    ∷ tells Reply 0xFD [] (Err CodeUnknown)
    -- a status has its top bit 0
    ∷ tells Reply 0xBF (0x7F ∷ []) (Ok (says.Status 0x7F))
    ∷ tells Reply 0xBF (0x80 ∷ []) (Err FieldOutside)
    -- a weight, with its four bytes
    ∷ tells Reply 0xC3 (0x51 ∷ 0x02 ∷ 0x00 ∷ 0x01 ∷ []) (Ok (says.Weight e3_said))
    -- a half above 9
    ∷ tells Reply 0xC2 (0x0A ∷ 0x00 ∷ 0x00 ∷ 0x00 ∷ []) (Err FieldOutside)
    -- bit 6 is reserved, bit 5 is not
    ∷ tells Reply 0xC3 (0x51 ∷ 0x02 ∷ 0x00 ∷ 0x41 ∷ []) (Err FieldOutside)
    ∷ tells Reply 0xC4 (0x01 ∷ 0x00 ∷ 0xFF ∷ 0x80 ∷ []) (Ok (says.Inputs 0x80FF0001 10))
    -- NUM 1F, 20 or 21, in both roles; a request has one byte
    ∷ tells Request 0xC6 (0x21 ∷ []) (Ok (says.Number 0x21))
    ∷ tells Request 0xC6 (0x22 ∷ []) (Err FieldOutside)
    ∷ tells Reply 0xC6 (0x1F ∷ 0x02 ∷ 0x61 ∷ 0x62 ∷ []) (Ok (says.Text 0x1F 4 6))
    ∷ tells Reply 0xC6 (0x01 ∷ 0x00 ∷ []) (Err FieldOutside)
    -- seven bytes with EVENT 70 are 8, any other length is 7
    ∷ tells Reply 0xC7 (0x02 ∷ 0x31 ∷ 0x32 ∷ 0x33 ∷ 0x34 ∷ 0x35 ∷ 0x36 ∷ []) (Ok (says.Event 0x02 3 9))
    ∷ tells Reply 0xC7 (0x70 ∷ 0x31 ∷ 0x32 ∷ 0x33 ∷ 0x34 ∷ 0x35 ∷ 0x36 ∷ []) (Err FieldOutside)
    ∷ tells Reply 0xC7 (0x70 ∷ 0x31 ∷ 0x32 ∷ 0x33 ∷ 0x34 ∷ 0x35 ∷ []) (Err LengthWrong)
    -- 40 bits, unsigned
    ∷ tells Reply 0xCC (0xFF ∷ 0x00 ∷ 0x00 ∷ 0x00 ∷ 0x80 ∷ []) (Ok (says.Converter 549_755_814_143))
    -- a text may be empty; a wrong count is 7 whatever NUM is; under two bytes is 7
    ∷ tells Request 0xD2 (0xE0 ∷ 0x00 ∷ []) (Ok (says.Text 0xE0 4 4))
    ∷ tells Request 0xD2 (0x04 ∷ 0x00 ∷ []) (Err FieldOutside)
    ∷ tells Request 0xD2 (0x04 ∷ 0x01 ∷ []) (Err LengthWrong)
    ∷ tells Request 0xD2 (0x03 ∷ []) (Err LengthWrong)
    ∷ []

pub cases_told : map (λ (case : Case). told case.role Of002 (Short 1) case.code case.data') cases ≡ map (λ (case : Case). case.answer) cases
unfolding address_length told judged_message judged_code judged_data row_of line_of line_in four_in read_of read_as family_named named_in low_first on_in inputs_on sum_of_bits
cases_told = refl
