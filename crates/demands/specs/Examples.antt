-- 01, "Judged examples": E1 to E8 as one table under one claim. The table has the bytes, what a fresh listener hears of them with both counts,
-- what the bodies say in a role, by a family, and the values of the weights among them. The claim also says that each body's frame is the bytes again.
use Rattle.std.specs.Prelude.{ℕ, ◌≡◌, true, false, length, replicate, pos, negsuc, Result, Ok, Err, ℤ}
use mathlib.Core.List.{List, [], ◌∷◌, ◌++◌, map, flatten}
use Rattle.refusal.specs.declared.Refusal.TheVariants.{BodyShort, BodyLong, HeldBroken, CheckWrong, CodeUnknown}
use Rattle.body.specs.declared.addresses.Address.TheVariants.{Short}
use Rattle.body.specs.Body.{check_right}
use Rattle.frame.specs.Stuffing.{framed}
use Rattle.line.specs.Listener.{Heard, nothing, frame, refused, fresh, events}
use Rattle.weight.specs.declared.families.Family.{Family}
use Rattle.weight.specs.declared.families.Family.TheVariants.{Of002}
use Rattle.weight.specs.Families.{family_number}
use Rattle.weight.specs.Tenths.{value_of}
use Rattle.codes.specs.declared.table.Role.{Role}
use Rattle.codes.specs.declared.table.Role.TheVariants.{Request, Reply}
use Rattle.codes.specs.declared.table.Load.TheVariants.{Net, Gross}
use Rattle.meaning.specs.declared.meaning.SaidWeight.{SaidWeight}
use Rattle.meaning.specs.declared.meaning.What.{What}
use Rattle.meaning.specs.declared.meaning.What.TheVariants as says
use Rattle.message.specs.Reading.{read_message}
use Rattle.entries.specs.declared.entries.Entry.{Entry}
use Rattle.entries.specs.declared.entries.Entry.TheVariants as entry_as
use Rattle.entries.specs.Entries.{entry_of}
use Rattle.refusal.specs.declared.Refusal.{Refusal}
use Rattle.message.specs.declared.reading.Message.{Message}

pub record Example : Type 0 where
  pub bytes : List ℕ
  pub heard : List Heard
  pub role : Role
  pub family : Family
  pub said : List (Result Message Refusal)
  pub values : List (Result ℤ Refusal)

-- the bodies of the frames heard
abbrev pub body_of_frame : Heard → List (List ℕ)
body_of_frame nothing = []
body_of_frame (frame wire kept body) = body ∷ []
body_of_frame (refused why wire kept) = []

abbrev pub bodies_of : List Heard → List (List ℕ)
bodies_of heard = flatten (map body_of_frame heard)

-- the values of the weights said
abbrev pub value_in : Entry → List (Result ℤ Refusal)
value_in (entry_as.Weight load address reading) = value_of reading ∷ []
value_in (entry_as.Message address code) = []
value_in (entry_as.Refused why) = []

abbrev pub values_of : List (Result Message Refusal) → List (Result ℤ Refusal)
values_of said = flatten (map (λ (received : Result Message Refusal). value_in (entry_of received)) said)

-- what the definitions make of an example's bytes
abbrev pub computed : Example → Example
computed example =
    let heard = events fresh example.bytes in
    let said = map (read_message example.role example.family) (bodies_of heard) in
    record { bytes = example.bytes; heard = heard; role = example.role; family = example.family; said = said; values = values_of said }

-- the frames of the bodies heard
abbrev pub framed_again : Example → List (List ℕ)
framed_again example = map framed (bodies_of example.heard)

abbrev pub as_sent : Example → List (List ℕ)
as_sent example = map (λ (body : List ℕ). example.bytes) (bodies_of example.heard)

-- a message of short address 1 whose data stand from place 2 up to place `to`
abbrev pub from1 : ℕ → ℕ → What → Result Message Refusal
from1 code to what = Ok (record { address = Short 1; code = code; from = 2; to = to; what = what })

-- body 01, then some zeros, then a check
abbrev pub zeros : ℕ → ℕ → List ℕ
zeros count check = 0x01 ∷ (replicate count 0 ++ (check ∷ []))

-- E8's second half, "with one zero more": 256 bytes, with the right check
abbrev pub one_zero_more : List ℕ
one_zero_more = zeros 254 0x01

-- "reply, 25.1 kg, not settled", and "reply, minus 0.5 kg, settled", each with its four bytes, from a line of a family
abbrev pub e3 : Family → SaidWeight
e3 family = record {
  load = Gross;
  bytes = record { w0 = 0x51; w1 = 0x02; w2 = 0x00; con = 0x01; family = family_number family };
  reading = record { minus = false; number = 251; point = 1; bit6 = false; bit5 = false; settled = false; overload = false; family = family };
}

abbrev pub e4 : Family → SaidWeight
e4 family = record {
  load = Net;
  bytes = record { w0 = 0x05; w1 = 0x00; w2 = 0x00; con = 0x91; family = family_number family };
  reading = record { minus = true; number = 5; point = 1; bit6 = false; bit5 = false; settled = true; overload = false; family = family };
}

abbrev pub examples : List Example
examples =
    record { bytes = 0xFF ∷ 0x01 ∷ 0xC3 ∷ 0xE3 ∷ 0xFF ∷ 0xFF ∷ []; heard = frame 6 3 (0x01 ∷ 0xC3 ∷ 0xE3 ∷ []) ∷ []; role = Request; family = Of002; said = from1 0xC3 2 says.Nothing ∷ []; values = [] }
    ∷ record { bytes = 0xFF ∷ 0x01 ∷ 0xC2 ∷ 0x8A ∷ 0xFF ∷ 0xFF ∷ []; heard = frame 6 3 (0x01 ∷ 0xC2 ∷ 0x8A ∷ []) ∷ []; role = Request; family = Of002; said = from1 0xC2 2 says.Nothing ∷ []; values = [] }
    ∷ record {
      bytes = 0xFF ∷ 0x01 ∷ 0xC3 ∷ 0x51 ∷ 0x02 ∷ 0x00 ∷ 0x01 ∷ 0xDE ∷ 0xFF ∷ 0xFF ∷ [];
      heard = frame 10 7 (0x01 ∷ 0xC3 ∷ 0x51 ∷ 0x02 ∷ 0x00 ∷ 0x01 ∷ 0xDE ∷ []) ∷ [];
      role = Reply;
      family = Of002;
      said = from1 0xC3 6 (says.Weight (e3 Of002)) ∷ [];
      values = Ok (pos 251_000_000) ∷ [];
    }
    ∷ record {
      bytes = 0xFF ∷ 0x01 ∷ 0xC2 ∷ 0x05 ∷ 0x00 ∷ 0x00 ∷ 0x91 ∷ 0x32 ∷ 0xFF ∷ 0xFF ∷ [];
      heard = frame 10 7 (0x01 ∷ 0xC2 ∷ 0x05 ∷ 0x00 ∷ 0x00 ∷ 0x91 ∷ 0x32 ∷ []) ∷ [];
      role = Reply;
      family = Of002;
      said = from1 0xC2 6 (says.Weight (e4 Of002)) ∷ [];
      values = Ok (negsuc 4_999_999) ∷ [];
    }
    ∷ record {
      bytes = 0xFF ∷ 0x01 ∷ 0xA1 ∷ 0xFF ∷ 0xFE ∷ 0x00 ∷ 0x00 ∷ 0x39 ∷ 0xFF ∷ 0xFF ∷ [];
      heard = frame 10 6 (0x01 ∷ 0xA1 ∷ 0xFF ∷ 0x00 ∷ 0x00 ∷ 0x39 ∷ []) ∷ [];
      role = Reply;
      family = Of002;
      said = from1 0xA1 5 (says.Serial 255) ∷ [];
      values = [];
    }
    ∷ record { bytes = 0xFF ∷ 0x01 ∷ 0xC3 ∷ 0xE2 ∷ 0xFF ∷ 0xFF ∷ []; heard = refused CheckWrong 6 3 ∷ []; role = Reply; family = Of002; said = []; values = [] }
    ∷ record { bytes = 0xFF ∷ 0x01 ∷ 0xFF ∷ 0xFF ∷ []; heard = refused BodyShort 4 1 ∷ []; role = Reply; family = Of002; said = []; values = [] }
    ∷ record { bytes = 0xFF ∷ 0x01 ∷ 0xFF ∷ 0x02 ∷ []; heard = refused HeldBroken 4 1 ∷ []; role = Reply; family = Of002; said = []; values = [] }
    ∷ record {
      bytes = 0xFF ∷ (zeros 253 0x27 ++ (0xFF ∷ 0xFF ∷ []));
      heard = frame 258 255 (zeros 253 0x27) ∷ [];
      role = Reply;
      family = Of002;
      said = Err CodeUnknown ∷ [];
      values = [];
    }
    ∷ record { bytes = 0xFF ∷ (one_zero_more ++ (0xFF ∷ 0xFF ∷ [])); heard = refused BodyLong 257 255 ∷ []; role = Reply; family = Of002; said = []; values = [] }
    ∷ []

-- the one claim. What is heard, said and weighed is what the table says. What was heard whole is written as it was sent. The body that is
-- refused only for its length has 256 bytes and the right check.
pub record JudgedExamples : Type 0 where
  pub read : map computed examples ≡ examples
  pub written : map framed_again examples ≡ map as_sent examples
  pub too_long : (length one_zero_more ≡ 256) × (check_right one_zero_more ≡ true)
