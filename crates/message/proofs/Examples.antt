-- Shown: what bodies of the paper say and which are refused: E3, E5, E6, and the longest texts.
-- Why: both columns of each table compute to the same.
use Rattle.std.specs.Prelude.{Result, Ok, Err}
use Prim.Native.Nat.{ℕ}
use mathlib.Core.Path.{◌≡◌, refl}
use mathlib.Core.List.{List, [], ◌∷◌, map}
use lib.ListN.{replicate}
use Rattle.refusal.specs.declared.Refusal.{Refusal}
use Rattle.refusal.specs.declared.Refusal.TheVariants.{BodyShort, BodyLong, CheckWrong, AddressIllegal, LengthWrong, RoomShort}
use Rattle.check_byte.specs.Register.{received, check_of, feed_all, feed_byte, feed_bits, shift_in}
use Rattle.weight.specs.declared.families.Family.TheVariants.{Of002}
use Rattle.weight.specs.Families.{named_in, family_named}
use Rattle.weight.specs.Bytes.{four_in, read_as, read_of}
use Rattle.body.specs.declared.addresses.Address.{Address}
use Rattle.body.specs.declared.addresses.Address.TheVariants.{Short, Serial}
use Rattle.body.specs.Addresses.{legal, address_bytes, address_in, address_length}
use Rattle.body.specs.Body.{unchecked, body_of, short, code_in, data_in}
use Rattle.frame.specs.Stuffing.{count_ff, needed}
use Rattle.codes.specs.declared.table.Role.TheVariants.{Request, Reply}
use Rattle.meaning.specs.declared.meaning.What.TheVariants as says
use Rattle.codes.specs.Table.{line_in, line_of, row_of}
use Rattle.meaning.proofs.Examples.{e3_said}
use Rattle.low_first.specs.LowFirst.{low_first, low_bytes}
use Rattle.meaning.specs.Judging.{judged_code, judged_data, judged_message}
use Rattle.message.specs.Reading.{message_of, read_if, read_message}
use Rattle.message.specs.Writing.{judged_message_write}
use Rattle.message.specs.declared.reading.Message.{Message}

-- ---- bodies, read as replies of 002

pub record Heard : Type 0 where
  pub body : List ℕ
  pub answer : Result Message Refusal

abbrev answered : List ℕ → Result Message Refusal → Heard
answered body answer = record { body = body; answer = answer }

abbrev pub bodies : List Heard
bodies =
    -- E3, 25.1 kg
    answered (0x01 ∷ 0xC3 ∷ 0x51 ∷ 0x02 ∷ 0x00 ∷ 0x01 ∷ 0xDE ∷ [])
    (Ok (record { address = Short 1; code = 0xC3; from = 2; to = 6; what = says.Weight e3_said }))
    -- E5, serial 255
    ∷ answered (0x01 ∷ 0xA1 ∷ 0xFF ∷ 0x00 ∷ 0x00 ∷ 0x39 ∷ [])
    (Ok (record { address = Short 1; code = 0xA1; from = 2; to = 5; what = says.Serial 255 }))
    -- E1, a request read as a reply
    ∷ answered (0x01 ∷ 0xC3 ∷ 0xE3 ∷ []) (Err LengthWrong)
    -- E6
    ∷ answered (0x01 ∷ 0xC3 ∷ 0xE2 ∷ []) (Err CheckWrong)
    ∷ answered (0x01 ∷ []) (Err BodyShort)
    -- a lent body may be empty, too long whatever its check, or begin with FE
    ∷ answered [] (Err BodyShort)
    ∷ answered (replicate 256 0x01) (Err BodyLong)
    ∷ answered (0xFE ∷ 0xC3 ∷ check_of (0xFE ∷ 0xC3 ∷ []) ∷ []) (Err AddressIllegal)
    ∷ []

pub bodies_read : map (λ (heard : Heard). read_message Reply Of002 heard.body) bodies ≡ map (λ (heard : Heard). heard.answer) bodies
unfolding read_message read_if message_of judged_message judged_code judged_data row_of line_of line_in four_in read_of read_as family_named named_in low_first short received check_of feed_all feed_byte feed_bits shift_in legal address_in address_length code_in data_in
bodies_read = refl

-- ---- the longest text: 250 characters with a short address, 247 with a serial. With no room at all, a message that is not too long is 9.

pub record Long : Type 0 where
  pub address : Address
  pub count : ℕ
  pub answer : Refusal

abbrev text_of : Address → ℕ → Refusal → Long
text_of address count answer = record { address = address; count = count; answer = answer }

abbrev pub texts : List Long
texts =
    text_of (Short 1) 250 RoomShort
    ∷ text_of (Short 1) 251 BodyLong
    ∷ text_of (Short 1) 255 BodyLong
    ∷ text_of (Serial 1) 247 RoomShort
    ∷ text_of (Serial 1) 248 BodyLong
    -- 5 comes ahead of 2
    ∷ text_of (Short 0) 255 AddressIllegal
    ∷ []

pub texts_judged : map (λ (text : Long). judged_message_write Request Of002 text.address 0xD2 (0x01 ∷ text.count ∷ replicate text.count 0x41) []) texts
    ≡ map (λ (text : Long). Err text.answer) texts
unfolding judged_message_write judged_message judged_code judged_data row_of line_of line_in legal body_of unchecked address_bytes low_bytes needed count_ff check_of feed_all feed_byte feed_bits shift_in
texts_judged = refl
