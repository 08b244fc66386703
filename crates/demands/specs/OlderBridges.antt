-- 02, request 1: "Two quays run terminals from documents 000 and 001 with addresses A4 and F0." "Demands 2 and 3 read 'legal address' as the new range
-- from here." Their statements keep their text; this is one wire from A4, F0 and FD, read back, said, noted, listed and written again.
use Rattle.std.specs.Prelude.{ℕ, ◌≡◌, true, false, pos, negsuc, drop, replicate, Ok, Some}
use mathlib.Core.List.{List, [], ◌∷◌, map, flatten}
use Rattle.body.specs.declared.addresses.Address.TheVariants.{Short, Serial}
use Rattle.body.specs.Addresses.{legal, address_in}
use Rattle.body.specs.Body.{code_in, data_in}
use Rattle.frame.specs.Stuffing.{framed}
use Rattle.frame.specs.Writing.{written_frame}
use Rattle.line.specs.Listener.{frame, fresh, events}
use Rattle.line.specs.Readers.{fresh_reader}
use Rattle.weight.specs.declared.families.Family.TheVariants.{Of000}
use Rattle.codes.specs.declared.table.Role.TheVariants.{Reply}
use Rattle.codes.specs.declared.table.Load.TheVariants.{Net, Gross}
use Rattle.meaning.specs.declared.meaning.What.TheVariants as says
use Rattle.weighing_log.specs.Hearing.{weighing}
use Rattle.entries.specs.declared.entries.Entry.TheVariants as entry_as
use Rattle.entries.specs.Entries.{entry_heard}
use Rattle.demands.specs.Wire.{Sent, AllProper, wire_of}
use Rattle.demands.specs.Examples.{Example, computed, bodies_of, e3, e4}
use Rattle.demands.specs.Messages.{written_bytes}
use Rattle.demands.specs.Reading.{heard_by}
use Rattle.demands.specs.Weighings.{records_heard}

-- the ends of the range; "or a serial too large": the serial's rule is as it was
pub record RangeOfAddresses : Type 0 where
  pub inside : map (λ (byte : ℕ). legal (Short byte)) (0x01 ∷ 0x9F ∷ 0xA0 ∷ 0xA4 ∷ 0xF0 ∷ 0xFD ∷ []) ≡ replicate 6 true
  pub outside : map (λ (byte : ℕ). legal (Short byte)) (0x00 ∷ 0xFE ∷ 0xFF ∷ []) ≡ replicate 3 false
  pub serials : map (λ (serial : ℕ). legal (Serial serial)) (0 ∷ 16_777_215 ∷ 16_777_216 ∷ []) ≡ true ∷ true ∷ false ∷ []

-- E3's weight from A4, E4's from F0, and a serial number with an FF in it from FD, the highest short address
abbrev pub from_a4 : List ℕ
from_a4 = 0xA4 ∷ 0xC3 ∷ 0x51 ∷ 0x02 ∷ 0x00 ∷ 0x01 ∷ 0x92 ∷ []

abbrev pub from_f0 : List ℕ
from_f0 = 0xF0 ∷ 0xC2 ∷ 0x05 ∷ 0x00 ∷ 0x00 ∷ 0x91 ∷ 0xC9 ∷ []

abbrev pub from_fd : List ℕ
from_fd = 0xFD ∷ 0xA1 ∷ 0xFF ∷ 0x00 ∷ 0x00 ∷ 0x02 ∷ []

abbrev pub older : List Sent
older =
    record { ahead = 1; body = from_a4; behind = 2 } ∷ record { ahead = 1; body = from_f0; behind = 2 } ∷ record { ahead = 1; body = from_fd; behind = 2 } ∷ []

-- one wire, what a fresh listener hears of it, and what it says, as a line of 000
abbrev pub older_example : Example
older_example = record {
  bytes =
      0xFF ∷ 0xA4 ∷ 0xC3 ∷ 0x51 ∷ 0x02 ∷ 0x00 ∷ 0x01 ∷ 0x92 ∷ 0xFF ∷ 0xFF
      ∷ 0xFF ∷ 0xF0 ∷ 0xC2 ∷ 0x05 ∷ 0x00 ∷ 0x00 ∷ 0x91 ∷ 0xC9 ∷ 0xFF ∷ 0xFF
      ∷ 0xFF ∷ 0xFD ∷ 0xA1 ∷ 0xFF ∷ 0xFE ∷ 0x00 ∷ 0x00 ∷ 0x02 ∷ 0xFF ∷ 0xFF ∷ [];
  heard = frame 10 7 from_a4 ∷ frame 20 7 from_f0 ∷ frame 30 6 from_fd ∷ [];
  role = Reply;
  family = Of000;
  said =
      Ok (record { address = Short 0xA4; code = 0xC3; from = 2; to = 6; what = says.Weight (e3 Of000) })
      ∷ Ok (record { address = Short 0xF0; code = 0xC2; from = 2; to = 6; what = says.Weight (e4 Of000) })
      ∷ Ok (record { address = Short 0xFD; code = 0xA1; from = 2; to = 5; what = says.Serial 255 }) ∷ [];
  values = Ok (pos 251_000_000) ∷ Ok (negsuc 4_999_999) ∷ [];
}

-- a body taken apart and handed to the frame writer, with room enough: the bytes that it wrote
abbrev pub written_again : List ℕ → List ℕ
written_again body = written_bytes (written_frame (address_in body) (code_in body) (data_in body) (replicate 20 0))

-- the frames are the user's frames of demand 3. Their wire reads back, whole and in order. Who joins behind its first byte misses only the first
-- frame. Each body is written as it was heard, by the frame rule and by the frame writer.
pub record OlderBridges : Type 0 where
  pub range : RangeOfAddresses
  pub frames : AllProper older
  pub laid : wire_of older ≡ older_example.bytes
  pub read : computed older_example ≡ older_example
  pub by_reader : heard_by fresh_reader older_example.bytes ≡ older_example.heard
  pub joined_late : events fresh (drop 1 older_example.bytes) ≡ frame 19 7 from_f0 ∷ frame 29 6 from_fd ∷ []
  pub written : flatten (map framed (bodies_of older_example.heard)) ≡ older_example.bytes
  pub by_writer : flatten (map written_again (bodies_of older_example.heard)) ≡ older_example.bytes
  pub noted :
      records_heard (λ (number : ℕ). number) Reply Of000 older_example.heard
      ≡ weighing 1 (Short 0xA4) Gross (e3 Of000).bytes ∷ weighing 2 (Short 0xF0) Net (e4 Of000).bytes ∷ []
  pub listed :
      map (entry_heard Of000) older_example.heard
      ≡ Some (entry_as.Weight Gross (Short 0xA4) (e3 Of000).reading) ∷ Some (entry_as.Weight Net (Short 0xF0) (e4 Of000).reading) ∷ Some (entry_as.Message (Short 0xFD) 0xA1) ∷ []
