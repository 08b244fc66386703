-- Findings, computed: the paper's examples, the ends of a body, the edges of both refusals, two bad bits; and a body that a listener refused, handed on.
use Rattle.std.specs.Prelude.{ℕ, ◌≡◌, List, [], ◌∷◌, ◌++◌, length, take, get_or, replicate, Result, Ok, Err, Option, Some, None}
use Rattle.refusal.specs.declared.Refusal.TheVariants.{CheckWrong, LengthOutside, CheckRight}
use Rattle.refusal.specs.Numbers.{number_of}
use Rattle.body.specs.Body.{longest}
use Rattle.line.specs.declared.places.Event.TheVariants as event_as
use Rattle.line.specs.declared.reading.Reader.{Reader}
use Rattle.line.specs.Listener.{Listener}
use Rattle.line.specs.Readers.{view, fresh_reader, fed}
use Rattle.check_misses.specs.Places.{turned_over, differing}
use Rattle.check_misses.specs.Powers.{power}
use Rattle.check_misses.specs.Misses.{Passes}
use Rattle.bad_bit.specs.WhichBit.{finding}
use Rattle.bad_bit.specs.Table.{powers_kept}
use Rattle.crew_sheet.specs.Findings.{AskedAndFails, ByRegister}
use Rattle.crew_sheet.specs.HandedOn.{BodyThatFailed}
use Rattle.bad_bit.specs.declared.BitPlace.{BitPlace}
use Rattle.refusal.specs.declared.Refusal.{Refusal}

abbrev pub bit : ℕ → Result (Option BitPlace) Refusal
bit place = Ok (Some (record { 0 = place }))

-- E6's first body is E1's with its last bit turned over. E3's with the low bit of its code: a net weight where a gross one was said
pub record PaperShown : Type 0 where
  pub last_bit : finding (0x01 ∷ 0xC3 ∷ 0xE2 ∷ []) ≡ bit 0
  pub as_sent_lem : finding (0x01 ∷ 0xC3 ∷ 0xE3 ∷ []) ≡ Err CheckRight
  pub code : finding (0x01 ∷ 0xC2 ∷ 0x51 ∷ 0x02 ∷ 0x00 ∷ 0x01 ∷ 0xDE ∷ []) ≡ bit 40

-- one byte is served: of its eight bits each can be told. 03 has two bits too many, and the bit that 69 would need is the ninth
pub record OneByteShown : Type 0 where
  pub last : finding (0x01 ∷ []) ≡ bit 0
  pub first : finding (0x80 ∷ []) ≡ bit 7
  pub two : finding (0x03 ∷ []) ≡ Ok None
  pub ninth : finding (0x69 ∷ []) ≡ Ok None
  pub two_bytes : finding (0x00 ∷ 0x69 ∷ []) ≡ bit 8
  pub right : finding (0x00 ∷ []) ≡ Err CheckRight

-- no byte and 32 are refused by 25, right or not; 31 are served. The first bit of 31 bytes is 247. The seven powers of x from 4E to B4 are past them
pub record LengthsShown : Type 0 where
  pub none : finding [] ≡ Err LengthOutside
  pub right : finding (replicate 31 0x00) ≡ Err CheckRight
  pub first : finding (0x80 ∷ replicate 30 0x00) ≡ bit 247
  pub past : finding (replicate 30 0x00 ++ (0x4E ∷ [])) ≡ Ok None
  pub last_past : finding (replicate 30 0x00 ++ (0xB4 ∷ [])) ≡ Ok None
  pub over_right : finding (replicate 32 0x00) ≡ Err LengthOutside
  pub over : finding (replicate 31 0x00 ++ (0x01 ∷ [])) ≡ Err LengthOutside
  pub number : number_of LengthOutside ≡ 25
  pub number_too : number_of CheckRight ≡ 26

-- at 32 bytes two bits would, the first and the last: 31 is the longest that can be asked
pub record TwoWouldShown : Type 0 where
  pub first : Passes (turned_over 255 (0x80 ∷ replicate 31 0x00))
  pub last : Passes (turned_over 0 (0x80 ∷ replicate 31 0x00))

-- the bit is told though the first byte becomes 00, a serial's mark, or FE or FF, which no address has: no address is asked
pub record AnyAddressShown : Type 0 where
  pub serial : finding (0x02 ∷ 0xC3 ∷ 0xE0 ∷ []) ≡ bit 17
  pub illegal : finding (0xFC ∷ 0xC3 ∷ 0x8B ∷ []) ≡ bit 17
  pub delimiter : finding (0xFD ∷ 0xC3 ∷ 0x88 ∷ []) ≡ bit 17

-- E1's last two bits are bad: a third one is told, which was right. Its first and its last: none is told
pub record TwoBadShown : Type 0 where
  pub third : finding (turned_over 0 (turned_over 1 (0x01 ∷ 0xC3 ∷ 0xE3 ∷ []))) ≡ bit 16
  pub none : finding (turned_over 0 (turned_over 23 (0x01 ∷ 0xC3 ∷ 0xE3 ∷ []))) ≡ Ok None

-- E6's first wire, heard by a reader in which an older body stands: the first three bytes of its array are the body that failed, and the last bit is told
abbrev pub stale : Reader
stale = record { place = fresh_reader.place; body = replicate longest 0x77 }

abbrev pub refused_wire : List ℕ
refused_wire = 0xFF ∷ 0x01 ∷ 0xC3 ∷ 0xE2 ∷ 0xFF ∷ 0xFF ∷ []

pub record HandedOnShown : Type 0 where
  pub event : (fed stale refused_wire).event ≡ Some (event_as.Refused CheckWrong (record { 0 = 6 }) (record { 0 = 3 }))
  pub body : take 3 (fed stale refused_wire).reader.body ≡ 0x01 ∷ 0xC3 ∷ 0xE2 ∷ []
  pub told : finding (take 3 (fed stale refused_wire).reader.body) ≡ bit 0
  pub place : (fed stale refused_wire).reader.place.kept.0 ≡ 0

-- E5's wire, and one bad bit on it: FD where its inner FF was. The FE behind it is kept, seven bytes fail, and the top bit of the check is told, which
-- was right
abbrev pub serial_wire : List ℕ
serial_wire = 0xFF ∷ 0x01 ∷ 0xA1 ∷ 0xFF ∷ 0xFE ∷ 0x00 ∷ 0x00 ∷ 0x39 ∷ 0xFF ∷ 0xFF ∷ []

abbrev pub hit_wire : List ℕ
hit_wire = 0xFF ∷ 0x01 ∷ 0xA1 ∷ 0xFD ∷ 0xFE ∷ 0x00 ∷ 0x00 ∷ 0x39 ∷ 0xFF ∷ 0xFF ∷ []

pub record WireHitShown : Type 0 where
  pub one_bit : differing serial_wire hit_wire ≡ 49 ∷ []
  pub heard : (fed stale hit_wire).event ≡ Some (event_as.Refused CheckWrong (record { 0 = 10 }) (record { 0 = 7 }))
  pub told : finding (take 7 (fed stale hit_wire).reader.body) ≡ bit 7

-- the laws at their edges: the table's last entry; of 31 bytes the first and the last bit; the last of the seven powers past them; a block that ended
-- before the FF that ends a body, and no block at all; the longest body that is served, and the shortest that is too long
pub record AtTheEdges : Type 0 where
  pub table : get_or powers_kept 254 0 ≡ power 254
  pub at_most_one : (body : List ℕ) → length body ≡ 31 → Passes (turned_over 247 body) → Passes (turned_over 0 body) → ⊥
  pub one_bad : (sent : List ℕ) → length sent ≡ 31 → Passes sent → finding (turned_over 247 sent) ≡ bit 247
  pub two_bad : (sent : List ℕ) → length sent ≡ 31 → Passes sent → finding (turned_over 0 (turned_over 247 sent)) ≡ bit 247 → ⊥
  pub nor_the_other : (sent : List ℕ) → length sent ≡ 31 → Passes sent → finding (turned_over 0 (turned_over 247 sent)) ≡ bit 0 → ⊥
  pub register : ByRegister (replicate 30 0x00 ++ (0xB4 ∷ []))
  pub not_ended : BodyThatFailed (view stale) (0xFF ∷ 0x01 ∷ 0xC3 ∷ 0xE2 ∷ 0xFF ∷ []) 6 3 (fed stale refused_wire).reader.body → ⊥
  pub no_byte : (listener : Listener) (block : List ℕ) (kept : ℕ) (array : List ℕ) → BodyThatFailed listener block 0 kept array → ⊥
  pub served : (listener : Listener) (block : List ℕ) (used : ℕ) (array : List ℕ) → BodyThatFailed listener block used 31 array → AskedAndFails (take 31 array)
  pub long : (listener : Listener) (block : List ℕ) (used : ℕ) (array : List ℕ) → BodyThatFailed listener block used 32 array
      → finding (take 32 array) ≡ Err LengthOutside
