-- 02, request 8, "show that example", computed: messages that somebody sends, and bodies beside them that differ and pass too. And the laws at their
-- edges.
use Rattle.std.specs.Prelude.{ℕ, zero, suc, ◌+◌, ◌-◌, ◌*◌, ◌/◌, ◌%◌, ◌^◌, ◌≡◌, cond, List, [], ◌∷◌, ◌++◌, length, replicate, T, eqb}
use Rattle.std.proofs.Math.Pow.{are_bytes}
use Rattle.check_byte.specs.Register.{received}
use Rattle.check_misses.specs.Places.{bits_of, turned_over, OnlyInside, InBits, OnlyInsideLowFirst}
use Rattle.check_misses.specs.Misses.{Missed, NotBoth, Filling, OneFilling, BitTurned}
use Rattle.check_misses.specs.PlacesShown.{zeros, eight_across}

-- "At 32 bytes .. the first and last bit flipped together are missed": a text of 27 blanks, sent to the display 01 of the terminal 01 (code D2)
abbrev pub middle : List ℕ
middle = 0xD2 ∷ 0x01 ∷ 0x1B ∷ replicate 27 0x20

abbrev pub to_terminal1 : List ℕ
to_terminal1 = 0x01 ∷ (middle ++ (0xD8 ∷ []))

-- the same text for the terminal 129
abbrev pub to_terminal129 : List ℕ
to_terminal129 = 0x81 ∷ (middle ++ (0xD9 ∷ []))

pub record ThirtyTwoBytes : Type 0 where
  pub long : length to_terminal1 ≡ 32
  pub turned : to_terminal129 ≡ turned_over 0 (turned_over 255 to_terminal1)
  pub missed : Missed to_terminal1 to_terminal129 (255 ∷ 0 ∷ [])
  pub in_two : InBits 2 to_terminal1 to_terminal129

-- E1's body asks for the gross weight. With the five bits under the ones of 169h turned over it asks for the net weight
abbrev pub asks_gross : List ℕ
asks_gross = 0x01 ∷ 0xC3 ∷ 0xE3 ∷ []

abbrev pub asks_net : List ℕ
asks_net = 0x01 ∷ 0xC2 ∷ 0x8A ∷ []

pub record NineBits : Type 0 where
  pub missed : Missed asks_gross asks_net (8 ∷ 6 ∷ 5 ∷ 3 ∷ 0 ∷ [])
  pub inside_nine : OnlyInside 9 asks_gross asks_net

-- with three bits turned over it asks the terminal 03
abbrev pub asks_terminal3 : List ℕ
asks_terminal3 = 0x03 ∷ 0xC3 ∷ 0xE5 ∷ []

pub record ThreeBits : Type 0 where
  pub missed : Missed asks_gross asks_terminal3 (17 ∷ 2 ∷ 1 ∷ [])
  pub in_three : InBits 3 asks_gross asks_terminal3

-- nine neighbouring bits, the low bit of each byte first, can be missed too
pub record NineLowBitFirst : Type 0 where
  pub missed : Missed asks_gross (0x01 ∷ 0x43 ∷ 0x56 ∷ []) (15 ∷ 7 ∷ 5 ∷ 4 ∷ 2 ∷ 0 ∷ [])
  pub inside_nine : OnlyInsideLowFirst 9 asks_gross (0x01 ∷ 0x43 ∷ 0x56 ∷ [])

-- Counted: two bytes that differ from zeros over exactly `span` bits. The first and the last bit of the span are 1, and those between are those of a
-- number that has two bits fewer. Zeros pass, so the difference is missed where these bytes pass
unfoldable pub spanning : ℕ → ℕ → List ℕ
spanning span between = let bits = 2 ^ (span - 1) + 2 * between + 1 in bits / 256 ∷ bits % 256 ∷ []

-- how many are missed, of so many numbers between
unfoldable pub missed_of : ℕ → ℕ → ℕ
missed_of span zero = 0
missed_of span (suc between) = cond (eqb (received (spanning span between)) 0) 1 0 + missed_of span between

-- at the end of two bytes: none of those that span eight bits, 1 in 128 of those that span nine, 1 in 256 of those that span ten, eleven and twelve
pub record CountsShown : Type 0 where
  pub lowest : spanning 9 0 ≡ 0x01 ∷ 0x01 ∷ []
  pub highest : spanning 9 127 ≡ 0x01 ∷ 0xFF ∷ []
  pub eight : missed_of 8 64 ≡ 0
  pub nine : missed_of 9 128 ≡ 1
  pub ten : missed_of 10 256 ≡ 1
  pub eleven : missed_of 11 512 ≡ 2
  pub twelve : missed_of 12 1024 ≡ 4

-- a body whose check is wrong is no example of what is missed
pub record NotMissed : Type 0 where
  pub second_fails : Missed asks_gross (turned_over 0 asks_gross) (0 ∷ []) → ⊥
  pub first_fails : Missed (turned_over 0 asks_gross) asks_gross (0 ∷ []) → ⊥

-- the laws at their edges: the first and the last bit of 31 bytes, all of eight neighbours across two bytes, eight as a cable carries them, the first
-- bit of a body, its first eight, and the filling with which these pass
pub record AtTheEdges : Type 0 where
  pub thirty_one : (body : List ℕ) → T (are_bytes body) → length body ≡ 31 → NotBoth body (turned_over 0 (turned_over (bits_of body - 1) body))
  pub eight : NotBoth zeros eight_across
  pub eight_low_first : NotBoth zeros (0x80 ∷ 0x40 ∷ [])
  pub first_bit : BitTurned 23 asks_gross
  pub first_eight : OneFilling 16 (0x01 ∷ 0xC3 ∷ 0xE2 ∷ [])
  pub its_filling : Filling 16 (0x01 ∷ 0xC3 ∷ 0xE2 ∷ []) (0xD9 ∷ 0xC3 ∷ 0xE2 ∷ [])
