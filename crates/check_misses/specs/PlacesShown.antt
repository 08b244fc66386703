-- The words for places of bits, on small bodies, computed: what each takes and what it leaves.
use Rattle.std.specs.Prelude.{ℕ, ◌≡◌, List, [], ◌∷◌, map}
use Rattle.check_misses.specs.Places.{bit_at, turned_over, differing, OnlyInside, InBits, low_bit_first, OnlyInsideLowFirst}
use Rattle.check_misses.specs.Powers.{power}

-- the four ends of two bytes, and a place that they do not have
pub record BitsShown : Type 0 where
  pub last : bit_at 0 (0x82 ∷ 0x81 ∷ []) ≡ 1
  pub top_of_last : bit_at 7 (0x82 ∷ 0x81 ∷ []) ≡ 1
  pub low_of_first : bit_at 8 (0x82 ∷ 0x81 ∷ []) ≡ 0
  pub first : bit_at 15 (0x82 ∷ 0x81 ∷ []) ≡ 1
  pub none_ahead : bit_at 16 (0x82 ∷ 0x81 ∷ []) ≡ 0

-- two bytes of which only the first bit of all and the last are 1
abbrev pub ends : List ℕ
ends = 0x80 ∷ 0x01 ∷ []

-- a place of the last byte, one of the byte ahead of it, one that the body does not have; twice is as it was
pub record TurnsShown : Type 0 where
  pub last_byte : turned_over 1 ends ≡ 0x80 ∷ 0x03 ∷ []
  pub byte_ahead : turned_over 8 ends ≡ 0x81 ∷ 0x01 ∷ []
  pub no_place : turned_over 16 ends ≡ ends
  pub back : turned_over 15 (turned_over 15 ends) ≡ ends

abbrev pub zeros : List ℕ
zeros = 0x00 ∷ 0x00 ∷ []

-- eight neighbours across two bytes
abbrev pub eight_across : List ℕ
eight_across = 0x0F ∷ 0xF0 ∷ []

-- the first and the last of nine neighbours
abbrev pub nine_across : List ℕ
nine_across = 0x10 ∷ 0x10 ∷ []

-- every place that differs, across the bytes, and no other
pub record DifferingShown : Type 0 where
  pub nowhere : differing ends ends ≡ []
  pub both_ends : differing zeros ends ≡ 15 ∷ 0 ∷ []
  pub eight : differing zeros eight_across ≡ 11 ∷ 10 ∷ 9 ∷ 8 ∷ 7 ∷ 6 ∷ 5 ∷ 4 ∷ []
  pub nine : differing nine_across zeros ≡ 12 ∷ 4 ∷ []

pub record NeighboursShown : Type 0 where
  pub takes : OnlyInside 8 zeros eight_across
  pub leaves : OnlyInside 8 zeros nine_across → ⊥
  pub nine_takes : OnlyInside 9 zeros nine_across
  pub seven_leaves : OnlyInside 7 zeros eight_across → ⊥

pub record InBitsShown : Type 0 where
  pub takes_one : InBits 1 zeros (0x00 ∷ 0x40 ∷ [])
  pub takes_two : InBits 2 zeros ends
  pub leaves_none : InBits 2 ends ends → ⊥
  pub leaves_three : InBits 2 zeros (0x80 ∷ 0x03 ∷ []) → ⊥

-- with the low bit of each byte first: the top bit of a byte and the low bit of the next one are neighbours. Of 80 40 the two lie eight places from each
-- other, both counted, and of 80 80 nine
pub record LowBitFirstShown : Type 0 where
  pub of_last : map low_bit_first (7 ∷ 0 ∷ []) ≡ 0 ∷ 7 ∷ []
  pub of_first : map low_bit_first (15 ∷ 8 ∷ []) ≡ 8 ∷ 15 ∷ []
  pub neighbours : OnlyInsideLowFirst 2 zeros ends
  pub takes : OnlyInsideLowFirst 8 zeros (0x80 ∷ 0x40 ∷ [])
  pub leaves : OnlyInsideLowFirst 8 zeros (0x80 ∷ 0x80 ∷ []) → ⊥

-- 1; doubled seven times; the eighth falls out and folds in 69h; the last of 255, and the first again
pub record PowersShown : Type 0 where
  pub first : power 0 ≡ 0x01
  pub seventh : power 7 ≡ 0x80
  pub eighth : power 8 ≡ 0x69
  pub last : power 254 ≡ 0xB4
  pub again : power 255 ≡ power 0
