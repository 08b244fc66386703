-- 02, request 8: two bodies "differ only inside eight neighbouring bits", or "differ in one or two bits". So the bits of a body have places. They are
-- counted across its bytes, from the body's last bit as 0, as request 9 counts them: the last byte has the places 0 (its low bit) to 7 (its top bit),
-- the byte ahead of it 8 to 15. The highest place is the first bit, the top bit of the first byte; 01: "bytes enter top bit first".
use Rattle.std.specs.Prelude.{ℕ, zero, suc, ◌+◌, ◌-◌, ◌*◌, ◌/◌, ◌%◌, ◌^◌, ◌≤◌, Bool, true, cond, ◌&&◌, List, [], ◌∷◌, reverse, map, length, get_or, set, T, ltb, leb, eqb}
use Rattle.std.specs.Int.Bits.{bit_xor}

-- how many bits a body has
abbrev pub bits_of : List ℕ → ℕ
bits_of body = 8 * length body

-- the byte that a place stands in, place / 8 bytes ahead of the last one; ahead of the first byte there is none, which is as good as 00
unfoldable pub byte_around : ℕ → List ℕ → ℕ
byte_around place body = get_or (reverse body) (place / 8) 0

-- the bit at a place
unfoldable pub bit_at : ℕ → List ℕ → ℕ
bit_at place body = byte_around place body / 2 ^ (place % 8) % 2

-- a body with the bit at one place turned over; where it has no such place it stays as it is
unfoldable pub turned_over : ℕ → List ℕ → List ℕ
turned_over place body = reverse (set (reverse body) (place / 8) (bit_xor (byte_around place body) (2 ^ (place % 8))))

-- the places below a number at which two bodies have different bits, the highest first
unfoldable pub differing_below : ℕ → List ℕ → List ℕ → List ℕ
differing_below zero first second = []
differing_below (suc place) first second =
    cond (eqb (bit_at place first) (bit_at place second)) (differing_below place first second)
    (place ∷ differing_below place first second)

-- all places at which two equally long bodies have different bits
abbrev pub differing : List ℕ → List ℕ → List ℕ
differing first second = differing_below (bits_of first) first second

-- each of some places is one of `many` neighbours, of which `from` is the lowest
unfoldable pub among : ℕ → ℕ → List ℕ → Bool
among from many [] = true
among from many (place ∷ places) = leb from place && (ltb place (from + many) && among from many places)

-- "differ only inside .. neighbouring bits": there are `many` neighbouring places. Outside them nothing differs.
pub record OnlyInside (many : ℕ) (first second : List ℕ) : Type 0 where
  pub from : ℕ
  pub inside : T (among from many (differing first second))

-- "differ in one or two bits": at least one place differs, and at most `most` places do
pub record InBits (most : ℕ) (first second : List ℕ) : Type 0 where
  pub one : 1 ≤ length (differing first second)
  pub no_more : length (differing first second) ≤ most

-- ---- the other order inside a byte

-- A serial cable carries the low bit of a byte first. So on the cable the bits of each byte stand the other way round: its low bit is its first. This
-- is the place of a bit if the bits of a body are counted so, again from the last one as 0.
unfoldable pub low_bit_first : ℕ → ℕ
low_bit_first place = place / 8 * 8 + (7 - place % 8)

-- the same words for that order
pub record OnlyInsideLowFirst (many : ℕ) (first second : List ℕ) : Type 0 where
  pub from : ℕ
  pub inside : T (among from many (map low_bit_first (differing first second)))
