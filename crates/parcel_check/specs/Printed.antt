-- 003, section 4.1, "Алгоритм расчета CRC": the printed code, statement by statement, on words of 16 bits. What passes 16 bits of a word is lost.
-- That it is 02's wording (`Check.parcel_check`) is a statement of `demands`.
use Rattle.std.specs.Prelude.{ℕ, zero, suc, ◌*◌, ◌/◌, ◌%◌, ◌^◌, cond, List, [], ◌∷◌, eqb}
use Rattle.std.specs.Int.Bits.{bit_and, bit_xor}

-- `word << places`
abbrev pub up : ℕ → ℕ → ℕ
up word places = word * 2 ^ places % 0x1_0000

-- `word >> places`
abbrev pub down : ℕ → ℕ → ℕ
down word places = word / 2 ^ places

-- the two words that the inner loop works on
pub record Words : Type 0 where
  pub accumulator : ℕ
  pub temp : ℕ

-- if( (temp ^ accumulator) & 0x8000 )
--  accumulator = (accumulator << 1) ^ 0x1021;
-- else
--  accumulator <<= 1;
-- temp <<= 1;
unfoldable pub turn : Words → Words
turn words = record {
  accumulator =
      cond (eqb (bit_and (bit_xor words.temp words.accumulator) 0x8000) 0)
      (up words.accumulator 1)
      (bit_xor (up words.accumulator 1) 0x1021);
  temp = up words.temp 1;
}

-- for( bits = 0; bits < 8; bits++ )
unfoldable pub turns : ℕ → Words → Words
turns zero words = words
turns (suc count) words = turns count (turn words)

-- accumulator = 0;
-- temp = (crc>>8)<<8;
abbrev pub at_first : ℕ → Words
at_first crc = record { accumulator = 0; temp = up (down crc 8) 8 }

-- and behind the inner loop: crc = accumulator^(crc<<8)^(buf[k]&0xff);
unfoldable pub printed_byte : ℕ → ℕ → ℕ
printed_byte crc byte = bit_xor (bit_xor (turns 8 (at_first crc)).accumulator (up crc 8)) (bit_and byte 0xFF)

-- for( k = 0; k<len; k++ )
unfoldable pub printed : ℕ → List ℕ → ℕ
printed crc [] = crc
printed crc (byte ∷ rest) = printed (printed_byte crc byte) rest
