-- A signed number of four bytes, as "int" and "int32" of document 003: two's complement. A word of 32 bits from 8000 0000h up stands for itself
-- less 2^32.
use Rattle.std.specs.Prelude.{ℕ, suc, ◌-◌, cond, ℤ, pos, negsuc, neg_ℤ, ltb}

-- the number that a word stands for
unfoldable pub signed_of : ℕ → ℤ
signed_of word = cond (ltb word 0x8000_0000) (pos word) (neg_ℤ (pos (0x1_0000_0000 - word)))

-- the word of a number; `negsuc n` is -(n + 1)
unfoldable pub word_of : ℤ → ℕ
word_of (pos n) = n
word_of (negsuc n) = 0x1_0000_0000 - suc n
