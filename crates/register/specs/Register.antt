-- A register that bits enter at its low end. 01 has one of eight bits ("The frame", Check: "polynomial 169h"), 02, request 5, one of sixteen
-- ("polynomial 11021h"). Both go by one rule: "bytes enter top bit first. The bit that falls out of the register, if 1, folds in" the
-- polynomial without its own top bit. Each says its numbers: what the register's top bit counts, and what is folded in.
use Rattle.std.specs.Prelude.{ℕ, zero, suc, ◌+◌, ◌-◌, ◌*◌, ◌/◌, ◌%◌, ◌^◌, cond, List, [], ◌∷◌, ltb}
use Rattle.std.specs.Int.Bits.{bit_xor}

-- one bit enters a register whose top bit counts `top`; if the bit that falls out is 1, `fold` is folded in
abbrev pub shifted : ℕ → ℕ → ℕ → ℕ → ℕ
shifted top fold register bit = cond (ltb register top) (register * 2 + bit) (bit_xor ((register - top) * 2 + bit) fold)

-- the low `count` bits of a number enter by a shift, the top one first
abbrev pub bits_in : (ℕ → ℕ → ℕ) → ℕ → ℕ → ℕ → ℕ
bits_in shift zero register number = register
bits_in shift (suc count) register number = bits_in shift count (shift register (number / 2 ^ count % 2)) number

-- bytes enter one after the other, each by a feed
abbrev pub all_in : (ℕ → ℕ → ℕ) → ℕ → List ℕ → ℕ
all_in feed register [] = register
all_in feed register (byte ∷ rest) = all_in feed (feed register byte) rest
