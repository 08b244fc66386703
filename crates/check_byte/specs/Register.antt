-- 01, "The frame", Check: "polynomial 169h, register starts at 0, bytes enter top bit first. The bit that falls out of the register,
-- if 1, folds in 69h. The sender feeds all bytes before the check and one zero byte; the register is the check. The receiver feeds the
-- whole body and wants 0."
use Rattle.std.specs.Prelude.{ℕ, List}
use Rattle.register.specs.Register.{shifted, bits_in, all_in}

-- one bit enters the register of eight, whose top bit counts 128; if the bit that falls out is 1, 69h is folded in
unfoldable pub shift_in : ℕ → ℕ → ℕ
shift_in register bit = shifted 128 0x69 register bit

-- the low `count` bits of a byte enter, the top one first
unfoldable pub feed_bits : ℕ → ℕ → ℕ → ℕ
feed_bits count register byte = bits_in shift_in count register byte

-- a byte enters
unfoldable pub feed_byte : ℕ → ℕ → ℕ
feed_byte register byte = feed_bits 8 register byte

-- bytes enter one after the other
unfoldable pub feed_all : ℕ → List ℕ → ℕ
feed_all register bytes = all_in feed_byte register bytes

-- what the receiver wants to be 0
unfoldable pub received : List ℕ → ℕ
received body = feed_all 0 body

-- the check of the bytes to be sent: all of them are fed, and one zero byte
unfoldable pub check_of : List ℕ → ℕ
check_of bytes = feed_byte (feed_all 0 bytes) 0
