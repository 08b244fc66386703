-- Shown: the laws of the check that the layers above go by: feeding in two parts, the register below 256, linearity over exclusive or,
-- a body with its check feeds to 0, and no other last byte does. Why: the register's laws, for eight bits and 69h.
use Prim.Native.Nat.{ℕ, ◌/◌, ◌^◌, ◌<◌}
use mathlib.Core.Path.{◌≡◌, ◌∙◌, refl, sym, ap}
use mathlib.Core.List.{List, [], ◌∷◌, ◌++◌}
use native.Mathlib.Omega.{arith}
use lib.Dec.{lit<}
use lib.Bits.{bit_xor, xor_self}
use Rattle.register.proofs.Bits.{xor_zero_eq}
use Rattle.register.proofs.Laws as register
use Rattle.check_byte.specs.Register.{shift_in, feed_bits, feed_byte, feed_all, received, check_of}

-- a register of eight bits into which 69h is folded
pub shifts : register.Shifts 7 0x69 shift_in
unfolding shift_in
shifts = record { is = λ register entering. refl; small = lit< tt }

-- feeding a list in two parts
pub feed_append : (register : ℕ) (first second : List ℕ) → feed_all register (first ++ second) ≡ feed_all (feed_all register first) second
unfolding feed_all
feed_append = register.all_append feed_byte

-- the register is below 256
pub bits_below : (count register byte : ℕ) → register < 256 → feed_bits count register byte < 256
unfolding feed_bits
bits_below = register.bits_below shifts

pub byte_below : (register byte : ℕ) → register < 256 → feed_byte register byte < 256
unfolding feed_byte
byte_below = bits_below 8

pub all_below : (register : ℕ) (bytes : List ℕ) → register < 256 → feed_all register bytes < 256
unfolding feed_all
all_below register [] h = h
all_below register (byte ∷ bytes) h = all_below (feed_byte register byte) bytes (byte_below register byte h)

-- feeding is linear over exclusive or
pub bits_linear : (count r s x y : ℕ) → r < 256 → s < 256 → feed_bits count (bit_xor r s) (bit_xor x y) ≡ bit_xor (feed_bits count r x) (feed_bits count s y)
unfolding feed_bits
bits_linear = register.bits_linear shifts

-- into an empty register a byte enters as it is
pub byte_enters : (byte : ℕ) → byte < 256 → feed_byte 0 byte ≡ byte
unfolding feed_byte feed_bits
byte_enters byte h =
    let none : byte / 2 ^ 8 ≡ 0 = omega arith in
    rw none at (register.enters shifts 8 byte h)

-- what enters a register comes beside what zeros would make of it
pub beside : (count register number : ℕ) → register < 256 → feed_bits count register number ≡ bit_xor (feed_bits count register 0) (feed_bits count 0 number)
unfolding feed_bits
beside = register.beside shifts

-- so a byte enters any register beside what a zero byte would make of it
pub byte_beside : (register byte : ℕ) → register < 256 → byte < 256 → feed_byte register byte ≡ bit_xor (feed_byte register 0) byte
unfolding feed_byte
byte_beside register byte r b = beside 8 register byte r ∙ ap (λ (n : ℕ). bit_xor (feed_byte register 0) n) (byte_enters byte b)

-- what the receiver finds behind some bytes and a last one
received_last : (bytes : List ℕ) (last : ℕ) → last < 256 → received (bytes ++ (last ∷ [])) ≡ bit_xor (check_of bytes) last
unfolding received feed_all check_of
received_last bytes last h = feed_append 0 bytes (last ∷ []) ∙ byte_beside (feed_all 0 bytes) last (all_below 0 bytes (lit< tt)) h

pub check_below : (bytes : List ℕ) → check_of bytes < 256
unfolding check_of
check_below bytes = byte_below (feed_all 0 bytes) 0 (all_below 0 bytes (lit< tt))

-- a body with its check feeds to 0
pub checked : (bytes : List ℕ) → received (bytes ++ (check_of bytes ∷ [])) ≡ 0
checked bytes = received_last bytes (check_of bytes) (check_below bytes) ∙ xor_self (check_of bytes)

-- the check is the only last byte that does
pub only_check : (bytes : List ℕ) (last : ℕ) → last < 256 → received (bytes ++ (last ∷ [])) ≡ 0 → last ≡ check_of bytes
only_check bytes last h none = sym (xor_zero_eq (check_of bytes) last (sym (received_last bytes last h) ∙ none))
