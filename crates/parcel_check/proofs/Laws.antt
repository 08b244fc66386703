-- Shown: the laws of the parcel check: the register stays below 2^16, feeding is linear, and what a wide number stands for.
-- Why: the register's laws, for sixteen bits and 1021h, and for numbers of 64 bits.
use Prim.Native.Nat.{ℕ, ◌+◌, ◌*◌, ◌^◌, ◌<◌}
use mathlib.Core.Path.{◌≡◌, refl}
use mathlib.Core.List.{List, [], ◌∷◌}
use lib.Bits.{bit_xor}
use lib.Dec.{lit<, lit≤}
use Rattle.register.specs.Register.{all_in}
use Rattle.register.proofs.Laws as register
use Rattle.register.proofs.Slices.{Behind}
use Rattle.register.proofs.Wide as wide
use Rattle.parcel_check.specs.Check.{shift_word, enter_bits, enter_byte, parcel_check}

-- a register of sixteen bits into which 1021h is folded
pub shifts : register.Shifts 15 0x1021 shift_word
unfolding shift_word
shifts = record { is = λ register entering. refl; small = lit< tt }

pub bits_below : (count register number : ℕ) → register < 2 ^ 16 → enter_bits count register number < 2 ^ 16
unfolding enter_bits
bits_below = register.bits_below shifts

pub byte_below : (register byte : ℕ) → register < 2 ^ 16 → enter_byte register byte < 2 ^ 16
unfolding enter_byte
byte_below = bits_below 8

all_below : (register : ℕ) (body : List ℕ) → register < 2 ^ 16 → all_in enter_byte register body < 2 ^ 16
all_below register [] h = h
all_below register (byte ∷ body) h = all_below (enter_byte register byte) body (byte_below register byte h)

pub check_below : (body : List ℕ) → parcel_check body < 2 ^ 16
unfolding parcel_check
check_below body = all_below 0 body (lit< tt)

pub bits_linear : (count r s x y : ℕ) → r < 2 ^ 16 → s < 2 ^ 16 → enter_bits count (bit_xor r s) (bit_xor x y) ≡ bit_xor (enter_bits count r x) (enter_bits count s y)
unfolding enter_bits
bits_linear = register.bits_linear shifts

-- what enters a register comes beside what zeros would make of it
pub beside : (count register number : ℕ) → register < 2 ^ 16 → enter_bits count register number ≡ bit_xor (enter_bits count register 0) (enter_bits count 0 number)
unfolding enter_bits
beside = register.beside shifts

-- the register that a wide number stands for
abbrev pub stands_for : ℕ → ℕ
stands_for number = enter_bits 64 0 number

-- bits come to stand behind a number by entering the register
pub behind : (count rest : ℕ) → count + rest ≡ 64 → (number entering : ℕ) → number < 2 ^ rest → entering < 2 ^ count
    → stands_for (number * 2 ^ count + entering) ≡ enter_bits count (stands_for number) entering
unfolding enter_bits
behind = wide.behind shifts 64

pub byte_behind : Behind enter_byte stands_for
unfolding enter_byte
byte_behind = behind 8 56 refl

-- a number that fits the register stands for itself
pub itself : (number : ℕ) → number < 2 ^ 16 → stands_for number ≡ number
unfolding enter_bits
itself = wide.itself shifts 64 (lit≤ tt)
