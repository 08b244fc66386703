-- Shown: what a wide number stands for, and that bits come to stand behind it by entering the register that it stands for.
-- Why: the register's laws, for numbers of 64 bits.
use Prim.Native.Nat.{ℕ, ◌+◌, ◌*◌, ◌/◌, ◌%◌, ◌^◌, ◌<◌}
use mathlib.Core.Path.{◌≡◌, ◌∙◌, refl, sym, ap}
use native.Mathlib.Omega.{arith}
use lib.Dec.{lit≤}
use lib.Pow.{split}
use Rattle.register.proofs.Laws as register
use Rattle.register.proofs.Wide as wide
use Rattle.check_byte.specs.Register.{shift_in, feed_bits, feed_byte}
use Rattle.check_byte.proofs.Laws.{shifts}

-- bits enter in two parts: those from the place `last` up, and then the low ones
pub in_parts : (last first register number : ℕ) → feed_bits (last + first) register number ≡ feed_bits last (feed_bits first register (number / 2 ^ last)) number
unfolding feed_bits
in_parts = register.in_parts shift_in

-- the register that a wide number stands for
abbrev pub stands_for : ℕ → ℕ
stands_for number = feed_bits 64 0 number

pub narrow : (count more : ℕ) → count + more ≡ 64 → (number : ℕ) → number < 2 ^ count → feed_bits count 0 number ≡ stands_for number
unfolding feed_bits
narrow = wide.narrow shifts 64

-- bits come to stand behind a number by entering the register
pub behind : (count rest : ℕ) → count + rest ≡ 64 → (number entering : ℕ) → number < 2 ^ rest → entering < 2 ^ count
    → stands_for (number * 2 ^ count + entering) ≡ feed_bits count (stands_for number) entering
unfolding feed_bits
behind = wide.behind shifts 64

-- a byte comes to stand behind a number by entering the register
pub byte_behind : (number byte : ℕ) → number < 2 ^ 56 → byte < 256 → stands_for (number * 256 + byte) ≡ feed_byte (stands_for number) byte
unfolding feed_byte
byte_behind = behind 8 56 refl

-- a number that fits the register stands for itself
pub itself : (number : ℕ) → number < 256 → stands_for number ≡ number
unfolding feed_bits
itself = wide.itself shifts 64 (lit≤ tt)

-- a number of 16 bits stands for what its low byte makes of its high byte
pub two_bytes : (number : ℕ) → number < 2 ^ 16 → feed_byte (number / 256) (number % 256) ≡ stands_for number
two_bytes number h =
    let top : number / 256 < 256 = omega arith in
    ap (λ (n : ℕ). feed_byte n (number % 256)) (sym (itself (number / 256) top))
    ∙ sym (byte_behind (number / 256) (number % 256) (omega arith) (omega arith))
    ∙ ap stands_for (split number 8)
