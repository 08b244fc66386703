-- Shown: what zeros make of a register. They never make 0 of another one or the same of two; the powers of x below 255 are not 1, the 255th is.
-- Why: one shift is computed at each of the 256 registers, and the powers one after the other.
use Prim.Native.Nat.{ℕ, zero, suc, ◌+◌, ◌*◌, ◌/◌, ◌%◌, ◌^◌, ◌<◌}
use mathlib.Core.Path.{◌≡◌, ◌∙◌, refl, sym, ap}
use mathlib.Core.Bool.{Bool, not, ◌||◌}
use native.Mathlib.Nat.{zero-div, add-suc, add-zero, add_comm, zero-add, suc-add, mod-lt, eq-zero-or-pos}
use mathlib.Core.Logic.{⊎_elim}
use native.Mathlib.Omega.{arith}
use lib.Dec.{eqb, eqb→eq, lit<}
use lib.Bits.{bit_xor, xor_self, xor_lt}
use Rattle.laws.proofs.Computed.{below}
use Rattle.register.proofs.Bits.{xor_zero_eq}
use Rattle.check_byte.specs.Register.{shift_in, feed_bits}
use Rattle.check_byte.proofs.Laws.{bits_below, bits_linear}
use Rattle.check_misses.specs.Powers.{power}

-- one zero enters
pub one_zero : (count register : ℕ) → feed_bits (suc count) register 0 ≡ feed_bits count (shift_in register 0) 0
unfolding feed_bits
one_zero count register = rw (zero-div (2 ^ count))

shift_below : (register : ℕ) → register < 256 → shift_in register 0 < 256
unfolding feed_bits
shift_below register h = bits_below 1 register 0 h

-- no other register is shifted to 0
abbrev only_zero : ℕ → Bool
only_zero register = not (eqb (shift_in register 0) 0) || eqb register 0

shifts_to_zero : (register : ℕ) → register < 256 → shift_in register 0 ≡ 0 → register ≡ 0
unfolding shift_in
shifts_to_zero register h none =
    let passed = below only_zero 256 tt register h in
    eqb→eq register 0 (rw none at passed)

pub zeros_keep : (count register : ℕ) → register < 256 → feed_bits count register 0 ≡ 0 → register ≡ 0
unfolding feed_bits
zeros_keep zero register h none = none
zeros_keep (suc count) register h none =
    shifts_to_zero register h (zeros_keep count (shift_in register 0) (shift_below register h) (sym (one_zero count register) ∙ none))

-- nor two registers to the same
pub zeros_part : (count r s : ℕ) → r < 256 → s < 256 → feed_bits count r 0 ≡ feed_bits count s 0 → r ≡ s
zeros_part count r s hr hs same =
    xor_zero_eq r s (zeros_keep count (bit_xor r s) (xor_lt 8 r s hr hs)
    (bits_linear count r s 0 0 hr hs ∙ ap (λ (n : ℕ). bit_xor n (feed_bits count s 0)) same ∙ xor_self (feed_bits count s 0)))

-- and 0 stays 0
pub zeros_of_zero : (count : ℕ) → feed_bits count 0 0 ≡ 0
unfolding feed_bits shift_in
zeros_of_zero zero = refl
zeros_of_zero (suc count) = one_zero count 0 ∙ zeros_of_zero count

-- ---- powers of x

pub power_below : (place : ℕ) → power place < 256
unfolding power
power_below zero = lit< tt
power_below (suc place) = shift_below (power place) (power_below place)

-- zeros behind a power
pub zeros_power : (count place : ℕ) → feed_bits count (power place) 0 ≡ power (place + count)
unfolding power feed_bits
zeros_power zero place = ap power (sym (add-zero place))
zeros_power (suc count) place = one_zero count (power place) ∙ zeros_power count (suc place) ∙ ap power (suc-add place count ∙ sym (add-suc place count))

pub power_of_one : (place : ℕ) → feed_bits place 1 0 ≡ power place
unfolding power
power_of_one place = ap (λ (n : ℕ). feed_bits place n 0) first ∙ zeros_power place 0 ∙ ap power (zero-add place)
  where
    first : 1 ≡ power 0
    first = refl

-- no power is 0
pub power_some : (place : ℕ) → power place ≡ 0 → ⊥
power_some place none = absurd (omega (arith, zeros_keep place 1 (lit< tt) (power_of_one place ∙ none)))

-- none below the 255th is 1
abbrev not_one : ℕ → Bool
not_one place = not (eqb (power (suc place)) 1)

not_one_lem : (place : ℕ) → 0 < place → place < 255 → power place ≡ 1 → ⊥
unfolding power shift_in
not_one_lem zero some h one = absurd (omega (arith, some))
not_one_lem (suc place) some h one = absurd (rw one at (below not_one 254 tt place (omega (arith, h))))

-- the 255th is: they come round
first_again : power 255 ≡ 1
unfolding power shift_in
first_again = refl

once_round : (place : ℕ) → power (place + 255) ≡ power place
once_round place =
    ap power (add_comm place 255) ∙ sym (zeros_power place 255) ∙ ap (λ (n : ℕ). feed_bits place n 0) first_again ∙ power_of_one place

pub come_round : (turns place : ℕ) → power (place + 255 * turns) ≡ power place
come_round zero place = ap power (add-zero place)
come_round (suc turns) place =
    let more : place + 255 * suc turns ≡ place + 255 * turns + 255 = omega arith in
    ap power more ∙ once_round (place + 255 * turns) ∙ come_round turns place

-- and no power between is 1
pub one_again : (place : ℕ) → power place ≡ 1 → place % 255 ≡ 0
one_again place one = ⊎_elim (λ (e : place % 255 ≡ 0). e) (λ (some : 0 < place % 255). absurd (not_one_lem (place % 255) some (mod-lt place (lit< tt)) rest)) (eq-zero-or-pos (place % 255))
  where
    parts : place % 255 + 255 * (place / 255) ≡ place
    parts = omega arith

    rest : power (place % 255) ≡ 1
    rest = sym (come_round (place / 255) (place % 255)) ∙ ap power parts ∙ one
