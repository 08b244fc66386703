-- Shown: what stands above 32 or 16 bits of a wide number folds in below, and the number stands for the same register; folded twice it fits.
-- Why: feeding is linear, and sixteen zero bits make of a register what one makes of it, with the register itself folded in: a computed test.
use Prim.Native.Nat.{ℕ, ◌+◌, ◌*◌, ◌/◌, ◌%◌, ◌^◌, ◌≤◌, ◌<◌}
use mathlib.Core.Path.{◌≡◌, ◌∙◌, refl, subst, sym, ap, ap₂}
use mathlib.Core.Bool.{Bool}
use native.Mathlib.Nat.{mod-lt, add-zero, add_comm, zero-div, lt_of_lt_of_le}
use native.Mathlib.Omega.{arith}
use lib.Dec.{eqb, eqb→eq, lit<}
use lib.Bits.{bit_xor, xor_lt, xor_zero_l, xor_comm, xor_self}
use lib.Pow.{shl_lt, shr_lt, split, pow_mono, pow_pos}
use Rattle.laws.proofs.Computed.{below}
use Rattle.check_byte.specs.Register.{shift_in, feed_bits}
use Rattle.register.proofs.Bits.{xor_assoc}
use Rattle.check_byte.proofs.Laws.{bits_below, bits_linear, beside}
use Rattle.check_byte.proofs.Wide.{stands_for, in_parts, narrow, behind}

linear : (a b : ℕ) → stands_for (bit_xor a b) ≡ bit_xor (stands_for a) (stands_for b)
linear a b = bits_linear 64 0 0 a b (lit< tt) (lit< tt)

below_256 : (number : ℕ) → stands_for number < 256
below_256 number = bits_below 64 0 number (lit< tt)

-- `long` zero bits make of each register what `short` make of it, with the register itself folded in
abbrev Folds : ℕ → ℕ → Type 0
Folds long short = (register : ℕ) → register < 256 → feed_bits long register 0 ≡ bit_xor (feed_bits short register 0) register

-- what stands above `long` bits folded in below
abbrev pub folded : ℕ → ℕ → ℕ → ℕ
folded long short number = bit_xor (bit_xor (number % 2 ^ long) (number / 2 ^ long)) (number / 2 ^ long * 2 ^ short)

-- a number of twice as many bits, folded twice, fits
module _ (long short : ℕ) (enough : short + short ≤ long) where
  fits : (places number : ℕ) → long ≤ places → number / 2 ^ long < 2 ^ places → number / 2 ^ long * 2 ^ short < 2 ^ places
      → folded long short number < 2 ^ places
  fits places number l h d = xor_lt places _ _ (xor_lt places _ _ (lt_of_lt_of_le (mod-lt number (pow_pos long)) (pow_mono l)) h) d

  once_fits : (number : ℕ) → number < 2 ^ (long + long) → folded long short number < 2 ^ (short + long)
  once_fits number h =
      let above : number / 2 ^ long < 2 ^ long = shr_lt long long h in
      fits (short + long) number (omega arith) (lt_of_lt_of_le above (pow_mono (omega arith)))
      (subst (λ (n : ℕ). number / 2 ^ long * 2 ^ short < 2 ^ n) (add_comm long short) (shl_lt long short above))

  twice_fits : (number : ℕ) → number < 2 ^ (long + long) → folded long short (folded long short number) < 2 ^ long
  twice_fits number h =
      let above : folded long short number / 2 ^ long < 2 ^ short = shr_lt short long (once_fits number h) in
      fits long (folded long short number) (omega arith) (lt_of_lt_of_le above (pow_mono (omega arith)))
      (lt_of_lt_of_le (shl_lt short short above) (pow_mono enough))

-- of the 64 places of a number `long` are kept and `above` fold in below; a number of at most `room` places can be moved up by `short`
module _ (long above short room : ℕ) (whole : long + above ≡ 64) (moved : short + room ≡ 64)
    (enough : short + short ≤ long) (half : long ≤ above) (rule : Folds long short) where
  folds : (number : ℕ) → number < 2 ^ (above + long) → stands_for (folded long short number) ≡ stands_for number
  folds number h =
      let high = number / 2 ^ long in
      let low = number % 2 ^ long in
      let small : high < 2 ^ above = shr_lt above long h in
      let rest : low < 2 ^ long = mod-lt number (pow_pos long) in
      let moved_up : feed_bits short (stands_for high) 0 ≡ stands_for (high * 2 ^ short) =
      sym (behind short room moved high 0 (lt_of_lt_of_le small (pow_mono (omega arith))) (pow_pos short)) ∙ ap stands_for (add-zero (high * 2 ^ short)) in
      let fed : stands_for number ≡ bit_xor (bit_xor (stands_for (high * 2 ^ short)) (stands_for high)) (stands_for low) =
      ap stands_for (sym (split number long))
      ∙ behind long above whole high low small rest
      ∙ beside long (stands_for high) low (below_256 high)
      ∙ ap₂ bit_xor (rule (stands_for high) (below_256 high) ∙ ap (λ (n : ℕ). bit_xor n (stands_for high)) moved_up) (narrow long above whole low rest) in
      linear (bit_xor low high) (high * 2 ^ short)
      ∙ ap (λ (n : ℕ). bit_xor n (stands_for (high * 2 ^ short))) (linear low high)
      ∙ xor_comm (bit_xor (stands_for low) (stands_for high)) (stands_for (high * 2 ^ short))
      ∙ ap (λ (n : ℕ). bit_xor (stands_for (high * 2 ^ short)) n) (xor_comm (stands_for low) (stands_for high))
      ∙ sym (xor_assoc (stands_for (high * 2 ^ short)) (stands_for high) (stands_for low))
      ∙ sym fed

  twice : (number : ℕ) → number < 2 ^ (long + long) → stands_for (folded long short (folded long short number)) ≡ stands_for number
  twice number h =
      folds (folded long short number) (lt_of_lt_of_le (once_fits long short enough number h) (pow_mono (omega arith)))
      ∙ folds number (lt_of_lt_of_le h (pow_mono (omega arith)))

-- the computed test: sixteen zero bits are one and the register itself
abbrev sixteen_right : ℕ → Bool
sixteen_right register = eqb (feed_bits 16 register 0) (bit_xor (feed_bits 1 register 0) register)

sixteen : Folds 16 1
unfolding feed_bits shift_in
sixteen register h = eqb→eq _ _ (below sixteen_right 256 tt register h)

-- zero bits in two parts
zero_bits : (last first register : ℕ) → feed_bits (last + first) register 0 ≡ feed_bits last (feed_bits first register 0) 0
zero_bits last first register = in_parts last first register 0 ∙ ap (λ (n : ℕ). feed_bits last (feed_bits first register n) 0) (zero-div (2 ^ last))

-- so thirty_two zero bits are two and the register itself: the two single shifts take each other away
thirty_two : Folds 32 2
thirty_two register h =
    let once = feed_bits 1 register 0 in
    let small : once < 256 = bits_below 1 register 0 h in
    zero_bits 16 16 register
    ∙ sixteen (feed_bits 16 register 0) (bits_below 16 register 0 h)
    ∙ ap (λ (n : ℕ). bit_xor (feed_bits 1 n 0) n) (sixteen register h)
    ∙ ap (λ (n : ℕ). bit_xor n (bit_xor once register)) (bits_linear 1 once register 0 0 small h)
    ∙ xor_assoc (feed_bits 1 once 0) once (bit_xor once register)
    ∙ ap (λ (n : ℕ). bit_xor (feed_bits 1 once 0) n) (sym (xor_assoc once once register) ∙ ap (λ (n : ℕ). bit_xor n register) (xor_self once) ∙ xor_zero_l register)
    ∙ ap (λ (n : ℕ). bit_xor n register) (sym (zero_bits 1 1 register))

-- a number of 64 bits folded into 32, and one of 32 into 16
pub into_32 : (number : ℕ) → number < 2 ^ 64 → folded 32 2 (folded 32 2 number) < 2 ^ 32
into_32 = twice_fits 32 2 (omega arith)

pub same_in_32 : (number : ℕ) → number < 2 ^ 64 → stands_for (folded 32 2 (folded 32 2 number)) ≡ stands_for number
same_in_32 = twice 32 32 2 62 refl refl (omega arith) (omega arith) thirty_two

pub into_16 : (number : ℕ) → number < 2 ^ 32 → folded 16 1 (folded 16 1 number) < 2 ^ 16
into_16 = twice_fits 16 1 (omega arith)

pub same_in_16 : (number : ℕ) → number < 2 ^ 32 → stands_for (folded 16 1 (folded 16 1 number)) ≡ stands_for number
same_in_16 = twice 16 48 1 63 refl refl (omega arith) (omega arith) sixteen
