-- Shown: a number whose ones all lie from a place on, fed to an empty register: it gives 0 only where its part from that place on does.
-- Why: bits enter in two parts, the low ones are zeros, and zeros make 0 of 0 alone.
use Prim.Native.Nat.{ℕ, ◌+◌, ◌*◌, ◌%◌, ◌^◌, ◌≤◌, ◌<◌}
use mathlib.Core.Path.{◌≡◌, ◌∙◌, sym, ap, subst}
use native.Mathlib.Decide.{dec_le}
use native.Mathlib.Nat.{mul-mod_left, add_comm, lt_of_not-le, add-sub_of_le}
use native.Mathlib.Omega.{arith}
use lib.Dec.{lit<}
use lib.Pow.{shl-shr, shl_lt}
use Rattle.register.proofs.Wide as wide
use Rattle.check_byte.specs.Register.{shift_in, feed_bits}
use Rattle.check_byte.proofs.Laws.{shifts, bits_below}
use Rattle.check_byte.proofs.Wide.{in_parts}
use Rattle.check_misses.proofs.Zeros.{zeros_keep}

-- of a number no more is looked at than enters
pub low_alone : (count register number : ℕ) → feed_bits count register (number % 2 ^ count) ≡ feed_bits count register number
unfolding feed_bits
low_alone = wide.entering_alone shift_in

-- zeros ahead of a number change nothing
ahead : (count more number : ℕ) → number < 2 ^ count → feed_bits (count + more) 0 number ≡ feed_bits count 0 number
unfolding feed_bits
ahead = wide.ahead shifts 0

pub any_room : (a b number : ℕ) → number < 2 ^ a → number < 2 ^ b → feed_bits a 0 number ≡ feed_bits b 0 number
any_room a b number ha hb = elim (dec_le a b) [
  | yes l ↦ sym (ap (λ (n : ℕ). feed_bits n 0 number) (sym (add-sub_of_le l)) ∙ ahead a _ number ha)
  | no g ↦
      let l : b ≤ a = omega (arith, lt_of_not-le g) in
      ap (λ (n : ℕ). feed_bits n 0 number) (sym (add-sub_of_le l)) ∙ ahead b _ number hb
]

-- a number with zeros behind it
pub zeros_behind : (from count part : ℕ) → feed_bits (from + count) 0 (part * 2 ^ from) ≡ feed_bits from (feed_bits count 0 part) 0
zeros_behind from count part =
    in_parts from count 0 (part * 2 ^ from)
    ∙ ap (λ (n : ℕ). feed_bits from (feed_bits count 0 n) (part * 2 ^ from)) (shl-shr part from)
    ∙ sym (low_alone from (feed_bits count 0 part) (part * 2 ^ from))
    ∙ ap (feed_bits from (feed_bits count 0 part)) (mul-mod_left part (2 ^ from))

pub in_room : (bits from count part : ℕ) → part * 2 ^ from < 2 ^ bits → part < 2 ^ count
    → feed_bits bits 0 (part * 2 ^ from) ≡ feed_bits from (feed_bits count 0 part) 0
in_room bits from count part fits small =
    let wide : part * 2 ^ from < 2 ^ (from + count) = subst (λ (n : ℕ). part * 2 ^ from < 2 ^ n) (add_comm count from) (shl_lt count from small) in
    any_room bits (from + count) (part * 2 ^ from) fits wide ∙ zeros_behind from count part

pub part_passes : (bits from count part : ℕ) → part * 2 ^ from < 2 ^ bits → part < 2 ^ count
    → feed_bits bits 0 (part * 2 ^ from) ≡ 0 → feed_bits count 0 part ≡ 0
part_passes bits from count part fits small none =
    zeros_keep from (feed_bits count 0 part) (bits_below count 0 part (lit< tt)) (sym (in_room bits from count part fits small) ∙ none)
