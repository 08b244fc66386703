-- Shown: what stands above 32 or 16 bits of a wide number is folded in below, and the number stands for the same register.
-- Why: both ways are linear over exclusive or, and a computed test finds them equal at each single bit.
use Prim.Native.Nat.{ℕ, ◌+◌, ◌*◌, ◌/◌, ◌%◌, ◌^◌, ◌<◌}
use mathlib.Core.Path.{◌≡◌, ◌∙◌, sym, ap}
use native.Mathlib.Nat.{mod-lt}
use lib.Dec.{lit<}
use lib.Bits.{bit_xor, xor_shifted}
use lib.Pow.{split}
use Rattle.register.proofs.SingleBits.{Linear, itself_linear, down_linear, low_linear, up_linear, folded_linear, fed_linear, agree}
use Rattle.parcel_check.specs.Check.{shift_word, enter_bits}
use Rattle.parcel_check.proofs.Laws.{shifts, bits_linear, stands_for, itself}

-- what is folded in, and what of it stands above again, all at once: the numbers are those of the code
abbrev again : ℕ → ℕ → ℕ → ℕ → ℕ
again few many most above = bit_xor (bit_xor (bit_xor above (above / 2 ^ few)) (bit_xor above (above / 2 ^ few) / 2 ^ many)) (above / 2 ^ most)

-- .. folded in at three places; what would pass the width is left out
abbrev pub folded_below : ℕ → ℕ → ℕ → ℕ → ℕ → ℕ → ℕ → ℕ → ℕ
folded_below few many most low up lower upper above =
    bit_xor (bit_xor (again few many most above) (again few many most above % 2 ^ low * 2 ^ up)) (again few many most above % 2 ^ lower * 2 ^ upper)

again_linear : (few many most : ℕ) → Linear (again few many most)
again_linear few many most =
    let twice = folded_linear itself_linear (down_linear few itself_linear) in
    folded_linear (folded_linear twice (down_linear many twice)) (down_linear most itself_linear)

below_linear : (few many most low up lower upper : ℕ) → Linear (folded_below few many most low up lower upper)
below_linear few many most low up lower upper =
    let all = again_linear few many most in
    folded_linear (folded_linear all (up_linear up (low_linear low all))) (up_linear upper (low_linear lower all))

-- what a number that is moved up and one that is made of it stand for
stands_linear : {f : ℕ → ℕ} → Linear f → Linear (λ (n : ℕ). stands_for (f n))
unfolding enter_bits
stands_linear = fed_linear shifts 64

pub thirty_two : (above : ℕ) → above < 2 ^ 32 → stands_for (folded_below 8 16 22 22 10 8 24 above) ≡ stands_for (above * 2 ^ 32)
unfolding enter_bits shift_word
thirty_two = agree (stands_linear (below_linear 8 16 22 22 10 8 24)) (stands_linear (up_linear 32 itself_linear)) 32 tt

pub sixteen : (above : ℕ) → above < 2 ^ 16 → folded_below 4 8 11 11 5 4 12 above ≡ stands_for (above * 2 ^ 16)
unfolding enter_bits shift_word
sixteen = agree (below_linear 4 8 11 11 5 4 12) (stands_linear (up_linear 16 itself_linear)) 16 tt

linear : (a b : ℕ) → stands_for (bit_xor a b) ≡ bit_xor (stands_for a) (stands_for b)
linear a b = bits_linear 64 0 0 a b (lit< tt) (lit< tt)

-- so four bytes come to stand behind a number
pub four_behind : (wide four folded : ℕ) → four < 2 ^ 32 → stands_for folded ≡ stands_for (wide * 2 ^ 32)
    → stands_for (bit_xor folded four) ≡ stands_for (wide * 2 ^ 32 + four)
four_behind wide four folded h same =
    linear folded four ∙ ap (λ (n : ℕ). bit_xor n (stands_for four)) same ∙ sym (linear (wide * 2 ^ 32) four) ∙ ap stands_for (xor_shifted wide 32 four h)

-- and what stands above 16 bits comes beside what stands below
pub in_halves : (wide : ℕ) → bit_xor (stands_for (wide / 2 ^ 16 * 2 ^ 16)) (wide % 2 ^ 16) ≡ stands_for wide
in_halves wide =
    let low : wide % 2 ^ 16 < 2 ^ 16 = mod-lt wide (lit< tt) in
    ap (bit_xor (stands_for (wide / 2 ^ 16 * 2 ^ 16))) (sym (itself (wide % 2 ^ 16) low))
    ∙ sym (linear (wide / 2 ^ 16 * 2 ^ 16) (wide % 2 ^ 16))
    ∙ ap stands_for (xor_shifted (wide / 2 ^ 16) 16 (wide % 2 ^ 16) low ∙ split wide 16)
