-- Shown: the count of a number's set digits is the sum over its bits, and the digits of two numbers put together are counted apart.
-- Why: both counts take the lowest digit off and go on with the half; a higher place of n is the place below of n / 2.
use Prim.Native.Nat.{ℕ, zero, suc, ◌+◌, ◌*◌, ◌/◌, ◌%◌, ◌^◌, ◌<◌}
use mathlib.Core.Path.{◌≡◌, sym, ap, ◌∙◌}
use native.Mathlib.Nat.{pow-suc, mul_comm, div-div-eq-div-mul}
use native.Mathlib.Omega.{arith}
use mathlib.Core.List.{[], ◌∷◌}
use Rattle.std.specs.Prelude.{count_ones}
use Rattle.std.specs.Int.{from_le_bytes, w32}
use lib.Arith.{lt-one}
use lib.Count.{ones, ones_step, ones_cat}
use Rattle.inputs.specs.On.{sum_of_bits, inputs_on}

-- the lowest bit apart, and the bits of the half
low_apart : (k n : ℕ) → sum_of_bits (suc k) n ≡ n % 2 + sum_of_bits k (n / 2)
unfolding sum_of_bits
low_apart zero n = omega arith
low_apart (suc k) n =
    let place : n / 2 ^ suc k ≡ n / 2 / 2 ^ k = ap (λ (m : ℕ). n / m) (pow-suc 2 k ∙ mul_comm (2 ^ k) 2) ∙ sym (div-div-eq-div-mul n 2 (2 ^ k)) in
    let rest : sum_of_bits (suc k) n ≡ n % 2 + sum_of_bits k (n / 2) = low_apart k n in
    rw place (omega arith)

pub ones_bits : (k n : ℕ) → n < 2 ^ k → ones n ≡ sum_of_bits k n
unfolding sum_of_bits ones
ones_bits zero n h = ap ones (lt-one h)
ones_bits (suc k) n h =
    let half : n / 2 < 2 ^ k = omega (arith, pow-suc 2 k) in
    ones_step n ∙ ap (λ (m : ℕ). n % 2 + m) (ones_bits k (n / 2) half) ∙ sym (low_apart k n)

-- the word that four bytes make has as many set digits as the four together
pub word_bits : (a b c d : ℕ) → a < 2 ^ 8 → b < 2 ^ 8 → c < 2 ^ 8 → d < 2 ^ 8 → count_ones (from_le_bytes w32 (a ∷ b ∷ c ∷ d ∷ [])) ≡ inputs_on a b c d
unfolding inputs_on
word_bits a b c d ha hb hc hd =
    let same : from_le_bytes w32 (a ∷ b ∷ c ∷ d ∷ []) ≡ (d * 256 + c) * 65536 + (b * 256 + a) = omega arith in
    let low : b * 256 + a < 2 ^ 16 = omega arith in
    let halves = ones_cat 16 (d * 256 + c) (b * 256 + a) low in
    let upper = ones_cat 8 d c hc in
    let lower = ones_cat 8 b a ha in
    rw same (omega (arith, halves, upper, lower, ones_bits 8 a ha, ones_bits 8 b hb, ones_bits 8 c hc, ones_bits 8 d hd))
