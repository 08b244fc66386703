-- Shown: two bits of a body turned over; the first and the last of 32 bytes are missed.
-- Why: each folds in its power of x, and the 255th power is 1 again, as the first.
use Prim.Native.Nat.{ℕ, ◌-◌, ◌^◌, ◌<◌}
use mathlib.Core.Path.{◌≡◌, ◌∙◌, refl, ap, ap₂}
use mathlib.Core.List.{List, [], ◌∷◌}
use native.Mathlib.Omega.{arith}
use lib.Dec.{T, lit<}
use lib.Bits.{bit_xor}
use lib.Pow.{are_bytes}
use Rattle.register.proofs.Bits.{xor_assoc}
use Rattle.check_byte.specs.Register.{shift_in, received}
use Rattle.check_misses.specs.Places.{bits_of, turned_over, differing}
use Rattle.check_misses.specs.Powers.{power}
use Rattle.check_misses.specs.Misses.{EquallyLong, FirstAndLastMissed}
use Rattle.check_misses.proofs.Apart.{missed}
use Rattle.check_misses.proofs.Ones.{ones}
use Rattle.check_misses.proofs.MovedUp.{ones_two}
use Rattle.check_misses.proofs.Numbers.{folded_back, number_of, between, differing_ones}
use Rattle.check_misses.proofs.TurnedOver.{length_turned, check_turned, alike_turned, number_of_turned}

module _ (body : List ℕ) (all : T (are_bytes body)) (high low : ℕ) (l : low < high) (h : high < bits_of body) where
  room : low < bits_of (turned_over high body)
  room = omega (arith, l, h, length_turned high body)

  one : EquallyLong body (turned_over high body)
  one = alike_turned high body h all

  pub alike_both : EquallyLong body (turned_over low (turned_over high body))
  alike_both =
      let two = alike_turned low (turned_over high body) room one.bytes_too in
      record { bytes = all; bytes_too = two.bytes_too; long = one.long ∙ two.long }

  pub check_both : received (turned_over low (turned_over high body)) ≡ bit_xor (received body) (bit_xor (power high) (power low))
  check_both =
      check_turned low (turned_over high body) room ∙ ap (λ (n : ℕ). bit_xor n (power low)) (check_turned high body h)
      ∙ xor_assoc (received body) (power high) (power low)

  pub differ_both : differing body (turned_over low (turned_over high body)) ≡ high ∷ low ∷ []
  differ_both =
      let n = number_of body in
      let number : between body (turned_over low (turned_over high body)) ≡ bit_xor (2 ^ high) (2 ^ low) =
      ap (bit_xor n) (number_of_turned low (turned_over high body) room one.bytes_too ∙ ap (λ (k : ℕ). bit_xor k (2 ^ low)) (number_of_turned high body h all)
      ∙ xor_assoc n (2 ^ high) (2 ^ low))
      ∙ folded_back n (bit_xor (2 ^ high) (2 ^ low)) in
      differing_ones body (turned_over low (turned_over high body)) alike_both (bits_of body) ∙ ap (ones (bits_of body)) number ∙ ones_two (bits_of body) high low l h

-- the first and the last of 32 bytes
round : bit_xor (power 255) (power 0) ≡ 0
unfolding power shift_in
round = refl

pub first_and_last_missed : FirstAndLastMissed
first_and_last_missed body all long passes =
    let first : bits_of body - 1 ≡ 255 = omega (arith, long) in
    let h : 255 < bits_of body = omega (arith, long) in
    rw first (missed body (turned_over 0 (turned_over 255 body)) 255 (0 ∷ []) (alike_both body all 255 0 (lit< tt) h) (differ_both body all 255 0 (lit< tt) h) passes
    (check_both body all 255 0 (lit< tt) h ∙ ap₂ bit_xor passes round))
