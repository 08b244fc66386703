-- Shown: one bit is never missed, and two are missed exactly where they stand 255 places apart, or a multiple of 255.
-- Why: each bit feeds to the power of x of its place, and the powers come round every 255 places and no sooner.
use Prim.Native.Nat.{ℕ, ◌+◌, ◌-◌, ◌*◌, ◌/◌, ◌%◌, ◌^◌, ◌≤◌, ◌<◌}
use mathlib.Core.Path.{◌≡◌, ◌∙◌, refl, subst, sym, ap, ap₂}
use mathlib.Core.List.{List, [], ◌∷◌}
use mathlib.Core.Logic.{◌⊎◌, ⊎_elim, inl, inr}
use native.Mathlib.Nat.{one-mul, add-zero, mod-eq_of_lt}
use native.Mathlib.Omega.{arith}
use lib.Dec.{lit<, lit≤}
use lib.ListN.{length}
use lib.Bits.{bit_xor, xor_shifted, xor_self}
use lib.Pow.{pow-lt}
use Rattle.register.proofs.Bits.{xor_zero_eq}
use Rattle.check_byte.specs.Register.{feed_bits, received}
use Rattle.check_byte.proofs.Laws.{bits_linear}
use Rattle.check_misses.specs.Places.{bits_of, differing}
use Rattle.check_misses.specs.Powers.{power}
use Rattle.check_misses.specs.Misses.{EquallyLong, Passes, NotBoth, OneOrTwoBits, OneBit, TwoBits}
use Rattle.check_misses.proofs.Ones.{ones, sum_of, sum_ones, Falling, ones_fall}
use Rattle.check_misses.proofs.Zeros.{zeros_part, power_below, zeros_power, power_of_one, power_some, come_round, one_again}
use Rattle.check_misses.proofs.Bursts.{in_room}
use Rattle.check_misses.proofs.Numbers.{between, between_below, differing_ones, findings}
use Rattle.check_misses.proofs.Neighbours.{eight_enter}

-- ---- what bits feed to

-- a single bit
pub single : (bits place : ℕ) → place < bits → feed_bits bits 0 (2 ^ place) ≡ power place
single bits place h =
    let one : 1 * 2 ^ place ≡ 2 ^ place = one-mul (2 ^ place) in
    ap (feed_bits bits 0) (sym one)
    ∙ in_room bits place 8 1 (rw one (pow-lt h)) (lit< tt)
    ∙ ap (λ (n : ℕ). feed_bits place n 0) (eight_enter 1 (lit< tt))
    ∙ power_of_one place

-- two bits
pair : (bits high low : ℕ) → low < high → high < bits → feed_bits bits 0 (2 ^ high + 2 ^ low) ≡ bit_xor (power high) (power low)
pair bits high low l h =
    let sum : bit_xor (2 ^ high) (2 ^ low) ≡ 2 ^ high + 2 ^ low =
    ap (λ (n : ℕ). bit_xor n (2 ^ low)) (sym (one-mul (2 ^ high))) ∙ xor_shifted 1 high (2 ^ low) (pow-lt l) ∙ ap (λ (n : ℕ). n + 2 ^ low) (one-mul (2 ^ high)) in
    ap (feed_bits bits 0) (sym sum)
    ∙ bits_linear bits 0 0 (2 ^ high) (2 ^ low) (lit< tt) (lit< tt)
    ∙ ap₂ bit_xor (single bits high h) (single bits low (omega (arith, l, h)))

-- two powers are the same only a multiple of 255 places from each other
pub apart : (low high : ℕ) → low < high → power high ≡ power low → (high - low) % 255 ≡ 0
apart low high l same =
    let more : high - low + low ≡ high = omega (arith, l) in
    one_again (high - low)
    (zeros_part low (power (high - low)) 1 (power_below (high - low)) (lit< tt)
    (zeros_power low (high - low) ∙ ap power more ∙ same ∙ sym (power_of_one low)))

-- ---- two bodies, by the places at which they differ

module _ (first second : List ℕ) (alike : EquallyLong first second) where
  -- these are the places of the ones between them
  as_ones : differing first second ≡ ones (bits_of first) (between first second)
  as_ones = differing_ones first second alike (bits_of first)

  falling : (places : List ℕ) → differing first second ≡ places → Falling (bits_of first) places
  falling places is = subst (Falling (bits_of first)) (sym as_ones ∙ is) (ones_fall (bits_of first) (between first second))

  -- the receiver's two findings differ by what the places feed to
  found : (places : List ℕ) → differing first second ≡ places → bit_xor (received first) (received second) ≡ feed_bits (bits_of first) 0 (sum_of places)
  found places is =
      findings first second alike
      ∙ ap (feed_bits (bits_of first) 0)
      (sym (ap sum_of (sym is ∙ as_ones) ∙ sum_ones (bits_of first) (between first second) ∙ mod-eq_of_lt (between_below first second alike)))

  one_found : (place : ℕ) → differing first second ≡ place ∷ [] → bit_xor (received first) (received second) ≡ power place
  unfolding sum_of
  one_found place is =
      found (place ∷ []) is ∙ ap (feed_bits (bits_of first) 0) (add-zero (2 ^ place)) ∙ single (bits_of first) place (falling (place ∷ []) is).0

  two_found : (high low : ℕ) → differing first second ≡ high ∷ low ∷ [] → bit_xor (received first) (received second) ≡ bit_xor (power high) (power low)
  unfolding sum_of
  two_found high low is =
      let falls = falling (high ∷ low ∷ []) is in
      found (high ∷ low ∷ []) is ∙ ap (λ (n : ℕ). feed_bits (bits_of first) 0 (2 ^ high + n)) (add-zero (2 ^ low))
      ∙ pair (bits_of first) high low falls.1.0 falls.0

  -- one place
  one_place : (place : ℕ) → differing first second ≡ place ∷ [] → NotBoth first second
  one_place place is p q = power_some place (sym (one_found place is) ∙ ap₂ bit_xor p q)

  -- two places
  two_places : (high low : ℕ) → differing first second ≡ high ∷ low ∷ [] → Passes first → Passes second → (high - low) % 255 ≡ 0
  two_places high low is p q =
      apart low high (falling (high ∷ low ∷ []) is).1.0 (xor_zero_eq (power high) (power low) (sym (two_found high low is) ∙ ap₂ bit_xor p q))

  two_the_same : (high low : ℕ) → differing first second ≡ high ∷ low ∷ [] → (high - low) % 255 ≡ 0 → Passes first → Passes second
  two_the_same high low is round p =
      let falls = falling (high ∷ low ∷ []) is in
      let turns = (high - low) / 255 in
      let more : low + 255 * turns ≡ high = omega (arith, falls.1.0, round) in
      let same : power high ≡ power low = ap power (sym more) ∙ come_round turns low in
      sym (xor_zero_eq (received first) (received second) (two_found high low is ∙ ap (λ (n : ℕ). bit_xor n (power low)) same ∙ xor_self (power low))) ∙ p

  -- one or two of the first 255 places
  by_places : (most : ℕ) → (most ≤ 1) ⊎ (bits_of first ≤ 255) → most ≤ 2 → (places : List ℕ) → differing first second ≡ places
      → 1 ≤ length places → length places ≤ most → NotBoth first second
  by_places most short few [] is some no_more p q = omega (arith, some)
  by_places most short few (place ∷ []) is some no_more p q = one_place place is p q
  by_places most short few (high ∷ low ∷ []) is some no_more p q =
      let falls = falling (high ∷ low ∷ []) is in
      let round = two_places high low is p q in
      ⊎_elim (λ (one : most ≤ 1). absurd (omega (arith, one, no_more))) (λ (short : bits_of first ≤ 255). absurd (omega (arith, short, round, falls.0, falls.1.0))) short
  by_places most short few (high ∷ low ∷ more ∷ places) is some no_more p q = omega (arith, no_more, few)

pub one_bit : OneBit
one_bit first second alike bits = by_places first second alike 1 (inl (lit≤ tt)) (lit≤ tt) (differing first second) refl bits.one bits.no_more

pub one_or_two_bits : OneOrTwoBits
one_or_two_bits first second alike short bits =
    by_places first second alike 2 (inr (omega (arith, short))) (lit≤ tt) (differing first second) refl bits.one bits.no_more

pub two_bits : TwoBits
two_bits first second alike high low is =
    record { missed = two_the_same first second alike high low is; no_other = two_places first second alike high low is }
