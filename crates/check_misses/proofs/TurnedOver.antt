-- Shown: a bit that is turned over differs, no other does, and the register ends with the power of x of its place folded in.
-- Why: byte by byte from the last one on; feeding is linear, and a byte behind takes a power eight places up.
use Prim.Native.Nat.{ℕ, zero, suc, ◌+◌, ◌*◌, ◌/◌, ◌%◌, ◌^◌, ◌<◌}
use mathlib.Core.Path.{◌≡◌, ◌∙◌, sym, ap, ap₂}
use mathlib.Core.List.{List, [], ◌∷◌, reverse, reverse-reverse}
use native.Mathlib.Nat.{mod-lt, zero-add, add-zero}
use native.Mathlib.Omega.{arith}
use mir.Facts.{and_yes, yes_and}
use lib.Dec.{T, ltb, lt→ltb, lit<}
use lib.ListN.{length, length-reverse, length-set, get_or, set}
use lib.Bits.{bit_xor, xor_block, xor_lt, xor_zero_r}
use lib.Pow.{are_bytes, pow-lt, pow-add, pow_pos}
use Rattle.laws.proofs.ByteLists.{byte_at}
use Rattle.low_first.specs.LowFirst.{low_first}
use Rattle.check_byte.specs.Register.{feed_bits, feed_byte, received}
use Rattle.check_byte.proofs.Laws.{bits_linear}
use Rattle.check_misses.specs.Places.{bits_of, byte_around, turned_over, differing}
use Rattle.check_misses.specs.Powers.{power}
use Rattle.check_misses.specs.Misses.{EquallyLong, EachBitTurned}
use Rattle.check_misses.proofs.Ones.{ones}
use Rattle.check_misses.proofs.MovedUp.{ones_single}
use Rattle.check_misses.proofs.Zeros.{power_below, zeros_power}
use Rattle.check_misses.proofs.Numbers.{folded_back, bytes_reverse, received_below, by_last, number_of, between, differing_ones}
use Rattle.check_misses.proofs.OneOrTwo.{single}

-- ---- a body from its last byte on

-- one bit of one byte turned over
abbrev turned : List ℕ → ℕ → ℕ → List ℕ
turned l i bit = set l i (bit_xor (get_or l i 0) (2 ^ bit))

-- a byte enters, from a register into which another one is folded
folded_in : (register other byte more : ℕ) → register < 256 → other < 256
    → feed_byte (bit_xor register other) (bit_xor byte more) ≡ bit_xor (feed_byte register byte) (feed_bits 8 other more)
unfolding feed_byte
folded_in register other byte more = bits_linear 8 register other byte more

check_of_lem : (l : List ℕ) (i bit : ℕ) → i < length l → bit < 8 → received (reverse (turned l i bit)) ≡ bit_xor (received (reverse l)) (power (8 * i + bit))
check_of_lem [] i bit h b = absurd (omega (arith, h))
check_of_lem (byte ∷ rest) zero bit h b =
    let register = received (reverse rest) in
    by_last (bit_xor byte (2 ^ bit)) rest
    ∙ ap (λ (n : ℕ). feed_byte n (bit_xor byte (2 ^ bit))) (sym (xor_zero_r register))
    ∙ folded_in register 0 byte (2 ^ bit) (received_below (reverse rest)) (lit< tt)
    ∙ ap₂ bit_xor (sym (by_last byte rest)) (single 8 bit b ∙ ap power (sym (zero-add bit)))
check_of_lem (byte ∷ rest) (suc i) bit h b =
    let register = received (reverse rest) in
    let place = 8 * i + bit in
    let next : place + 8 ≡ 8 * suc i + bit = omega arith in
    by_last byte (turned rest i bit)
    ∙ ap₂ feed_byte (check_of_lem rest i bit (omega (arith, h)) b) (sym (xor_zero_r byte))
    ∙ folded_in register (power place) byte 0 (received_below (reverse rest)) (power_below place)
    ∙ ap₂ bit_xor (sym (by_last byte rest)) (zeros_power 8 place ∙ ap power next)

-- ---- the number

as_block : (low high : ℕ) → low + 256 * high ≡ high * 2 ^ 8 + low
as_block low high = omega arith

number_turned : (l : List ℕ) → T (are_bytes l) → (i bit : ℕ) → i < length l → bit < 8 → low_first (turned l i bit) ≡ bit_xor (low_first l) (2 ^ (8 * i + bit))
unfolding low_first
number_turned [] all i bit h b = absurd (omega (arith, h))
number_turned (byte ∷ rest) all zero bit h b =
    let high = low_first rest in
    let mask : 0 * 2 ^ 8 + 2 ^ bit ≡ 2 ^ (0 + bit) = zero-add (2 ^ bit) ∙ ap (λ (n : ℕ). 2 ^ n) (sym (zero-add bit)) in
    as_block (bit_xor byte (2 ^ bit)) high
    ∙ ap (λ (n : ℕ). n * 2 ^ 8 + bit_xor byte (2 ^ bit)) (sym (xor_zero_r high))
    ∙ sym (xor_block 8 high 0 byte (2 ^ bit) (byte_at (byte ∷ rest) all 0) (pow-lt b))
    ∙ ap₂ bit_xor (sym (as_block byte high)) mask
number_turned (byte ∷ rest) all (suc i) bit h b =
    let high = low_first rest in
    let place = 8 * i + bit in
    let next : place + 8 ≡ 8 * suc i + bit = omega arith in
    let mask : 2 ^ place * 2 ^ 8 + 0 ≡ 2 ^ (8 * suc i + bit) = add-zero (2 ^ place * 2 ^ 8) ∙ sym (pow-add 2 place 8) ∙ ap (λ (n : ℕ). 2 ^ n) next in
    as_block byte (low_first (turned rest i bit))
    ∙ ap₂ (λ (n m : ℕ). n * 2 ^ 8 + m) (number_turned rest (and_yes (ltb byte 256) _ all).1 i bit (omega (arith, h)) b) (sym (xor_zero_r byte))
    ∙ sym (xor_block 8 high (2 ^ place) byte 0 (byte_at (byte ∷ rest) all 0) (pow_pos 8))
    ∙ ap₂ bit_xor (sym (as_block byte high)) mask

-- ---- the body

bytes_set : (l : List ℕ) (i value : ℕ) → T (are_bytes l) → value < 256 → T (are_bytes (set l i value))
bytes_set [] i value all h = tt
bytes_set (byte ∷ rest) zero value all h = yes_and (ltb value 256) _ (lt→ltb value 256 h) (and_yes (ltb byte 256) _ all).1
bytes_set (byte ∷ rest) (suc i) value all h =
    let parts = and_yes (ltb byte 256) _ all in
    yes_and (ltb byte 256) _ parts.0 (bytes_set rest i value parts.1 h)

pub length_turned : (place : ℕ) (body : List ℕ) → length (turned_over place body) ≡ length body
unfolding turned_over byte_around
length_turned place body =
    let value = bit_xor (get_or (reverse body) (place / 8) 0) (2 ^ (place % 8)) in
    length-reverse (set (reverse body) (place / 8) value) ∙ length-set (reverse body) (place / 8) value ∙ length-reverse body

-- the place again, by its byte and its bit
again : (place : ℕ) → 8 * (place / 8) + place % 8 ≡ place
again place = omega arith

module _ (place : ℕ) (body : List ℕ) (h : place < bits_of body) where
  in_list : place / 8 < length (reverse body)
  in_list = omega (arith, h, length-reverse body)

  pub check_turned : received (turned_over place body) ≡ bit_xor (received body) (power place)
  unfolding turned_over byte_around
  check_turned =
      check_of_lem (reverse body) (place / 8) (place % 8) in_list (mod-lt place (lit< tt))
      ∙ ap₂ bit_xor (ap received (reverse-reverse body)) (ap power (again place))

  module _ (all : T (are_bytes body)) where
    pub alike_turned : EquallyLong body (turned_over place body)
    unfolding turned_over byte_around
    alike_turned =
        let small = bytes_reverse body all in
        let bit : 2 ^ (place % 8) < 2 ^ 8 = pow-lt (mod-lt place (lit< tt)) in
        let byte = get_or (reverse body) (place / 8) 0 in
        let value = bit_xor byte (2 ^ (place % 8)) in
        let fits : value < 256 = xor_lt 8 byte (2 ^ (place % 8)) (byte_at (reverse body) small (place / 8)) bit in
        record {
          bytes = all;
          bytes_too = bytes_reverse (set (reverse body) (place / 8) value) (bytes_set (reverse body) (place / 8) value small fits);
          long = sym (length_turned place body);
        }

    pub number_of_turned : number_of (turned_over place body) ≡ bit_xor (number_of body) (2 ^ place)
    unfolding turned_over byte_around
    number_of_turned =
        ap low_first (reverse-reverse (turned (reverse body) (place / 8) (place % 8)))
        ∙ number_turned (reverse body) (bytes_reverse body all) (place / 8) (place % 8) in_list (mod-lt place (lit< tt))
        ∙ ap (λ (n : ℕ). bit_xor (number_of body) (2 ^ n)) (again place)

    pub between_turned : between body (turned_over place body) ≡ 2 ^ place
    between_turned = ap (bit_xor (number_of body)) number_of_turned ∙ folded_back (number_of body) (2 ^ place)

    differs : differing body (turned_over place body) ≡ place ∷ []
    differs =
        differing_ones body (turned_over place body) alike_turned (bits_of body) ∙ ap (ones (bits_of body)) between_turned ∙ ones_single (bits_of body) place h

pub each_bit_turned : EachBitTurned
each_bit_turned place body all h =
    record { long = alike_turned place body h all; differs = differs place body h all; check = check_turned place body h }
