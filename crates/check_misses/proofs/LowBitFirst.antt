-- Shown: two bodies that differ only inside eight neighbouring bits, the low bit of each byte first, don't both pass.
-- Why: such bits are the top ones of one byte and the low ones of the byte behind it. What the top ones feed to always reaches above the low ones:
-- computed for each of the eight ways to lie.
use Prim.Native.Nat.{ℕ, ◌+◌, ◌-◌, ◌*◌, ◌/◌, ◌%◌, ◌^◌, ◌≤◌, ◌<◌}
use mathlib.Core.Path.{◌≡◌, ◌∙◌, sym, ap, ap₂, subst}
use mathlib.Core.Bool.{Bool, ◌||◌}
use mathlib.Core.List.{map}
use mathlib.Core.Logic.{⊎_elim}
use native.Mathlib.Nat.{mod-lt, zero-mul, lt_of_lt_of_le}
use native.Mathlib.Omega.{arith}
use mir.Facts.{or_yes}
use lib.Dec.{T, leb, eqb, eqb→eq, leb→le, lit<}
use lib.Bits.{bit_xor}
use lib.Pow.{split, shr_lt, pow_pos, pow_mono}
use Rattle.laws.proofs.Computed.{every, below}
use Rattle.register.proofs.Bits.{xor_zero_eq}
use Rattle.check_byte.specs.Register.{shift_in, feed_bits}
use Rattle.check_byte.proofs.Laws.{beside}
use Rattle.check_byte.proofs.Wide.{in_parts}
use Rattle.check_misses.specs.Places.{bits_of, among, low_bit_first}
use Rattle.check_misses.specs.Misses.{EightLowBitFirst}
use Rattle.check_misses.proofs.Ones.{bit_of, ones, clear}
use Rattle.check_misses.proofs.MovedUp.{bit_moved}
use Rattle.check_misses.proofs.Windows.{quiet, ends_below, starts_at}
use Rattle.check_misses.proofs.Zeros.{zeros_of_zero}
use Rattle.check_misses.proofs.Bursts.{low_alone, any_room, part_passes}
use Rattle.check_misses.proofs.Numbers.{between, between_below, differing_ones, both_pass, none_between}
use Rattle.check_misses.proofs.Neighbours.{eight_enter}

-- ---- sixteen bits, of which only the top ones and the low ones may be set, eight in all

-- so many top bits of the first byte, with the rest of the sixteen behind them, reach above the low bits that are left
abbrev reaches : ℕ → ℕ → Bool
reaches top part = eqb part 0 || leb (2 ^ (8 - top)) (feed_bits (16 - top) part 0)

abbrev all_reach : ℕ → Bool
all_reach top = every (reaches top) (2 ^ top)

no_part : (top : ℕ) → top < 8 → (part : ℕ) → part < 2 ^ top → feed_bits (16 - top) part 0 < 2 ^ (8 - top) → part ≡ 0
unfolding feed_bits shift_in
no_part top h part small fits =
    let fed = feed_bits (16 - top) part 0 in
    ⊎_elim (eqb→eq part 0) (λ (e : T (leb (2 ^ (8 - top)) fed)). absurd (omega (arith, fits, leb→le (2 ^ (8 - top)) fed e)))
    (or_yes (eqb part 0) _ (below (reaches top) (2 ^ top) (below all_reach 8 tt top h) part small))

-- a number that fits the register feeds to itself
itself : (count number : ℕ) → number < 2 ^ count → count ≤ 8 → feed_bits count 0 number ≡ number
itself count number h l =
    let small : number < 256 = lt_of_lt_of_le h (pow_mono l) in
    any_room count 8 number h small ∙ eight_enter number small

module _ (top number : ℕ) (h : top < 8) (small : number < 2 ^ 16) (middle : (place : ℕ) → 8 - top ≤ place → place < 8 + (8 - top) → bit_of place number ≡ 0)
    (none : feed_bits 16 0 number ≡ 0) where
  high : ℕ
  high = number / 2 ^ (16 - top)

  low : ℕ
  low = number % 2 ^ (16 - top)

  high_below : high < 2 ^ top
  unfolding high
  high_below =
      let places : 16 ≡ top + (16 - top) = omega arith in
      shr_lt top (16 - top) (subst (λ (n : ℕ). number < 2 ^ n) places small)

  low_below : low < 2 ^ (8 - top)
  unfolding low
  low_below =
      let places : 16 - top ≡ 8 + (8 - top) = omega arith in
      subst (λ (n : ℕ). n < 2 ^ (8 - top)) (sym (ap (λ (n : ℕ). number % 2 ^ n) places ∙ clear (8 - top) 8 number middle)) (mod-lt number (pow_pos (8 - top)))

  fed : bit_xor (feed_bits (16 - top) high 0) low ≡ 0
  unfolding high low
  fed =
      let places : 16 - top + top ≡ 16 = omega arith in
      let fits : high < 256 = lt_of_lt_of_le high_below (pow_mono {j = 8} (omega arith)) in
      let wide : low < 2 ^ (16 - top) = mod-lt number (pow_pos (16 - top)) in
      let narrow : low < 256 = lt_of_lt_of_le low_below (pow_mono {j = 8} (omega arith)) in
      ap (λ (n : ℕ). bit_xor (feed_bits (16 - top) high 0) n) (sym (any_room (16 - top) 8 low wide narrow ∙ eight_enter low narrow))
      ∙ sym (beside (16 - top) high low fits)
      ∙ low_alone (16 - top) high number
      ∙ ap (λ (n : ℕ). feed_bits (16 - top) n number) (sym (itself top high high_below (omega arith)))
      ∙ sym (in_parts (16 - top) top 0 number)
      ∙ ap (λ (n : ℕ). feed_bits n 0 number) places
      ∙ none

  as_low : feed_bits (16 - top) high 0 ≡ low
  as_low = xor_zero_eq (feed_bits (16 - top) high 0) low fed

  no_high : high ≡ 0
  no_high = no_part top h high high_below (subst (λ (n : ℕ). n < 2 ^ (8 - top)) (sym as_low) low_below)

  no_number : number ≡ 0
  unfolding high low
  no_number =
      let no_low : low ≡ 0 = sym as_low ∙ ap (λ (n : ℕ). feed_bits (16 - top) n 0) no_high ∙ zeros_of_zero (16 - top) in
      sym (split number (16 - top)) ∙ ap₂ (λ (a b : ℕ). a * 2 ^ (16 - top) + b) no_high no_low ∙ ap (λ (n : ℕ). n + 0) (zero-mul (2 ^ (16 - top)))

-- ---- the difference of two bodies

module _ (from count number : ℕ) (h : number < 2 ^ count) (all : T (among from 8 (map low_bit_first (ones count number)))) where
  -- the lowest place of the byte in which the neighbours begin
  base : ℕ
  base = from / 8 * 8

  part : ℕ
  part = number / 2 ^ base

  is_part : part * 2 ^ base ≡ number
  unfolding part base low_bit_first
  is_part = starts_at low_bit_first from 8 count number h all base (λ place l g _. omega (arith, l, g))

  part_below : part < 2 ^ 16
  unfolding part base low_bit_first
  part_below = shr_lt 16 base (ends_below low_bit_first from 8 count number h all (16 + base) (λ place l _ g. omega (arith, l, g)))

  -- between its top bits and the low bits of the byte behind it nothing differs
  middle : (place : ℕ) → 8 - from % 8 ≤ place → place < 8 + (8 - from % 8) → bit_of place part ≡ 0
  unfolding base low_bit_first
  middle place l g =
      sym (bit_moved base place part) ∙ ap (bit_of (base + place)) is_part
      ∙ quiet low_bit_first from 8 count number h all (base + place) (λ a b. omega (arith, l, g, a, b))

  pub line_part_none : feed_bits count 0 number ≡ 0 → number ≡ 0
  line_part_none none =
      sym is_part
      ∙ ap (λ (n : ℕ). n * 2 ^ base) (no_number (from % 8) part (mod-lt from (lit< tt)) part_below middle
      (part_passes count base 16 part (rw is_part h) part_below (ap (feed_bits count 0) is_part ∙ none)))
      ∙ zero-mul (2 ^ base)

pub eight_low_bit_first : EightLowBitFirst
eight_low_bit_first first second alike other only p q =
    other (none_between first second alike
    (line_part_none only.from (bits_of first) (between first second) (between_below first second alike)
    (rw (differing_ones first second alike (bits_of first)) at only.inside) (both_pass first second alike p q)))
