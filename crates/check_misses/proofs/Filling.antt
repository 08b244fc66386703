-- Shown: of the 256 fillings of any eight neighbouring bits exactly one passes.
-- Why: a zero that enters can be taken back, so some number of eight bits, with as many zeros behind it as there are places below, feeds to what the
-- receiver found: folded in it makes 0 of that. Two fillings differ only inside eight neighbouring bits.
use Prim.Native.Nat.{ℕ, zero, suc, ◌+◌, ◌*◌, ◌/◌, ◌%◌, ◌^◌, ◌≤◌, ◌<◌}
use mathlib.Core.Path.{◌≡◌, ◌∙◌, refl, sym, ap, ap₂}
use mathlib.Core.Bool.{Bool, cond}
use mathlib.Core.List.{List, reverse, reverse-reverse}
use native.Mathlib.Omega.{arith}
use native.Mathlib.Decide.{dec_le}
use native.Mathlib.Nat.{mod-lt, pow-suc, lt_of_lt_of_le, lt_of_not-le}
use mir.Facts.{yes_and}
use lib.Dec.{T, ltb, eqb, eqb→eq, ltb→lt, lt→ltb, lit<}
use lib.ListN.{length, length-reverse}
use lib.Bits.{bit_xor, xor_self, xor_zero_l, xor_lt}
use lib.Pow.{are_bytes, pow-add, shl_lt, pow_mono}
use Rattle.laws.proofs.Computed.{below}
use Rattle.register.proofs.Bits.{xor_swap}
use Rattle.low_first.specs.LowFirst.{low_first, low_bytes}
use Rattle.low_first.proofs.Digits.{low_length, number_back}
use Rattle.check_byte.specs.Register.{shift_in, feed_bits, received}
use Rattle.check_misses.specs.Places.{bits_of}
use Rattle.check_misses.specs.Misses.{EquallyLong, Filling, OneFillingPasses}
use Rattle.check_misses.proofs.Ones.{bit_of}
use Rattle.check_misses.proofs.Windows.{past_end, none_outside, only_inside}
use Rattle.check_misses.proofs.MovedUp.{zero_below, bit_across}
use Rattle.check_misses.proofs.Bursts.{in_room}
use Rattle.check_misses.proofs.Zeros.{one_zero}
use Rattle.check_misses.proofs.Numbers.{folded_back, bytes_reverse, received_below, number_of, below_of, between, between_below, differing_ones, findings}
use Rattle.check_misses.proofs.Neighbours.{eight_enter, eight_same}

-- ---- zeros taken back

-- the register that a zero makes this one of
abbrev before : ℕ → ℕ
before register = cond (eqb (register % 2) 0) (register / 2) (bit_xor register 0x69 / 2 + 128)

abbrev taken_back : ℕ → Bool
taken_back register = eqb (shift_in (before register) 0) register

abbrev fits : ℕ → Bool
fits register = ltb (before register) 256

back_one : (register : ℕ) → register < 256 → shift_in (before register) 0 ≡ register
unfolding shift_in
back_one register h = eqb→eq _ _ (below taken_back 256 tt register h)

before_below : (register : ℕ) → register < 256 → before register < 256
before_below register h = ltb→lt _ _ (below fits 256 tt register h)

-- before so many zeros
pub record Back (count register : ℕ) : Type 0 where
  pub start : ℕ
  pub small : start < 256
  pub fed : feed_bits count start 0 ≡ register

back : (count register : ℕ) → register < 256 → Back count register
unfolding feed_bits
back zero register h = record { start = register; small = h; fed = refl }
back (suc count) register h =
    let sooner = back count register h in
    let start = before sooner.start in
    record {
      start = start;
      small = before_below sooner.start sooner.small;
      fed = one_zero count start ∙ ap (λ (n : ℕ). feed_bits count n 0) (back_one sooner.start sooner.small) ∙ sooner.fed;
    }

-- ---- the filling

eights : (count : ℕ) → 256 ^ count ≡ 2 ^ (8 * count)
eights zero = refl
eights (suc count) =
    let more : 8 * count + 8 ≡ 8 * suc count = omega arith in
    pow-suc 256 count ∙ ap (λ (n : ℕ). n * 256) (eights count) ∙ sym (pow-add 2 (8 * count) 8) ∙ ap (λ (n : ℕ). 2 ^ n) more

low_are_bytes : (count number : ℕ) → T (are_bytes (low_bytes count number))
unfolding low_bytes
low_are_bytes zero number = tt
low_are_bytes (suc count) number = yes_and (ltb (number % 256) 256) _ (lt→ltb (number % 256) 256 (mod-lt number (lit< tt))) (low_are_bytes count (number / 256))

module _ (body : List ℕ) (all : T (are_bytes body)) (number : ℕ) (h : number < 2 ^ bits_of body) where
  -- the body whose bits differ from this one's where a number has ones
  other : List ℕ
  other = reverse (low_bytes (length body) (bit_xor (number_of body) number))

  other_alike : EquallyLong body other
  unfolding other
  other_alike =
      let l = low_bytes (length body) (bit_xor (number_of body) number) in
      record {
        bytes = all;
        bytes_too = bytes_reverse l (low_are_bytes (length body) (bit_xor (number_of body) number));
        long = sym (length-reverse l ∙ low_length (length body) (bit_xor (number_of body) number));
      }

  between_other : between body other ≡ number
  unfolding other
  between_other =
      let sum = bit_xor (number_of body) number in
      let small : sum < 256 ^ length body = rw (eights (length body)) (xor_lt (bits_of body) (number_of body) number (below_of body all) h) in
      ap (bit_xor (number_of body)) (ap low_first (reverse-reverse (low_bytes (length body) sum)) ∙ number_back (length body) sum small)
      ∙ folded_back (number_of body) number

module _ (body : List ℕ) (all : T (are_bytes body)) (from : ℕ) (room : from + 8 ≤ bits_of body) where
  start : Back from (received body)
  start = back from (received body) (received_below body)

  moved : ℕ
  moved = start.start * 2 ^ from

  small : moved < 2 ^ (8 + from)
  unfolding moved
  small = shl_lt 8 from start.small

  moved_below : moved < 2 ^ bits_of body
  moved_below = lt_of_lt_of_le small (pow_mono (omega (arith, room)))

  filled : List ℕ
  filled = other body all moved moved_below

  alike : EquallyLong body filled
  unfolding filled
  alike = other_alike body all moved moved_below

  is_moved : between body filled ≡ moved
  unfolding filled
  is_moved = between_other body all moved moved_below

  -- outside the eight the two do not differ
  outside : (place : ℕ) → (from ≤ place → place < from + 8 → ⊥) → bit_of place moved ≡ 0
  unfolding moved
  outside place out = elim (dec_le from place) [
    | yes l ↦ elim (dec_le (8 + from) place) [
      | yes past ↦ past_end (8 + from) moved place small past
      | no g ↦ absurd (out l (omega (arith, lt_of_not-le g)))
    ]
    | no g ↦ zero_below from place start.start (lt_of_not-le g)
  ]

  -- what was found is folded in once more
  found : bit_xor (received body) (received filled) ≡ received body
  unfolding moved
  found =
      findings body filled alike ∙ ap (feed_bits (bits_of body) 0) is_moved
      ∙ in_room (bits_of body) from 8 start.start moved_below start.small
      ∙ ap (λ (n : ℕ). feed_bits from n 0) (eight_enter start.start start.small)
      ∙ start.fed

  filling : Filling from body filled
  filling = record {
    long = alike;
    inside = rw (differing_ones body filled alike (bits_of body), is_moved) (only_inside from 8 (bits_of body) moved outside);
    passes = sym (folded_back (received body) (received filled)) ∙ ap (bit_xor (received body)) found ∙ xor_self (received body);
  }

-- two fillings differ only inside the eight as well
module _ (body first second : List ℕ) (from : ℕ) (one : Filling from body first) (two : Filling from body second) where
  both_alike : EquallyLong first second
  both_alike = record { bytes = one.long.bytes_too; bytes_too = two.long.bytes_too; long = sym one.long.long ∙ two.long.long }

  quiet_in : (filled : List ℕ) → Filling from body filled → (place : ℕ) → (from ≤ place → place < from + 8 → ⊥) → bit_of place (between body filled) ≡ 0
  quiet_in filled is =
      none_outside from 8 (bits_of body) (between body filled) (between_below body filled is.long)
      (rw (differing_ones body filled is.long (bits_of body)) at is.inside)

  across : between first second ≡ bit_xor (between body first) (between body second)
  across =
      let n = number_of body in
      sym (xor_swap n (number_of first) n (number_of second) ∙ ap (λ (k : ℕ). bit_xor k (between first second)) (xor_self n) ∙ xor_zero_l (between first second))

  quiet_between : (place : ℕ) → (from ≤ place → place < from + 8 → ⊥) → bit_of place (between first second) ≡ 0
  quiet_between place out =
      ap (bit_of place) across
      ∙ bit_across place (between body first) (between body second)
      ∙ ap₂ bit_xor (quiet_in first one place out) (quiet_in second two place out)

  same_filling : first ≡ second
  same_filling =
      eight_same first second both_alike from
      (rw (differing_ones first second both_alike (bits_of first)) (only_inside from 8 (bits_of first) (between first second) quiet_between))
      one.passes two.passes

pub one_filling_passes : OneFillingPasses
one_filling_passes body all from room = record {
  filled = filled body all from room;
  is = filling body all from room;
  no_other = λ another is. same_filling body another (filled body all from room) from is (filling body all from room);
}
