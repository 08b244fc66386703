-- Shown: messages that somebody sends, and bodies beside them that differ and pass too.
-- Why: by computing.
use mathlib.Core.Path.{refl}
use mathlib.Core.List.{[], ◌∷◌}
use native.Mathlib.Omega.{arith}
use lib.Dec.{lit≤}
use Rattle.check_byte.specs.Register.{shift_in, feed_bits, feed_byte, feed_all, received}
use Rattle.check_misses.specs.Places.{byte_around, bit_at, turned_over, differing_below, among, low_bit_first}
use Rattle.check_misses.specs.MissesShown.{to_terminal1, to_terminal129, asks_gross, asks_net, asks_terminal3, ThirtyTwoBytes, NineBits, ThreeBits, NineLowBitFirst, spanning, missed_of, CountsShown, NotMissed}
use Rattle.check_misses.proofs.Apart.{missed}

pub thirty_two_bytes : ThirtyTwoBytes
unfolding turned_over differing_below bit_at byte_around received feed_all feed_byte feed_bits shift_in
thirty_two_bytes = record {
  long = refl;
  turned = refl;
  missed = missed to_terminal1 to_terminal129 255 (0 ∷ []) (record { bytes = tt; bytes_too = tt; long = refl }) refl refl refl;
  in_two = record { one = lit≤ tt; no_more = lit≤ tt };
}

pub nine_bits : NineBits
unfolding differing_below among bit_at byte_around received feed_all feed_byte feed_bits shift_in
nine_bits = record {
  missed = missed asks_gross asks_net 8 (6 ∷ 5 ∷ 3 ∷ 0 ∷ []) (record { bytes = tt; bytes_too = tt; long = refl }) refl refl refl;
  inside_nine = record { from = 0; inside = tt };
}

pub three_bits : ThreeBits
unfolding differing_below bit_at byte_around received feed_all feed_byte feed_bits shift_in
three_bits = record {
  missed = missed asks_gross asks_terminal3 17 (2 ∷ 1 ∷ []) (record { bytes = tt; bytes_too = tt; long = refl }) refl refl refl;
  in_three = record { one = lit≤ tt; no_more = lit≤ tt };
}

pub nine_low_bit_first : NineLowBitFirst
unfolding differing_below among low_bit_first bit_at byte_around received feed_all feed_byte feed_bits shift_in
nine_low_bit_first = record {
  missed = missed asks_gross (0x01 ∷ 0x43 ∷ 0x56 ∷ []) 15 (7 ∷ 5 ∷ 4 ∷ 2 ∷ 0 ∷ []) (record { bytes = tt; bytes_too = tt; long = refl }) refl refl refl;
  inside_nine = record { from = 0; inside = tt };
}

pub counts_shown : CountsShown
unfolding spanning missed_of received feed_all feed_byte feed_bits shift_in
counts_shown = record { lowest = refl; highest = refl; eight = refl; nine = refl; ten = refl; eleven = refl; twelve = refl }

pub not_missed : NotMissed
unfolding turned_over byte_around received feed_all feed_byte feed_bits shift_in
not_missed = record { second_fails = λ missed. absurd (omega (arith, missed.passes_too)); first_fails = λ missed. absurd (omega (arith, missed.passes)) }
