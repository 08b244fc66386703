-- Shown: the laws at their edges.
-- Why: each is the law itself, at the last body, place or neighbour that it speaks of.
use Prim.Native.Nat.{◌-◌, ◌<◌}
use mathlib.Core.Path.{refl, ap}
use mathlib.Core.List.{[], ◌∷◌}
use native.Mathlib.Omega.{arith}
use lib.Dec.{lit<, lit≤}
use lib.ListN.{length}
use Rattle.check_byte.specs.Register.{shift_in, feed_bits, feed_byte, feed_all, received}
use Rattle.check_misses.specs.Places.{bits_of, byte_around, bit_at, turned_over, differing_below, among, low_bit_first}
use Rattle.check_misses.specs.PlacesShown.{zeros, eight_across}
use Rattle.check_misses.specs.MissesShown.{asks_gross, AtTheEdges}
use Rattle.check_misses.proofs.Apart.{apart}
use Rattle.check_misses.proofs.Neighbours.{eight_neighbours}
use Rattle.check_misses.proofs.OneOrTwo.{one_or_two_bits}
use Rattle.check_misses.proofs.LowBitFirst.{eight_low_bit_first}
use Rattle.check_misses.proofs.Filling.{one_filling_passes}
use Rattle.check_misses.proofs.TurnedOver.{each_bit_turned}
use Rattle.check_misses.proofs.TwoTurned.{alike_both, differ_both}

pub at_the_edges : AtTheEdges
unfolding differing_below among low_bit_first bit_at byte_around received feed_all feed_byte feed_bits shift_in
at_the_edges = record {
  thirty_one = λ body all long.
      let second = turned_over 0 (turned_over (bits_of body - 1) body) in
      let l : 0 < bits_of body - 1 = omega (arith, long) in
      let h : bits_of body - 1 < bits_of body = omega (arith, long) in
      let differ = ap length (differ_both body all (bits_of body - 1) 0 l h) in
      one_or_two_bits body second (alike_both body all (bits_of body - 1) 0 l h) (omega (arith, long))
      (record { one = omega (arith, differ); no_more = omega (arith, differ) });
  eight = eight_neighbours zeros eight_across (record { bytes = tt; bytes_too = tt; long = refl })
      (apart zeros eight_across 11 (10 ∷ 9 ∷ 8 ∷ 7 ∷ 6 ∷ 5 ∷ 4 ∷ []) refl) (record { from = 4; inside = tt });
  eight_low_first =
      eight_low_bit_first zeros (0x80 ∷ 0x40 ∷ []) (record { bytes = tt; bytes_too = tt; long = refl })
      (apart zeros (0x80 ∷ 0x40 ∷ []) 15 (6 ∷ []) refl) (record { from = 1; inside = tt });
  first_bit = each_bit_turned 23 asks_gross tt (lit< tt);
  first_eight = one_filling_passes (0x01 ∷ 0xC3 ∷ 0xE2 ∷ []) tt 16 (lit≤ tt);
  its_filling = record { long = record { bytes = tt; bytes_too = tt; long = refl }; inside = tt; passes = refl };
}
