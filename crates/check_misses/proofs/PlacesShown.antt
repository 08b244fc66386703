-- Shown: the words for places of bits, on small bodies.
-- Why: by computing; what is left out has two places that lie too far from each other.
use Prim.Native.Nat.{ℕ, ◌+◌, ◌≤◌}
use mathlib.Core.Path.{refl}
use mathlib.Core.List.{List, [], ◌∷◌, ◌++◌}
use native.Mathlib.Omega.{arith}
use lib.Dec.{T, leb, ltb, leb→le, ltb→lt, lit≤}
use Rattle.check_byte.specs.Register.{shift_in}
use mir.Facts.{and_yes}
use Rattle.check_misses.specs.Places.{byte_around, bit_at, turned_over, differing_below, among, low_bit_first}
use Rattle.check_misses.specs.Powers.{power}
use Rattle.check_misses.specs.PlacesShown.{BitsShown, TurnsShown, DifferingShown, NeighboursShown, InBitsShown, LowBitFirstShown, PowersShown}

pub bits_shown : BitsShown
unfolding bit_at byte_around
bits_shown = record { last = refl; top_of_last = refl; low_of_first = refl; first = refl; none_ahead = refl }

pub turns_shown : TurnsShown
unfolding turned_over byte_around
turns_shown = record { last_byte = refl; byte_ahead = refl; no_place = refl; back = refl }

pub differing_shown : DifferingShown
unfolding differing_below bit_at byte_around
differing_shown = record { nowhere = refl; both_ends = refl; eight = refl; nine = refl }

-- no neighbours hold the first and the last of some places that lie too far from each other
from_last : (from many : ℕ) (places : List ℕ) (last : ℕ) → T (among from many (places ++ (last ∷ []))) → from ≤ last
unfolding among
from_last from many [] last all = leb→le from last (and_yes (leb from last) _ all).0
from_last from many (place ∷ places) last all = from_last from many places last (and_yes (ltb place (from + many)) _ (and_yes (leb from place) _ all).1).1

too_far : (many first last : ℕ) (between : List ℕ) → last + many ≤ first → (from : ℕ) → T (among from many (first ∷ (between ++ (last ∷ [])))) → ⊥
unfolding among
too_far many first last between far from all =
    let later = and_yes (ltb first (from + many)) _ (and_yes (leb from first) _ all).1 in
    omega (arith, ltb→lt first (from + many) later.0, from_last from many between last later.1)

pub neighbours_shown : NeighboursShown
unfolding differing_below among bit_at byte_around
neighbours_shown = record {
  takes = record { from = 4; inside = tt };
  leaves = λ only. too_far 8 12 4 [] (lit≤ tt) only.from only.inside;
  nine_takes = record { from = 4; inside = tt };
  seven_leaves = λ only. too_far 7 11 4 (10 ∷ 9 ∷ 8 ∷ 7 ∷ 6 ∷ 5 ∷ []) (lit≤ tt) only.from only.inside;
}

pub in_bits_shown : InBitsShown
unfolding differing_below bit_at byte_around
in_bits_shown = record {
  takes_one = record { one = lit≤ tt; no_more = lit≤ tt };
  takes_two = record { one = lit≤ tt; no_more = lit≤ tt };
  leaves_none = λ bits. absurd (omega (arith, bits.one));
  leaves_three = λ bits. absurd (omega (arith, bits.no_more));
}

pub low_bit_first_shown : LowBitFirstShown
unfolding differing_below among low_bit_first bit_at byte_around
low_bit_first_shown = record {
  of_last = refl;
  of_first = refl;
  neighbours = record { from = 7; inside = tt };
  takes = record { from = 1; inside = tt };
  leaves = λ only. too_far 8 8 0 [] (lit≤ tt) only.from only.inside;
}

pub powers_shown : PowersShown
unfolding power shift_in
powers_shown = record { first = refl; seventh = refl; eighth = refl; last = refl; again = refl }
