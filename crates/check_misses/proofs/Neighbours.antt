-- Shown: two bodies that differ only inside eight neighbouring bits don't both pass.
-- Why: what they differ in, read as one number, must itself feed to 0. It is a number of eight bits with zeros behind it: the eight feed to themselves, and
-- zeros make 0 of 0 alone.
use Prim.Native.Nat.{ℕ, ◌*◌, ◌^◌, ◌<◌}
use mathlib.Core.Path.{◌≡◌, ◌∙◌, sym, ap}
use mathlib.Core.List.{List}
use native.Mathlib.Nat.{zero-mul}
use lib.Dec.{T}
use Rattle.check_byte.specs.Register.{feed_bits, feed_byte, received}
use Rattle.check_byte.proofs.Laws.{byte_enters}
use Rattle.check_misses.specs.Places.{bits_of, differing, among}
use Rattle.check_misses.specs.Misses.{EquallyLong, EightNeighbours}
use Rattle.check_misses.proofs.Windows.{Moved, moved}
use Rattle.check_misses.proofs.Bursts.{part_passes}
use Rattle.check_misses.proofs.Numbers.{between, between_below, differing_ones, both_pass, none_between}

pub eight_enter : (number : ℕ) → number < 256 → feed_bits 8 0 number ≡ number
unfolding feed_byte
eight_enter = byte_enters

module _ (first second : List ℕ) (alike : EquallyLong first second) where
  -- where they differ, as a number moved up
  pub window : (from many : ℕ) → T (among from many (differing first second)) → Moved from many (between first second)
  window from many inside =
      moved from many (bits_of first) (between first second) (between_below first second alike)
      (rw (differing_ones first second alike (bits_of first)) at inside)

  -- if both pass, what was moved up feeds to 0
  pub window_passes : (from many : ℕ) (w : Moved from many (between first second)) → received first ≡ 0 → received second ≡ 0 → feed_bits many 0 w.part ≡ 0
  window_passes from many w p q =
      part_passes (bits_of first) from many w.part (rw w.is (between_below first second alike)) w.small
      (ap (feed_bits (bits_of first) 0) w.is ∙ both_pass first second alike p q)

  -- with nothing moved up they are the same
  pub no_part : (from many : ℕ) (w : Moved from many (between first second)) → w.part ≡ 0 → first ≡ second
  no_part from many w none = none_between first second alike (sym w.is ∙ ap (λ (n : ℕ). n * 2 ^ from) none ∙ zero-mul (2 ^ from))

-- two that differ only inside eight neighbouring bits and both pass are the same
pub eight_same : (first second : List ℕ) → EquallyLong first second → (from : ℕ) → T (among from 8 (differing first second))
    → received first ≡ 0 → received second ≡ 0 → first ≡ second
eight_same first second alike from inside p q =
    let w = window first second alike from 8 inside in
    no_part first second alike from 8 w (sym (eight_enter w.part w.small) ∙ window_passes first second alike from 8 w p q)

pub eight_neighbours : EightNeighbours
eight_neighbours first second alike other only p q = other (eight_same first second alike only.from only.inside p q)
