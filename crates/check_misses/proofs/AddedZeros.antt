-- Shown: a 00 ahead of a body is never found, nor is one behind a body that passes.
-- Why: a 00 makes 0 of an empty register.
use mathlib.Core.Path.{◌∙◌, refl, ap}
use mathlib.Core.List.{[], ◌∷◌}
use Rattle.check_byte.specs.Register.{shift_in, feed_bits, feed_byte, feed_all, received}
use Rattle.check_byte.proofs.Laws.{feed_append}
use Rattle.check_misses.specs.Misses.{AddedZeros}

pub added_zeros : AddedZeros
unfolding received feed_all feed_byte feed_bits shift_in
added_zeros body = record { ahead = refl; behind = λ passes. feed_append 0 body (0x00 ∷ []) ∙ ap (λ register. feed_byte register 0x00) passes }
