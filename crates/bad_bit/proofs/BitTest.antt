-- Shown: a bit that is turned over makes a body pass exactly where the register ends as the power of x of its place.
-- Why: request 8's law of a bit turned over, and two numbers that fold to 0 are the same.
use Prim.Native.Nat.{ℕ, ◌<◌}
use mathlib.Core.Path.{◌≡◌, ◌∙◌, sym, ap}
use mathlib.Core.List.{List}
use lib.Dec.{eqb}
use lib.Bits.{xor_comm}
use Rattle.register.proofs.Bits.{xor_test}
use Rattle.check_byte.specs.Register.{received}
use Rattle.check_misses.specs.Places.{bits_of}
use Rattle.check_misses.specs.Powers.{power}
use Rattle.check_misses.proofs.TurnedOver.{check_turned}
use Rattle.bad_bit.specs.WhichBit.{passes_with}
use Rattle.bad_bit.specs.Table.{is_power}

pub power_test : (body : List ℕ) (place : ℕ) → place < bits_of body → is_power (received body) place ≡ passes_with body place
unfolding passes_with is_power
power_test body place h =
    sym (xor_test (power place) (received body))
    ∙ ap (λ (n : ℕ). eqb n 0) (xor_comm (power place) (received body) ∙ sym (check_turned place body h))
