-- Shown: each promise of this crate admits one answer.
-- Why: each is an equation with a definition.
use Rattle.std.specs.Prelude.{Result, ℤ, Float}
use mathlib.Core.Path.{◌≡◌}
use Rattle.laws.proofs.OneAnswer.{one}
use Rattle.refusal.specs.declared.Refusal.{Refusal}
use Rattle.weight.specs.declared.FourBytes.{FourBytes}
use Rattle.weight.specs.declared.Reading.{Reading}
use Rattle.weight.specs.Bytes.{read_of}
use Rattle.quay_weight.specs.declared.weights.QuayReading.{QuayReading}
use Rattle.quay_weight.specs.declared.weights.QuayValue.{QuayValue}
use Rattle.quay_weight.specs.declared.weights.QuayKilograms.{QuayKilograms}
use Rattle.quay_weight.specs.Weights.{reading_out, value_out, value_read, difference_read, kilograms_out, kilograms_read}

module _ (weight : FourBytes) where
  pub quay_read_weight_one : (a b : QuayReading) → a ≡ reading_out (read_of weight)
      → b ≡ reading_out (read_of weight) → a ≡ b
  quay_read_weight_one a b = one

  pub quay_value_one : (a b : QuayValue) → a ≡ value_out (value_read (read_of weight))
      → b ≡ value_out (value_read (read_of weight)) → a ≡ b
  quay_value_one a b = one

  pub quay_kilograms_one : (a b : QuayKilograms) → a ≡ kilograms_out (kilograms_read (read_of weight))
      → b ≡ kilograms_out (kilograms_read (read_of weight)) → a ≡ b
  quay_kilograms_one a b = one

  pub quay_difference_one : (net : FourBytes) (a b : QuayValue)
      → a ≡ value_out (difference_read (read_of weight) (read_of net))
      → b ≡ value_out (difference_read (read_of weight) (read_of net)) → a ≡ b
  quay_difference_one net a b = one

-- of the conversions

pub reading_out_one : (read : Result Reading Refusal) (a b : QuayReading) → a ≡ reading_out read → b ≡ reading_out read → a ≡ b
reading_out_one read a b = one

pub value_out_one : (value : Result ℤ Refusal) (a b : QuayValue) → a ≡ value_out value → b ≡ value_out value → a ≡ b
value_out_one value a b = one

pub kilograms_out_one : (weighed : Result Float Refusal) (a b : QuayKilograms) → a ≡ kilograms_out weighed → b ≡ kilograms_out weighed → a ≡ b
kilograms_out_one weighed a b = one
