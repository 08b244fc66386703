-- Shown: the promise of `kilograms_of` admits one answer.
-- Why: it is an equation with a definition, so two answers that meet it are equal by way of that definition.
use Rattle.std.specs.Prelude.{Result, Float}
use mathlib.Core.Path.{◌≡◌}
use Rattle.laws.proofs.OneAnswer.{one}
use Rattle.weight.specs.declared.Reading.{Reading}
use Rattle.kilograms.specs.Rounded.{kilograms_of}
use Rattle.refusal.specs.declared.Refusal.{Refusal}

pub kilograms_of_one : (reading : Reading) (a b : Result Float Refusal) → a ≡ kilograms_of reading → b ≡ kilograms_of reading → a ≡ b
kilograms_of_one reading a b = one
