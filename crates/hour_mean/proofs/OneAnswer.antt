-- Shown: the promise of this crate admits one answer.
-- Why: it is an equation with a definition.
use Rattle.std.specs.Prelude.{Result, Option}
use mathlib.Core.Path.{◌≡◌}
use Rattle.laws.proofs.OneAnswer.{one}
use Rattle.hour_cell.specs.declared.cells.Cell.{Cell}
use Rattle.hour_mean.specs.Means.{mean_of}
use Rattle.hour_mean.specs.declared.Fraction.{Fraction}
use Rattle.refusal.specs.declared.Refusal.{Refusal}

pub mean_of_one : (cell : Cell) (a b : Result (Option Fraction) Refusal) → a ≡ mean_of cell → b ≡ mean_of cell → a ≡ b
mean_of_one cell a b = one
