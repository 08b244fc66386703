-- 02, request 6: "The mean is a fraction in lowest terms with a positive lower number; sum 0 gives 0 over 1; a cell with no weights answers "no
-- readings" and never a zero."
use Rattle.std.specs.Prelude.{ℕ, ◌*◌, ◌≤◌, ◌<◌, ◌≡◌, ℤ, pos, nat_abs, ◌*ℤ◌, Ok, Err, Some, None}
use Rattle.std.specs.Int.{◌∣◌}
use Rattle.refusal.specs.declared.Refusal.TheVariants.{SumBeyond}
use Rattle.hour_cell.specs.declared.cells.Cell.{Cell}
use Rattle.hour_mean.specs.declared.Fraction.{Fraction}
use Rattle.hour_mean.specs.Means.{mean_of}

-- a fraction in lowest terms that is a sum over a count: multiplied across, in whole numbers
pub record LowestTerms (sum : ℤ) (count : ℕ) (fraction : Fraction) : Type 0 where
  pub equal : fraction.upper *ℤ pos count ≡ sum *ℤ fraction.lower
  pub positive : fraction.lower ≡ pos (nat_abs fraction.lower)
  pub not_zero : 0 < nat_abs fraction.lower
  pub no_common : (part : ℕ) → part ∣ nat_abs fraction.upper → part ∣ nat_abs fraction.lower → part ≡ 1

-- the sum of a cell is not beyond its count times 9,999,990,000,000, sign aside
abbrev pub NotBeyond : Cell → Type 0
NotBeyond cell = nat_abs cell.sum ≤ cell.weights * 9999990000000

-- a cell with weights has the mean of its sum and its count, in lowest terms
pub record HasMean (cell : Cell) : Type 0 where
  pub fraction : Fraction
  pub answered : mean_of cell ≡ Ok (Some fraction)
  pub lowest : LowestTerms cell.sum cell.weights fraction

abbrev pub WeightsHaveAMean : Type 0
WeightsHaveAMean = (cell : Cell) → NotBeyond cell → 0 < cell.weights → HasMean cell

-- and any fraction in lowest terms of that value with a positive lower number is this one
abbrev pub OnlyFraction : Type 0
OnlyFraction =
    (cell : Cell) (fraction : Fraction) → NotBeyond cell → 0 < cell.weights → LowestTerms cell.sum cell.weights fraction
    → mean_of cell ≡ Ok (Some fraction)

-- "sum 0 gives 0 over 1"
abbrev pub ZeroOverOne : Type 0
ZeroOverOne = (cell : Cell) → 0 < cell.weights → cell.sum ≡ pos 0 → mean_of cell ≡ Ok (Some (record { upper = pos 0; lower = pos 1 }))

-- "no readings", and never a zero, for a cell with no weights; a sum without weights is 31
abbrev pub NoWeightsNoReadings : Type 0
NoWeightsNoReadings = (cell : Cell) → cell.weights ≡ 0 → cell.sum ≡ pos 0 → mean_of cell ≡ Ok None

abbrev pub BeyondIsRefused : Type 0
BeyondIsRefused = (cell : Cell) → (NotBeyond cell → ⊥) → mean_of cell ≡ Err SumBeyond
