-- 02, request 6: "The mean is a fraction in lowest terms with a positive lower number; sum 0 gives 0 over 1; a cell with no weights answers "no
-- readings" and never a zero." "31 first".
use Rattle.std.specs.Prelude.{ℕ, zero, suc, ◌/◌, ◌%◌, Bool, cond, ◌&&◌, eqb, ℤ, pos, negsuc, neg_ℤ, nat_abs, Result, Ok, Err, Option, Some, None}
use Rattle.refusal.specs.declared.Refusal.TheVariants.{SumBeyond}
use Rattle.hour_cell.specs.declared.cells.Cell.{Cell}
use Rattle.hour_cell.specs.Cells.{sound}
use Rattle.hour_mean.specs.declared.Fraction.{Fraction}
use Rattle.refusal.specs.declared.Refusal.{Refusal}

-- a number divides another without a remainder
abbrev pub divides : ℕ → ℕ → Bool
divides part whole = eqb (whole % part) 0

-- the greatest number up to a most that divides both; 1 divides every number
unfoldable pub greatest_up_to : ℕ → ℕ → ℕ → ℕ
greatest_up_to zero size count = 1
greatest_up_to (suc below) size count = cond (divides (suc below) size && divides (suc below) count) (suc below) (greatest_up_to below size count)

-- the greatest that divides both: none is above the count, which is not 0
unfoldable pub greatest_common : ℕ → ℕ → ℕ
greatest_common size count = greatest_up_to count size count

-- a size with the sign of a sum
abbrev pub signed_as : ℤ → ℕ → ℤ
signed_as (pos sum) size = pos size
signed_as (negsuc sum) size = neg_ℤ (pos size)

-- a sum over a count, both divided by what is common to both
unfoldable pub lowest : ℤ → ℕ → Fraction
lowest sum count = record {
  upper = signed_as sum (nat_abs sum / greatest_common (nat_abs sum) count);
  lower = pos (count / greatest_common (nat_abs sum) count);
}

-- 31 first; "a cell with no weights answers "no readings""
unfoldable pub mean_of : Cell → Result (Option Fraction) Refusal
mean_of cell =
    cond (sound cell)
    (cond (eqb cell.weights 0) (Ok None) (Ok (Some (lowest cell.sum cell.weights))))
    (Err SumBeyond)
