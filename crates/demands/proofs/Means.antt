-- Shown: a cell with weights has a mean, the sum over the count in lowest terms, and no other fraction is; sum 0, no weights, and a sum beyond.
-- Why: both numbers are divided by their greatest common divisor, and a fraction in lowest terms is known by its value.
use Rattle.std.specs.Prelude.{Ok, Some}
use Prim.Native.Nat.{ℕ, ◌/◌, ◌*◌, ◌<◌, zero-le}
use mathlib.Core.Path.{◌≡◌, ◌∙◌, refl, sym, ap}
use native.Mathlib.Nat.{zero-mul, eq-one_of_dvd-one}
use native.Mathlib.Omega.{arith}
use lib.Dec.{lit<}
use lib.IntN.{ℤ, pos, nat_abs, ◌*ℤ◌}
use Rattle.std.proofs.lemmas.Grind.{common_steps}
use Rattle.hour_cell.specs.declared.cells.Cell.{Cell}
use Rattle.hour_cell.specs.Cells.{sound}
use Rattle.hour_mean.specs.declared.Fraction.{Fraction}
use Rattle.hour_mean.specs.Means.{greatest_common, signed_as, lowest, mean_of}
use Rattle.hour_mean.proofs.Lowest.{lower_positive, cross, nothing_common, only_upper, only_lower}
use Rattle.hour_mean.proofs.Signs.{abs_signed, abs_times, signed_times, signed_whole, sign_is}
use Rattle.demands.specs.Means.{LowestTerms, NotBeyond, WeightsHaveAMean, OnlyFraction, ZeroOverOne, NoWeightsNoReadings, BeyondIsRefused}

answered : (cell : Cell) → NotBeyond cell → 0 < cell.weights → mean_of cell ≡ Ok (Some (lowest cell.sum cell.weights))
unfolding mean_of sound
answered cell within some = grind (arith, common_steps)

lowest_terms : (sum : ℤ) (count : ℕ) → 0 < count → LowestTerms sum count (lowest sum count)
unfolding lowest
lowest_terms sum count some = record {
  equal =
      signed_times sum _ count ∙ ap (signed_as sum) (cross (nat_abs sum) count some) ∙ sym (signed_times sum (nat_abs sum) _)
      ∙ ap (λ (z : ℤ). z *ℤ pos (count / greatest_common (nat_abs sum) count)) (signed_whole sum);
  positive = refl;
  not_zero = lower_positive (nat_abs sum) count some;
  no_common = rw abs_signed (nothing_common (nat_abs sum) count some);
}

pub weights_have_a_mean : WeightsHaveAMean
weights_have_a_mean cell within some =
    record { fraction = lowest cell.sum cell.weights; answered = answered cell within some; lowest = lowest_terms cell.sum cell.weights some }

only_lowest : (sum : ℤ) (count : ℕ) (fraction : Fraction) → 0 < count → LowestTerms sum count fraction → lowest sum count ≡ fraction
unfolding lowest
only_lowest sum count fraction some terms =
    let lower : ℕ = nat_abs fraction.lower in
    let same : fraction.upper *ℤ pos count ≡ sum *ℤ pos lower = terms.equal ∙ ap (λ (z : ℤ). sum *ℤ z) terms.positive in
    let sizes : nat_abs fraction.upper * count ≡ nat_abs sum * lower = sym (abs_times fraction.upper count) ∙ ap nat_abs same ∙ abs_times sum lower in
    let upper_is = only_upper (nat_abs sum) count some (nat_abs fraction.upper) lower terms.not_zero sizes terms.no_common in
    let lower_is = only_lower (nat_abs sum) count some (nat_abs fraction.upper) lower terms.not_zero sizes terms.no_common in
    let above = sign_is fraction.upper sum count lower some terms.not_zero same ∙ ap (signed_as sum) upper_is in
    let below = terms.positive ∙ ap pos lower_is in
    λ i. record { upper = sym above i; lower = sym below i }

pub only_fraction : OnlyFraction
only_fraction cell fraction within some terms = grind (arith, common_steps, answered, only_lowest)

pub zero_over_one : ZeroOverOne
zero_over_one cell some none =
    only_fraction cell (record { upper = pos 0; lower = pos 1 }) (rw none zero-le) some
    (record {
      equal = rw (none, zero-mul cell.weights);
      positive = refl;
      not_zero = lit< tt;
      no_common = λ part of_upper of_lower. eq-one_of_dvd-one of_lower;
    })

pub no_weights_no_readings : NoWeightsNoReadings
unfolding mean_of sound
no_weights_no_readings cell no_weights none = rw (none, no_weights)

pub beyond_is_refused : BeyondIsRefused
unfolding mean_of sound
beyond_is_refused cell beyond = grind (arith, common_steps)
