-- Shown: a size and a count, both divided by what is common to both, have no common divisor, and only they are such a fraction of that value.
-- Why: a common divisor of the parts, times the greatest of the whole, is not above the greatest; and a fraction's factor is its greatest common divisor.
use Prim.Native.Nat.{ℕ, ◌*◌, ◌/◌, ◌≤◌, ◌<◌, ◌∣◌}
use mathlib.Core.Path.{◌≡◌, ◌∙◌, sym, ap, subst}
use native.Mathlib.Nat.{one-dvd, dvd-mul_right, mul-dvd-mul_right, pos_of_dvd_of_pos, le_antisymm, le_of_eq, le_of_mul-le-mul_right, div-mul_cancel, mul-div_cancel, mul-div_assoc, div-eq_of_eq-mul_left, div-eq_of_eq-mul_right, one-mul, mul_comm, mul_assoc}
use Rattle.hour_mean.specs.Means.{greatest_common}
use Rattle.hour_mean.proofs.Greatest.{greatest_common_lem, greatest_most, greatest_positive, is_greatest, scaled}

module _ (size count : ℕ) (some : 0 < count) where
  abbrev g : ℕ
  g = greatest_common size count

  size_whole : size / g * g ≡ size
  size_whole = div-mul_cancel g (greatest_common_lem size count).of_size

  count_whole : count / g * g ≡ count
  count_whole = div-mul_cancel g (greatest_common_lem size count).of_count

  pub lower_positive : 0 < count / g
  lower_positive = pos_of_dvd_of_pos (subst (λ (n : ℕ). count / g ∣ n) count_whole (dvd-mul_right (count / g) g)) some

  -- the parts make the same fraction
  pub cross : size / g * count ≡ size * (count / g)
  cross =
      mul_comm (size / g) count ∙ sym (mul-div_assoc g count (greatest_common_lem size count).of_size) ∙ ap (λ (n : ℕ). n / g) (mul_comm count size)
      ∙ mul-div_assoc g size (greatest_common_lem size count).of_count

  -- and have nothing in common
  pub nothing_common : (part : ℕ) → part ∣ size / g → part ∣ count / g → part ≡ 1
  nothing_common part of_upper of_lower =
      let most : part * g ≤ g = greatest_most size count (part * g) some (record {
        of_size = subst (λ (n : ℕ). part * g ∣ n) size_whole (mul-dvd-mul_right part of_upper g);
        of_count = subst (λ (n : ℕ). part * g ∣ n) count_whole (mul-dvd-mul_right part of_lower g);
      })
      in
      le_antisymm (le_of_mul-le-mul_right (rw one-mul most) (greatest_positive size count some)) (pos_of_dvd_of_pos of_lower lower_positive)

  -- another fraction of that value, with nothing in common
  module _ (upper lower : ℕ) (positive : 0 < lower) (same : upper * count ≡ size * lower)
      (nothing : (part : ℕ) → part ∣ upper → part ∣ lower → part ≡ 1) where
    one_common : greatest_common upper lower ≡ 1
    one_common =
        is_greatest upper lower 1 positive (record { of_size = one-dvd upper; of_count = one-dvd lower })
        (λ part common. le_of_eq (nothing part common.of_size common.of_count))

    count_is : count ≡ g * lower
    count_is =
        sym (one-mul count) ∙ ap (λ (n : ℕ). n * count) (sym one_common) ∙ sym (scaled upper lower count positive some)
        ∙ rw (same, mul_comm lower count) (scaled size count lower some positive)

    size_is : size ≡ upper * g
    size_is =
        sym (mul-div_cancel size positive) ∙ ap (λ (n : ℕ). n / lower) (sym same ∙ ap (λ (n : ℕ). upper * n) count_is ∙ sym (mul_assoc upper g lower))
        ∙ mul-div_cancel (upper * g) positive

    pub only_upper : upper ≡ size / g
    only_upper = sym (div-eq_of_eq-mul_left (greatest_positive size count some) size_is)

    pub only_lower : lower ≡ count / g
    only_lower = sym (div-eq_of_eq-mul_right (greatest_positive size count some) count_is)
