-- Shown: `greatest_common` divides both and no common divisor is above it; it is Euclid's, whose remainder falls; and it grows with a common factor.
-- Why: the search goes down from the count, which no divisor of the count passes, and dividing keeps the common divisors.
use Prim.Native.Nat.{ℕ, zero, suc, ◌+◌, ◌*◌, ◌/◌, ◌%◌, ◌≤◌, ◌<◌, ◌∣◌}
use mathlib.Core.Path.{◌≡◌, ◌∙◌, refl, sym, ap, subst}
use mathlib.Core.Bool.{Bool, true, false, true≢false, cond, ◌&&◌, and-eq-true_iff}
use native.Mathlib.Nat.{one-dvd, dvd_refl, dvd-mod_iff, le_of_dvd, le_antisymm, eq-or-lt_of_le, le_of_suc-le-suc, mod-eq-zero_of_dvd, dvd_of_mod-eq-zero, eq-zero-or-pos, pos_of_dvd_of_pos, mod-lt, mod-eq_of_lt, div-add-mod', add-mul, zero-mul, mul_assoc, mul-add-mod_self_right, mul-lt-mul_of_pos_right, mul-pos}
use native.Mathlib.Omega.{arith}
use mathlib.Core.Logic.{⊎_elim}
use borrow.Author.Tests.{eqb-true, eq-eqb}
use Rattle.hour_mean.specs.Means.{divides, greatest_up_to, greatest_common}

-- a number that divides two others
pub record Common (part size count : ℕ) : Type 0 where
  pub of_size : part ∣ size
  pub of_count : part ∣ count

-- the test of the search
both : (part size count : ℕ) → Common part size count → (divides part size && divides part count) ≡ true
both part size count common =
    (and-eq-true_iff (divides part size) (divides part count)).1
    (eq-eqb (size % part) 0 (mod-eq-zero_of_dvd part common.of_size), eq-eqb (count % part) 0 (mod-eq-zero_of_dvd part common.of_count))

both_told : (part size count : ℕ) → (divides part size && divides part count) ≡ true → Common part size count
both_told part size count e =
    let told = (and-eq-true_iff (divides part size) (divides part count)).0 e in
    record { of_size = dvd_of_mod-eq-zero part (eqb-true _ _ told.0); of_count = dvd_of_mod-eq-zero part (eqb-true _ _ told.1) }

either : (P : ℕ → Type 0) (test : Bool) (x y : ℕ) → (test ≡ true → P x) → (test ≡ false → P y) → P (cond test x y)
either P true x y yes_so no_so = yes_so refl
either P false x y yes_so no_so = no_so refl

-- ---- the search

up_to_common : (most size count : ℕ) → Common (greatest_up_to most size count) size count
unfolding greatest_up_to
up_to_common zero size count = record { of_size = one-dvd size; of_count = one-dvd count }
up_to_common (suc below) size count =
    either (λ (g : ℕ). Common g size count) (divides (suc below) size && divides (suc below) count) (suc below) (greatest_up_to below size count)
    (both_told (suc below) size count) (λ _. up_to_common below size count)

up_to_most : (most size count part : ℕ) → Common part size count → part ≤ most → part ≤ greatest_up_to most size count
unfolding greatest_up_to
up_to_most zero size count part common h = omega arith
up_to_most (suc below) size count part common h =
    either (λ (g : ℕ). part ≤ g) (divides (suc below) size && divides (suc below) count) (suc below) (greatest_up_to below size count) (λ _. h)
    (λ (e : (divides (suc below) size && divides (suc below) count) ≡ false). ⊎_elim
    (λ (same : part ≡ suc below). absurd (true≢false (sym (both (suc below) size count (subst (λ (p : ℕ). Common p size count) same common)) ∙ e)))
    (λ (less : part < suc below). up_to_most below size count part common (le_of_suc-le-suc less)) (eq-or-lt_of_le h))

-- ---- the greatest

pub greatest_common_lem : (size count : ℕ) → Common (greatest_common size count) size count
unfolding greatest_common
greatest_common_lem size count = up_to_common count size count

pub greatest_most : (size count part : ℕ) → 0 < count → Common part size count → part ≤ greatest_common size count
unfolding greatest_common
greatest_most size count part h common = up_to_most count size count part common (le_of_dvd h common.of_count)

pub greatest_positive : (size count : ℕ) → 0 < count → 0 < greatest_common size count
greatest_positive size count h = pos_of_dvd_of_pos (greatest_common_lem size count).of_count h

-- what divides both and is not below any that does
pub is_greatest :
    (size count g : ℕ) → 0 < count → Common g size count → ((part : ℕ) → Common part size count → part ≤ g) → greatest_common size count ≡ g
is_greatest size count g h common most =
    le_antisymm (most (greatest_common size count) (greatest_common_lem size count)) (greatest_most size count g h common)

-- ---- Euclid

pub euclid_ends : (size count : ℕ) → 0 < count → size % count ≡ 0 → greatest_common size count ≡ count
euclid_ends size count h none =
    is_greatest size count count h (record { of_size = dvd_of_mod-eq-zero count none; of_count = dvd_refl count })
    (λ part common. le_of_dvd h common.of_count)

pub euclid_goes_on : (size count : ℕ) → 0 < count → 0 < size % count → greatest_common size count ≡ greatest_common count (size % count)
euclid_goes_on size count h left =
    let g : ℕ = greatest_common count (size % count) in
    let common : Common g count (size % count) = greatest_common_lem count (size % count) in
    is_greatest size count g h
    (record { of_size = (dvd-mod_iff g {m = size} {n = count} common.of_size).0 common.of_count; of_count = common.of_size })
    (λ part shared. greatest_most count (size % count) part left
    (record { of_size = shared.of_count; of_count = (dvd-mod_iff part {m = size} {n = count} shared.of_count).1 shared.of_size }))

-- ---- a common factor

scaled_left : (size count factor : ℕ) → 0 < count → 0 < factor → size * factor % (count * factor) ≡ size % count * factor
scaled_left size count factor h f =
    let whole : size * factor ≡ size / count * (count * factor) + size % count * factor =
    ap (λ (n : ℕ). n * factor) (sym (div-add-mod' size count)) ∙ add-mul (size / count * count) (size % count) factor
    ∙ ap (λ (n : ℕ). n + size % count * factor) (mul_assoc (size / count) count factor)
    in
    ap (λ (n : ℕ). n % (count * factor)) whole ∙ mul-add-mod_self_right (size / count) (count * factor) (size % count * factor)
    ∙ mod-eq_of_lt (mul-lt-mul_of_pos_right (mod-lt size h) f)

scaled_below : (most size count factor : ℕ) → count ≤ most → 0 < count → 0 < factor
    → greatest_common (size * factor) (count * factor) ≡ greatest_common size count * factor
scaled_below zero size count factor b h f = absurd (omega arith)
scaled_below (suc most) size count factor b h f =
    ⊎_elim
    (λ (none : size % count ≡ 0). euclid_ends (size * factor) (count * factor) (mul-pos h f)
    (scaled_left size count factor h f ∙ ap (λ (n : ℕ). n * factor) none ∙ zero-mul factor)
    ∙ ap (λ (n : ℕ). n * factor) (sym (euclid_ends size count h none)))
    (λ (left : 0 < size % count). let less : size % count < count = mod-lt size h in
    let same = scaled_left size count factor h f in
    euclid_goes_on (size * factor) (count * factor) (mul-pos h f) (subst (λ (n : ℕ). 0 < n) (sym same) (mul-pos left f))
    ∙ ap (greatest_common (count * factor)) same ∙ scaled_below most count (size % count) factor (omega arith) left f
    ∙ ap (λ (n : ℕ). n * factor) (sym (euclid_goes_on size count h left)))
    (eq-zero-or-pos (size % count))

pub scaled : (size count factor : ℕ) → 0 < count → 0 < factor
    → greatest_common (size * factor) (count * factor) ≡ greatest_common size count * factor
scaled size count factor h f = scaled_below count size count factor (omega arith) h f
