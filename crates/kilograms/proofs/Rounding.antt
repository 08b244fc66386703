-- Shown: a fraction in a format's normal range, rounded, lies within one part in 2 ^ prec of itself, and keeps its sign.
-- Why: it is rounded to the nearest multiple of a unit, and is at least 2 ^ (prec - 1) units large.
use Prim.Native.Nat.{ℕ, suc, ◌+◌, ◌*◌, ◌-◌, ◌/◌, ◌%◌, ◌^◌, ◌≤◌, ◌<◌, compare}
use mathlib.Core.Path.{◌≡◌, sym, ap, ap₂, ◌∙◌, subst}
use mathlib.Core.Bool.{Bool}
use native.Mathlib.Nat.{mul-pos, mul_assoc, mul_comm, mul_right_comm, mul_left_comm, mul-le-mul_right, mul-le-mul_left, mul-lt-mul_of_pos_right}
use native.Mathlib.Nat.{le-mul_of_pos_right, le_of_mul-le-mul_right, le_trans, le_of_eq, lt_of_le_of_lt, le-div_iff_mul-le, pow-suc}
use native.Mathlib.Omega.{arith}
use lib.Pow.{pow_pos, pow-add}
use lib.Ieee.{Float, nan, inf, fin, Format, prec, emax, low, up, down, size, nearest, units, round}
use lib.Ieee.Digits.{size_reaches}
use lib.Ieee.Exact.{HasValue, units_val}
use lib.Ieee.Fits.{two, two-le_pos, round_is}
use lib.Ieee.Scale.{normal_of_fraction}
use Rattle.kilograms.specs.Within.{apart, Within}
use Rattle.kilograms.proofs.Halves.{apart_scaled, nearest_half}

pub many : (k : ℕ) {m : ℕ} → 0 < m → k ≤ m * k
many k {m} h = le_trans (le-mul_of_pos_right k h) (le_of_eq (mul_comm k m))

-- a float of the size a / d lies within one part of size / scale if that fraction does
within_of_value : (parts : ℕ) (x : Float) (s : Bool) (a d size scale : ℕ) → 0 < d → HasValue x s a d → apart (a * scale) (size * d) * parts ≤ size * d
    → Within parts x s size scale
within_of_value parts nan s a d size scale p v h = v
within_of_value parts (inf t) s a d size scale p v h = v
within_of_value parts (fin t m e) s a d size scale p v h = (v.0, le_of_mul-le-mul_right {k = d} scaled p)
  where
    left : m * up e * scale * d ≡ a * scale * down e
    left = mul_right_comm (m * up e) scale d ∙ ap (λ (x : ℕ). x * scale) v.1 ∙ mul_right_comm a (down e) scale

    right : size * down e * d ≡ size * d * down e
    right = mul_right_comm size (down e) d

    scaled : apart (m * up e * scale) (size * down e) * parts * d ≤ size * down e * d
    scaled =
        le_trans
        (le_of_eq
        (mul_right_comm (apart (m * up e * scale) (size * down e)) parts d
        ∙ ap (λ (x : ℕ). x * parts)
        (apart_scaled (m * up e * scale) (size * down e) d ∙ ap₂ apart left right ∙ sym (apart_scaled (a * scale) (size * d) (down e)))
        ∙ mul_right_comm (apart (a * scale) (size * d)) (down e) parts))
        (le_trans (mul-le-mul_right (down e) h) (le_of_eq (sym right)))

-- the unit is small: a number of p digits or more, in units of which it keeps p digits
units_in : (n den p : ℕ) → 0 < den → 0 < p → p ≤ size (n / den) → 2 ^ (p - 1) * (den * 2 ^ (size (n / den) - p)) ≤ n
units_in n den p D P h =
    let k = size (n / den) - p in
    let reached : 2 ^ (p - 1 + k) ≤ n / den = size_reaches (n / den) (p - 1 + k) (omega arith) in
    let same : 2 ^ (p - 1) * (den * 2 ^ k) ≡ 2 ^ (p - 1 + k) * den =
    ap (λ (x : ℕ). 2 ^ (p - 1) * x) (mul_comm den (2 ^ k)) ∙ sym (mul_assoc (2 ^ (p - 1)) (2 ^ k) den) ∙ ap (λ (x : ℕ). x * den) (sym (pow-add 2 (p - 1) k)) in
    le_trans (le_of_eq same) ((le-div_iff_mul-le D).0 reached)

-- half a unit off, and so many units large
half_of_units : (off u n p : ℕ) → 0 < p → off * 2 ≤ u → 2 ^ (p - 1) * u ≤ n → off * 2 ^ p ≤ n
half_of_units off u n p P half large =
    let doubled : 2 ^ p ≡ 2 ^ (p - 1) * 2 = ap (λ (x : ℕ). 2 ^ x) (one_more p P) ∙ pow-suc 2 (p - 1) in
    let same : off * 2 ^ p ≡ 2 ^ (p - 1) * (off * 2) = ap (λ (x : ℕ). off * x) doubled ∙ mul_left_comm off (2 ^ (p - 1)) 2 in
    le_trans (le_of_eq same) (le_trans (mul-le-mul_left (2 ^ (p - 1)) half) large)
  where
    one_more : (p : ℕ) → 0 < p → p ≡ suc (p - 1)
    one_more p P = omega arith

-- the rounded number of units is in the format's range
module _ (q k den num l t : ℕ) (D : 0 < den) (half : apart (q * (den * 2 ^ k)) (num * 2 ^ l) * 2 ≤ den * 2 ^ k) (small : den * 2 ^ k ≤ num * 2 ^ l)
    (room : num * 2 < 2 ^ t) where
  at_most_twice : (qu u n : ℕ) → apart qu n * 2 ≤ u → u ≤ n → qu ≤ n * 2
  at_most_twice qu u n h s = omega arith

  under : q * 2 ^ k < 2 ^ (l + t)
  under =
      let whole : q * 2 ^ k ≤ q * (den * 2 ^ k) = mul-le-mul_left q (many (2 ^ k) D) in
      let twice : q * (den * 2 ^ k) ≤ num * 2 ^ l * 2 = at_most_twice (q * (den * 2 ^ k)) (den * 2 ^ k) (num * 2 ^ l) half small in
      lt_of_le_of_lt (le_trans whole twice)
      (rw (mul_right_comm num (2 ^ l) 2, pow-add 2 l t, mul_comm (2 ^ l) (2 ^ t)) (mul-lt-mul_of_pos_right room (pow_pos l)))

pub round_within : (f : Format) (s : Bool) (num den : ℕ) → 0 < den → num * 2 < 2 ^ suc (emax f) → 2 ^ (prec f - 1) * den ≤ num * 2 ^ low f
    → Within (2 ^ prec f) (round f s num den) s num den
round_within f s num den D room enough =
    let n = num * 2 ^ low f in
    let k = size (n / den) - prec f in
    let u = den * 2 ^ k in
    let q = nearest (n / u) (compare (n % u * 2) u) in
    let P : 0 < prec f = two-le_pos (prec f) (two f) in
    let large : 2 ^ (prec f - 1) * u ≤ n = units_in n den (prec f) D P (normal_of_fraction f num den D enough) in
    let half : apart (q * u) n * 2 ≤ u = nearest_half n u (mul-pos D (pow_pos k)) in
    let close : apart (q * u) n * 2 ^ prec f ≤ n = half_of_units (apart (q * u) n) u n (prec f) P half large in
    let small : u ≤ n = le_trans (many u (pow_pos (prec f - 1))) large in
    let same : q * u ≡ q * 2 ^ k * den = ap (λ (x : ℕ). q * x) (mul_comm den (2 ^ k)) ∙ sym (mul_assoc q (2 ^ k) den) in
    subst (λ (x : Float). Within (2 ^ prec f) x s num den) (sym (round_is f s num den))
    (within_of_value (2 ^ prec f) (units f s q k) s (q * 2 ^ k) (2 ^ low f) num den (pow_pos (low f))
    (units_val f s q k (under q k den num (low f) (suc (emax f)) D half small room))
    (subst (λ (x : ℕ). apart x n * 2 ^ prec f ≤ n) same close))
