-- Shown: `lowest` is the sum over the count, multiplied across with the sign, and a fraction that is so has the sign of the sum.
-- Why: a product with a positive number keeps the sign and multiplies the sizes, case by case of the sign.
use Prim.Native.Nat.{ℕ, zero, suc, ◌*◌, ◌<◌}
use mathlib.Core.Path.{◌≡◌, refl, sym}
use native.Mathlib.Nat.{zero-mul, mul-pos, zero-lt-suc}
use native.Mathlib.Omega.{arith}
use lib.IntN.{ℤ, pos, negsuc, neg_ℤ, nat_abs, ◌*ℤ◌, pos-ne-negsuc}
use Rattle.hour_mean.specs.Means.{signed_as}

abs_negated : (n : ℕ) → nat_abs (neg_ℤ (pos n)) ≡ n
abs_negated zero = refl
abs_negated (suc n) = refl

pub abs_signed : (sum : ℤ) (size : ℕ) → nat_abs (signed_as sum size) ≡ size
abs_signed (pos n) size = refl
abs_signed (negsuc n) size = abs_negated size

pub abs_times : (a : ℤ) (n : ℕ) → nat_abs (a *ℤ pos n) ≡ nat_abs a * n
abs_times (pos a) n = refl
abs_times (negsuc a) n = abs_negated (suc a * n)

pub signed_times : (sum : ℤ) (size n : ℕ) → signed_as sum size *ℤ pos n ≡ signed_as sum (size * n)
signed_times (pos sum) size n = refl
signed_times (negsuc sum) zero n = rw zero-mul
signed_times (negsuc sum) (suc size) n = refl

pub signed_whole : (sum : ℤ) → signed_as sum (nat_abs sum) ≡ sum
signed_whole (pos n) = refl
signed_whole (negsuc n) = refl

negative : (m n : ℕ) → 0 < m → neg_ℤ (pos m) ≡ pos n → ⊥
negative zero n some e = omega arith
negative (suc m) n some e = pos-ne-negsuc n m (sym e)

-- a fraction of a sum has its sign
pub sign_is :
    (upper sum : ℤ) (count lower : ℕ) → 0 < count → 0 < lower → upper *ℤ pos count ≡ sum *ℤ pos lower → upper ≡ signed_as sum (nat_abs upper)
sign_is (pos a) (pos s) count lower some positive same = refl
sign_is (pos a) (negsuc s) count lower some positive same = absurd (negative (suc s * lower) (a * count) (mul-pos (zero-lt-suc s) positive) (sym same))
sign_is (negsuc a) (pos s) count lower some positive same = absurd (negative (suc a * count) (s * lower) (mul-pos (zero-lt-suc a) some) same)
sign_is (negsuc a) (negsuc s) count lower some positive same = refl
