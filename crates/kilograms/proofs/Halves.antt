-- Shown: a quotient rounded to the nearest whole number is at most half a unit off, and distances scale with their numbers.
-- Why: what is rounded down has a remainder of at most a half, what is rounded up one of at least a half.
use Prim.Native.Nat.{ℕ, zero, suc, ◌+◌, ◌*◌, ◌-◌, ◌/◌, ◌%◌, ◌≤◌, ◌<◌, compare, Ordering}
use mathlib.Core.Path.{◌≡◌, refl, ap₂, ◌∙◌, subst}
use mathlib.Core.Bool.{not}
use native.Mathlib.Nat.{add-zero, add-mul, one-mul, mul_comm, mul-sub, mod-lt, div-add-mod'}
use native.Mathlib.Numerals.{add-one}
use native.Mathlib.Omega.{arith}
use lib.Dec.{T, is_le, compare_is_eq, leb→le, nleb→lt, eqb→eq}
use lib.Ieee.{nearest}
use Rattle.kilograms.specs.Within.{apart}

less_scaled : (a b c : ℕ) → (a - b) * c ≡ a * c - b * c
less_scaled a b c = mul_comm (a - b) c ∙ mul-sub c a b ∙ ap₂ ◌-◌ (mul_comm c a) (mul_comm c b)

pub apart_scaled : (a b c : ℕ) → apart a b * c ≡ apart (a * c) (b * c)
apart_scaled a b c = add-mul (a - b) (b - a) c ∙ ap₂ ◌+◌ (less_scaled a b c) (less_scaled b a c)

-- below is w units; the true place is r above it, in a unit of u
down_half : (below r u : ℕ) → r * 2 ≤ u → apart below (below + r) * 2 ≤ u
down_half below r u h = omega arith

up_half : (below r u : ℕ) → u ≤ r * 2 → r < u → apart (below + u) (below + r) * 2 ≤ u
up_half below r u h l = omega arith

-- w units and then none or one more, as the remainder says
step_half : (w step r u : ℕ) → step ≤ 1 → (step ≡ 0 → r * 2 ≤ u) → (step ≡ 1 → u ≤ r * 2) → r < u → apart ((w + step) * u) (w * u + r) * 2 ≤ u
step_half w zero r u s lower upper l = rw (add-zero w) (down_half (w * u) r u (lower refl))
step_half w (suc zero) r u s lower upper l = rw (add-mul w 1 u, one-mul u) (up_half (w * u) r u (upper refl) l)
step_half w (suc (suc step)) r u s lower upper l = absurd (omega arith)

-- what the order of twice the remainder and the unit says of the step
by_order : (o : Ordering) (w r u : ℕ) → (T (is_le o) → r * 2 ≤ u) → (T (not (is_le o)) → u < r * 2) → (T (compare_is_eq o) → r * 2 ≡ u) → r < u
    → apart (nearest w o * u) (w * u + r) * 2 ≤ u
by_order Ordering.lt w r u le gt eq l = down_half (w * u) r u (le tt)
by_order Ordering.eq w r u le gt eq l = let e : r * 2 ≡ u = eq tt in step_half w (w % 2) r u (omega arith) (λ z. omega arith) (λ z. omega arith) l
by_order Ordering.gt w r u le gt eq l =
    let h : u < r * 2 = gt tt in
    rw (← add-one, add-mul w 1 u, one-mul u) (up_half (w * u) r u (omega arith) l)

pub nearest_half : (n u : ℕ) → 0 < u → apart (nearest (n / u) (compare (n % u * 2) u) * u) n * 2 ≤ u
nearest_half n u h =
    subst (λ (m : ℕ). apart (nearest (n / u) (compare (n % u * 2) u) * u) m * 2 ≤ u) (div-add-mod' n u)
    (by_order (compare (n % u * 2) u) (n / u) (n % u) u (leb→le (n % u * 2) u) (nleb→lt (n % u * 2) u) (eqb→eq (n % u * 2) u) (mod-lt n h))
