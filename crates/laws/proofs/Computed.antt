-- Shown: a test that passes when it is computed at every number below a bound holds of each of them.
-- Why: a number below the bound is one of those at which it was computed.
use Prim.Native.Nat.{ℕ, zero, suc, ◌<◌}
use mathlib.Core.Path.{◌≡◌, subst⁻¹}
use mathlib.Core.Bool.{Bool, true, ◌&&◌}
use mathlib.Core.Logic.{⊎_elim}
use native.Mathlib.Nat.{not-suc-le-zero, le_of_suc-le-suc, eq-or-lt_of_le}
use lib.Dec.{T}
use lib.Ieee.Fits.{and_l, and_r}

-- the test f passes at each number below n
abbrev pub every : (ℕ → Bool) → ℕ → Bool
every f zero = true
every f (suc n) = every f n && f n

pub below : (f : ℕ → Bool) (n : ℕ) → T (every f n) → (k : ℕ) → k < n → T (f k)
below f zero t k h = absurd (not-suc-le-zero h)
below f (suc n) t k h =
    ⊎_elim (λ (e : k ≡ n). subst⁻¹ (λ (m : ℕ). T (f m)) e (and_r (every f n) (f n) t)) (λ (l : k < n). below f n (and_l (every f n) (f n) t) k l)
    (eq-or-lt_of_le (le_of_suc-le-suc h))
