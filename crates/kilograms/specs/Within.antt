-- 01, "Weight": "The float, taken as the exact binary fraction it is, lies within one part in 2^53 of the true weight, written as an
-- inequality of whole numbers; value 0 gives plus zero."
use Rattle.std.specs.Prelude.{ℕ, ◌+◌, ◌*◌, ◌-◌, ◌^◌, ◌≤◌, ◌≡◌, Bool, ℤ, nat_abs, Float}
use Rattle.std.specs.Float.{nan, inf, fin}
use Rattle.std.specs.Float.Ieee.{up, down}
use Rattle.kilograms.specs.Rounded.{negative, per_kilogram}

-- how far two numbers are apart
abbrev pub apart : ℕ → ℕ → ℕ
apart a b = (a - b) + (b - a)

-- A float m · 2^e is the fraction m · up e / down e. It has the sign, and it lies within one part in so many of size / scale. For this
-- both fractions are brought over the denominator scale · down e.
abbrev pub Within : ℕ → Float → Bool → ℕ → ℕ → Type 0
Within parts nan sign size scale = ⊥
Within parts (inf s) sign size scale = ⊥
Within parts (fin s m e) sign size scale = (s ≡ sign) × (apart (m * up e * scale) (size * down e) * parts ≤ size * down e)

-- the true weight is the value over 10,000,000
abbrev pub NearTrueWeight : ℤ → Float → Type 0
NearTrueWeight value float = Within (2 ^ 53) float (negative value) (nat_abs value) per_kilogram
