-- Shown: the promise of this crate admits one answer.
-- Why: it is an equation with a definition.
use Prim.Native.Nat.{ℕ}
use mathlib.Core.Path.{◌≡◌}
use mathlib.Core.List.{List}
use Rattle.laws.proofs.OneAnswer.{one}
use Rattle.parcel_check.specs.Check.{parcel_check}

pub check_of_one : (body : List ℕ) (a b : ℕ) → a ≡ parcel_check body → b ≡ parcel_check body → a ≡ b
check_of_one body a b = one
