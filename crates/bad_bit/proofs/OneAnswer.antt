-- Shown: the promise of this crate admits one answer.
-- Why: it is an equation with a definition.
use Rattle.std.specs.Prelude.{Result, Option}
use Prim.Native.Nat.{ℕ}
use mathlib.Core.Path.{◌≡◌}
use mathlib.Core.List.{List}
use Rattle.laws.proofs.OneAnswer.{one}
use Rattle.bad_bit.specs.WhichBit.{finding}
use Rattle.bad_bit.specs.declared.BitPlace.{BitPlace}
use Rattle.refusal.specs.declared.Refusal.{Refusal}

pub find_one : (body : List ℕ) (a b : Result (Option BitPlace) Refusal) → a ≡ finding body → b ≡ finding body → a ≡ b
find_one body a b = one
