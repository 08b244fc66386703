-- Shown: each promise of this crate admits one answer.
-- Why: each is an equation with a definition.
use Rattle.std.specs.Prelude.{Option, Result, ok_or}
use Prim.Native.Nat.{ℕ}
use mathlib.Core.Bool.{Bool}
use mathlib.Core.Path.{◌≡◌}
use Rattle.laws.proofs.OneAnswer.{one}
use Rattle.refusal.specs.declared.Refusal.{Refusal}
use Rattle.refusal.specs.declared.NoSuchRefusal.{NoSuchRefusal}
use Rattle.refusal.specs.Numbers.{number_of, named_of, line_status}

pub number_one : (refusal : Refusal) (a b : ℕ) → a ≡ number_of refusal → b ≡ number_of refusal → a ≡ b
number_one refusal a b = one

pub of_number_one : (number : ℕ) (a b : Option Refusal) → a ≡ named_of number → b ≡ named_of number → a ≡ b
of_number_one number a b = one

-- what the conversion answers: the refusal, or the number that none has
pub try_from_one :
    (number : ℕ) (a b : Result Refusal NoSuchRefusal)
    → a ≡ ok_or (named_of number) (record { 0 = number })
    → b ≡ ok_or (named_of number) (record { 0 = number })
    → a ≡ b
try_from_one number a b = one

pub line_status_one : (number : ℕ) (a b : Bool) → a ≡ line_status number → b ≡ line_status number → a ≡ b
line_status_one number a b = one
