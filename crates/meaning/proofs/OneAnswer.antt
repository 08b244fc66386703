-- Shown: each promise of this crate admits one answer.
-- Why: each is an equation with a definition.
use Rattle.std.specs.Prelude.{Result, Option}
use Prim.Native.Nat.{ℕ}
use mathlib.Core.Path.{◌≡◌}
use mathlib.Core.List.{List}
use Rattle.laws.proofs.OneAnswer.{one}
use Rattle.body.specs.declared.addresses.Address.{Address}
use Rattle.weight.specs.declared.families.Family.{Family}
use Rattle.codes.specs.declared.table.Role.{Role}
use Rattle.meaning.specs.declared.meaning.What.{What}
use Rattle.meaning.specs.Judging.{told}
use Rattle.meaning.specs.Weights.{weight_said}
use Rattle.refusal.specs.declared.Refusal.{Refusal}
use Rattle.meaning.specs.declared.meaning.SaidWeight.{SaidWeight}

pub tell_one : (role : Role) (family : Family) (address : Address) (code : ℕ) (data' : List ℕ) (a b : Result What Refusal) → a ≡ told role family address code data' → b ≡ told role family address code data' → a ≡ b
tell_one role family address code data' a b = one

pub weight_said_one : (what : What) (a b : Option SaidWeight) → a ≡ weight_said what → b ≡ weight_said what → a ≡ b
weight_said_one what a b = one
