-- Shown: the promise of each public function of this crate admits one answer.
-- Why: each is an equation with a definition, so two answers that meet it are equal by way of that definition.
use Rattle.std.specs.Prelude.{Result, Option, ok_or, ℤ}
use mathlib.Core.Path.{◌≡◌}
use mathlib.Core.Bool.{Bool}
use Prim.Native.Nat.{ℕ}
use Rattle.laws.proofs.OneAnswer.{one}
use Rattle.weight.specs.declared.families.Family.{Family}
use Rattle.weight.specs.declared.FourBytes.{FourBytes}
use Rattle.weight.specs.declared.Reading.{Reading}
use Rattle.weight.specs.Families.{family_number, family_named}
use Rattle.weight.specs.Bytes.{in_range, read_of, packed_of}
use Rattle.weight.specs.Tenths.{value_of, difference_of}
use Rattle.refusal.specs.declared.Refusal.{Refusal}
use Rattle.refusal.specs.declared.Refusal.TheVariants.{FieldOutside}

pub read_bytes_one : (bytes : FourBytes) (a b : Result Reading Refusal) → a ≡ read_of bytes → b ≡ read_of bytes → a ≡ b
read_bytes_one bytes a b = one

pub to_bytes_one : (reading : Reading) (a b : Result FourBytes Refusal) → a ≡ packed_of reading → b ≡ packed_of reading → a ≡ b
to_bytes_one reading a b = one

pub value_of_one : (reading : Reading) (a b : Result ℤ Refusal) → a ≡ value_of reading → b ≡ value_of reading → a ≡ b
value_of_one reading a b = one

pub gross_less_net_one : (gross net : Reading) (a b : Result ℤ Refusal) → a ≡ difference_of gross net → b ≡ difference_of gross net → a ≡ b
gross_less_net_one gross net a b = one

pub in_range_one : (reading : Reading) (a b : Bool) → a ≡ in_range reading → b ≡ in_range reading → a ≡ b
in_range_one reading a b = one

pub family_number_one : (family : Family) (a b : ℕ) → a ≡ family_number family → b ≡ family_number family → a ≡ b
family_number_one family a b = one

pub family_named_one : (number : ℕ) (a b : Option Family) → a ≡ family_named number → b ≡ family_named number → a ≡ b
family_named_one number a b = one

-- what the conversion answers: the family, or 8
pub try_from_one : (number : ℕ) (a b : Result Family Refusal) → a ≡ ok_or (family_named number) FieldOutside → b ≡ ok_or (family_named number) FieldOutside → a ≡ b
try_from_one number a b = one
