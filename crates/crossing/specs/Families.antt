-- Terminal families as they cross to another language, as the numbers that byte 17 of a record has.
use Rattle.std.specs.Prelude.{ℕ, Result, Ok, Err, Option, Some, None}
use Rattle.refusal.specs.declared.Refusal.TheVariants.{FieldOutside}
use Rattle.weight.specs.Families.{family_named}
use Rattle.weight.specs.declared.families.Family.{Family}
use Rattle.refusal.specs.declared.Refusal.{Refusal}

-- a number that names no family is 8
abbrev pub refused_if_unknown : Option Family → Result Family Refusal
refused_if_unknown (Some family) = Ok family
refused_if_unknown None = Err FieldOutside

-- 0 is plain, 1 to 3 are 000 to 002; any other number is 8
unfoldable pub family_from : ℕ → Result Family Refusal
family_from number = refused_if_unknown (family_named number)
