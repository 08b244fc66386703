-- Roles as they cross to another language, as numbers.
use Rattle.std.specs.Prelude.{ℕ, cond, eqb, Result, Ok, Err}
use Rattle.refusal.specs.declared.Refusal.TheVariants.{FieldOutside}
use Rattle.codes.specs.declared.table.Role.TheVariants.{Request, Reply}
use Rattle.codes.specs.declared.table.Role.{Role}
use Rattle.refusal.specs.declared.Refusal.{Refusal}

-- 0 is a request, 1 a reply; any other number is 8
unfoldable pub role_from : ℕ → Result Role Refusal
role_from number = cond (eqb number 0) (Ok Request) (cond (eqb number 1) (Ok Reply) (Err FieldOutside))
