-- Shown: what a layer below promises of a write, its cover promises with the answer as numbers; and what `Family::try_from` promises is `family_from`.
-- Why: the lent bytes are the layer's, and the answer crosses by one conversion; a number that names no family is 8 in both.
use Rattle.std.specs.Prelude.{Result, Option, Some, None, ok_or}
use Prim.Native.Nat.{ℕ}
use mathlib.Core.Path.{◌≡◌, ◌∙◌, refl, ap}
use mathlib.Core.List.{List}
use Rattle.refusal.specs.declared.Refusal.{Refusal}
use Rattle.room.specs.Writing.{Left, Leaves as LeavesBelow}
use Rattle.crossing.specs.declared.writing.QuayWritten.{QuayWritten}
use Rattle.weight.specs.declared.families.Family.{Family}
use Rattle.weight.specs.Families.{family_named}
use Rattle.refusal.specs.declared.Refusal.TheVariants.{FieldOutside}
use Rattle.crossing.specs.Families.{refused_if_unknown, family_from}
use Rattle.crossing.specs.Writing.{written_out, LeavesAcross}

pub crosses : {write : Left} {written : Result ℕ Refusal} {answered : QuayWritten} {left : List ℕ} → LeavesBelow write written left → answered ≡ written_out written → LeavesAcross write answered left
crosses below e = record { answer = e ∙ ap written_out below.answer; room = below.room }

refused_alike : (named : Option Family) → ok_or named FieldOutside ≡ refused_if_unknown named
refused_alike (Some family) = refl
refused_alike None = refl

pub family_crosses : (number : ℕ) → ok_or (family_named number) FieldOutside ≡ family_from number
unfolding family_from
family_crosses number = refused_alike (family_named number)
