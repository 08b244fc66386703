-- Shown: writing judges 8, 9 and never answers 6; 8 is a division above 4 or a stable mark above 1 and nothing else.
-- Why: each message has a row, so 6 is passed, and the other two are tests in order; a word and a serial fit their fields.
use Prim.Native.Nat.{ℕ}
use mathlib.Core.Path.{◌≡◌}
use mathlib.Core.Bool.{true}
use mathlib.Core.List.{List, [], ◌∷◌}
use native.Mathlib.Omega.{arith}
use borrow.Author.Tests.{le-leb}
use lib.Dec.{leb}
use lib.IntN.{ℤ}
use lib.ListN.{length}
use mir.Syntax.{w32}
use mir.Val.{SFits}
use Rattle.std.proofs.lemmas.Grind.{common_steps}
use Rattle.refusal.specs.declared.Refusal.TheVariants.{FieldOutside}
use Rattle.low_first.specs.Signed.{word_of}
use Rattle.parcel_scale.specs.declared.parcels.Parcel.{Parcel}
use Rattle.parcel_scale.specs.Layouts.{row_in, row_of, in_values}
use Rattle.parcel_scale.specs.Writing.{fields_of, parcel_bytes, legal_fields, judged_parcel}
use Rattle.parcel_scale.proofs.Values.{word_most}
use Rattle.demands.specs.Parcels.{WritingInOrder, LegalExactly}
use Rattle.demands.proofs.ParcelRows.{has_row}
use Rattle.demands.proofs.TestsInOrder.{Test, must, must_fit, judged}

-- ---- 8, 9

abbrev tests : Parcel → List ℕ → List Test
tests parcel room = must (legal_fields parcel) FieldOutside ∷ must_fit (length (parcel_bytes parcel)) room ∷ []

judged_so : (parcel : Parcel) (room : List ℕ) → judged_parcel parcel room ≡ judged (tests parcel room)
unfolding judged_parcel
judged_so parcel room = rw (has_row parcel).found

pub writing_in_order : WritingInOrder
writing_in_order parcel room = grind (arith, common_steps, judged_so)

-- ---- 8

word_right : (number : ℤ) → SFits w32 number → leb (word_of number) 0xFFFF_FFFF ≡ true
word_right number fits = le-leb (word_of number) 0xFFFF_FFFF (word_most number fits)

pub legal_exactly : LegalExactly
unfolding legal_fields fields_of row_of row_in in_values
legal_exactly = grind (arith, common_steps, word_right)
