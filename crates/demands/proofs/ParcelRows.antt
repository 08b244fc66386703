-- Shown: the seven rows: what a row says of numbers has the row's code and those numbers, and each message has its row, which says the message again.
-- Why: row by row and message by message; a signed number and its word give each other back.
use Prim.Native.Nat.{ℕ, ◌<◌}
use mathlib.Core.Path.{◌≡◌, refl, ap}
use mathlib.Core.Bool.{Bool, true, false, cond, ◌&&◌}
use mathlib.Core.List.{List, [], ◌∷◌}
use native.Mathlib.Omega.{arith}
use borrow.Author.Tests.{eqb-true}
use lib.Dec.{leb, eqb, lit<}
use lib.ListN.{length}
use Rattle.std.proofs.lemmas.Grind.{common_steps}
use Rattle.low_first.specs.Signed.{signed_of, word_of}
use Rattle.low_first.proofs.SignedWords.{signed_back, word_back}
use Rattle.parcel_scale.specs.declared.parcels.Parcel.{Parcel}
use Rattle.parcel_scale.specs.declared.parcels.Parcel.TheVariants.{GetWeight, SetTare, GetDeviceId, AckWeight, AckCommand, AckDeviceId, Nack}
use Rattle.parcel_scale.specs.Layouts.{Row, Found, known, table, row_in, row_of, code_of, numbers_of, widths, numbers_in, in_values}
use Rattle.parcel_scale.specs.Reading.{within}
use Rattle.demands.specs.Parcels.{OfItsTypes}

-- the word of a field that passed its test
word_again : (word : ℕ) (others : Bool) (rest : List ℕ) → (leb word 0xFFFF_FFFF && others) ≡ true → word_of (signed_of word) ∷ rest ≡ word ∷ rest
word_again word others rest right = grind (arith, common_steps, word_back)

-- ---- the rows: what a row says has its code and its numbers

pub record RightRow (row : Row) : Type 0 where
  pub code : (numbers : List ℕ) → code_of (row.says numbers) ≡ row.code
  pub numbers : (data' : List ℕ) → within row data' ≡ true → numbers_of (row.says (numbers_in row.fields data')) ≡ numbers_in row.fields data'

infixr 5 ◌then◌
data EachRight : List Row → Type 0 where
  none : EachRight []
  ◌then◌ : {row : Row} {rows : List Row} → RightRow row → EachRight rows → EachRight (row ∷ rows)

each_right : EachRight table
unfolding numbers_in in_values
each_right =
    record { code = λ numbers. refl; numbers = λ data' right. refl }
    then record { code = λ numbers. refl; numbers = λ data' right. word_again _ _ _ right }
    then record { code = λ numbers. refl; numbers = λ data' right. refl }
    then record { code = λ numbers. refl; numbers = λ data' right. word_again _ _ _ right }
    then record { code = λ numbers. refl; numbers = λ data' right. refl }
    then record { code = λ numbers. refl; numbers = λ data' right. refl }
    then record { code = λ numbers. refl; numbers = λ data' right. refl }
    then none

-- so the row that a code finds is right, and has the code
module _ (code : ℕ) (row : Row) where
  abbrev Right : Type 0
  Right = RightRow row × (row.code ≡ code)

  by_test : (test : Bool) (first : Row) (others : Found) → eqb code first.code ≡ test → RightRow first → (others ≡ known row → Right)
      → cond test (known first) others ≡ known row → Right
  by_test true first others has right later e = grind (arith, common_steps, eqb-true)
  by_test false first others has right later e = later e

  row_found : {rows : List Row} → EachRight rows → row_in rows code ≡ known row → Right
  unfolding row_in
  row_found none e = cc
  row_found (◌then◌ {row = first} {rows = rows} right each) e = grind (arith, common_steps, by_test, row_found each)

pub right_row : (code : ℕ) (row : Row) → row_of code ≡ known row → RightRow row × (row.code ≡ code)
unfolding row_of
right_row code row e = row_found code row each_right e

-- ---- each message has its row

pub record HasRow (parcel : Parcel) : Type 0 where
  pub row : Row
  pub found : row_of (code_of parcel) ≡ known row
  pub counted : length (numbers_of parcel) ≡ length row.fields
  pub short : widths row.fields < 7
  pub says : OfItsTypes parcel → row.says (numbers_of parcel) ≡ parcel

pub has_row : (parcel : Parcel) → HasRow parcel
unfolding row_of row_in widths
has_row GetWeight = record { row = _; found = refl; counted = refl; short = lit< tt; says = λ typed. refl }
has_row (SetTare grams) = record { row = _; found = refl; counted = refl; short = lit< tt; says = λ typed. ap SetTare (signed_back grams typed) }
has_row GetDeviceId = record { row = _; found = refl; counted = refl; short = lit< tt; says = λ typed. refl }
has_row (AckWeight told) = record {
  row = _;
  found = refl;
  counted = refl;
  short = lit< tt;
  says = λ typed i. AckWeight (record { count = signed_back told.count typed i; division = told.division; stable = told.stable });
}
has_row AckCommand = record { row = _; found = refl; counted = refl; short = lit< tt; says = λ typed. refl }
has_row (AckDeviceId number) = record { row = _; found = refl; counted = refl; short = lit< tt; says = λ typed. refl }
has_row Nack = record { row = _; found = refl; counted = refl; short = lit< tt; says = λ typed. refl }
