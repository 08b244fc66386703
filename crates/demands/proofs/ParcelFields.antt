-- Shown: the fields behind a code: bytes of the right length are laid out again as they were, and numbers within their fields' values come back.
-- Why: by induction along the fields; a number and its bytes give each other back, and a field's highest value fits its width.
use Prim.Native.Nat.{ℕ, ◌^◌, ◌<◌}
use mathlib.Core.Path.{◌≡◌, ◌∙◌, refl, sym, ap}
use mathlib.Core.Bool.{true, and-eq-true_iff}
use mathlib.Core.List.{List, [], ◌∷◌}
use native.Mathlib.Omega.{arith}
use native.Mathlib.Nat.{lt_of_le_of_lt}
use borrow.Author.Tests.{leb-true}
use lib.Dec.{T, leb}
use lib.ListN.{length, take, drop, length-append, length-drop, take-append-drop}
use lib.Seq.{take_at, drop_at, length-take-le}
use lib.Pow.{are_bytes}
use Rattle.std.proofs.lemmas.Grind.{common_steps}
use Rattle.laws.proofs.ByteLists.{bytes_take, bytes_drop}
use Rattle.low_first.specs.LowFirst.{low_first, low_bytes}
use Rattle.low_first.proofs.Digits.{low_length, number_back, bytes_back}
use Rattle.parcel_scale.specs.Layouts.{Field, width_of, highest_of, widths, numbers_in, laid_out, in_values}

pub laid_length : (fields : List Field) (numbers : List ℕ) → length (laid_out fields numbers) ≡ widths fields
unfolding laid_out widths
laid_length [] numbers = refl
laid_length (field ∷ fields) numbers = grind (arith, common_steps, length-append, low_length, laid_length fields (drop 1 numbers))

-- ---- bytes to numbers and back

pub laid_back : (fields : List Field) (data' : List ℕ) → T (are_bytes data') → length data' ≡ widths fields → laid_out fields (numbers_in fields data') ≡ data'
unfolding laid_out numbers_in widths
laid_back [] [] all e = refl
laid_back [] (byte ∷ data') all e = absurd (omega arith)
laid_back (field ∷ fields) data' all e =
    let width = width_of field in
    let front : length (take width data') ≡ width = length-take-le width data' (omega arith) in
    let first : low_bytes width (low_first (take width data')) ≡ take width data' =
    ap (λ (n : ℕ). low_bytes n (low_first (take width data'))) (sym front) ∙ bytes_back (take width data') (bytes_take width data' all) in
    rw (first, laid_back fields (drop width data') (bytes_drop width data' all) (length-drop width data' ∙ omega arith)) (take-append-drop width data')

-- ---- numbers to bytes and back

-- what a field may have fits its bytes
highest_fits : (field : Field) → highest_of field < 256 ^ width_of field
highest_fits field = grind (arith, common_steps)

pub numbers_back : (fields : List Field) (numbers : List ℕ) → length numbers ≡ length fields → in_values fields numbers ≡ true
    → numbers_in fields (laid_out fields numbers) ≡ numbers
unfolding laid_out numbers_in in_values
numbers_back [] [] e right = refl
numbers_back [] (number ∷ numbers) e right = absurd (omega arith)
numbers_back (field ∷ fields) [] e right = absurd (omega arith)
numbers_back (field ∷ fields) (number ∷ numbers) e right =
    let bytes = low_bytes (width_of field) number in
    let rest = laid_out fields numbers in
    let (low, others) = (and-eq-true_iff (leb number (highest_of field)) (in_values fields numbers)).0 right in
    let width = low_length (width_of field) number in
    let fits : number < 256 ^ width_of field = lt_of_le_of_lt (leb-true number (highest_of field) low) (highest_fits field) in
    rw (
      take_at bytes rest (width_of field) width,
      drop_at bytes rest (width_of field) width,
      number_back (width_of field) number fits,
      numbers_back fields numbers (omega arith) others,
    )
