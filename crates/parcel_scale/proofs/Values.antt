-- Shown: the table of divisions, and the largest of them; a count times a division is at most 2^31 times 10^7, sign aside, and so fits 64 bits; when a weight's fields are legal.
-- Why: the table is computed at each code; a power of ten grows with its exponent; the size of a product is the product of the sizes.
use Prim.Native.Nat.{ℕ, suc, ◌+◌, ◌*◌, ◌%◌, ◌^◌, ◌≤◌}
use mathlib.Core.Path.{◌≡◌, ◌∙◌, sym, ap, subst}
use mathlib.Core.Bool.{true, false, ◌&&◌, and-eq-true_iff}
use mathlib.Core.List.{List, [], ◌∷◌, ◌++◌}
use native.Mathlib.Nat.{mul-le-mul, div-div-eq-div-mul, pow-le-pow_right}
use native.Mathlib.Omega.{arith}
use borrow.Author.Tests.{leb-true}
use lib.Dec.{leb, eqb, eqb→eq}
use lib.IntN.{ℤ, pos, negsuc, nat_abs, ◌*ℤ◌, pos-*ℤ-pos, negsuc-*ℤ-pos}
use lib.ListN.{get_or}
use mir.Syntax.{w32, w64}
use mir.Val.{SFits, to_z, of_z}
use mir.ValLaws.{to_z-of_z, to_z_pos}
use Rattle.std.specs.Int.{cast_signed, to_le_bytes}
use Rattle.laws.proofs.Computed.{below}
use Rattle.low_first.specs.LowFirst.{low_bytes}
use Rattle.low_first.specs.Signed.{word_of}
use Rattle.low_first.proofs.SignedWords.{word_fits}
use Rattle.weight.proofs.Sizes.{abs_signed, fits_64}
use Rattle.parcel_scale.specs.declared.parcels.ParcelWeight.{ParcelWeight}
use Rattle.parcel_scale.specs.declared.parcels.Parcel.TheVariants.{AckWeight}
use Rattle.parcel_scale.specs.Layouts.{row_in, row_of, laid_out}
use Rattle.parcel_scale.specs.Value.{division_of}
use Rattle.parcel_scale.specs.Writing.{fields_of, body_of, legal_fields}
use Rattle.parcel_scale.proofs.Rows.{weight_within, weight_outside}

-- ---- the divisions

abbrev divisions : List ℕ
divisions = 1000 ∷ 10000 ∷ 100000 ∷ 1000000 ∷ 10000000 ∷ []

pub division_at : (code : ℕ) → code ≤ 4 → get_or divisions code 0 ≡ division_of code
division_at code h = eqb→eq _ _ (below (λ (code : ℕ). eqb (get_or divisions code 0) (division_of code)) 5 tt code (omega arith))

pub division_most : (code : ℕ) → code ≤ 4 → division_of code ≤ 10000000
division_most code h = pow-le-pow_right {n = 10} (omega arith) {i = 3 + code} {j = 7} (omega arith)

-- ---- a count times a division

count_size : (count : ℤ) → SFits w32 count → nat_abs count ≤ 2 ^ 31
count_size (pos n) f = let h = f.sfits in omega arith
count_size (negsuc n) f = let h = f.sfits in omega arith

product_size : (count : ℤ) (size : ℕ) → nat_abs (count *ℤ pos size) ≡ nat_abs count * size
product_size (pos n) size = ap nat_abs (pos-*ℤ-pos n size)
product_size (negsuc n) size = ap nat_abs (negsuc-*ℤ-pos n size) ∙ abs_signed true (suc n * size)

pub value_most : (count : ℤ) (size : ℕ) → SFits w32 count → size ≤ 10 ^ 7 → nat_abs (count *ℤ pos size) ≤ 2 ^ 31 * 10 ^ 7
value_most count size f h = subst (λ (n : ℕ). n ≤ 2 ^ 31 * 10 ^ 7) (sym (product_size count size)) (mul-le-mul (count_size count f) h)

pub value_fits : (count : ℤ) (size : ℕ) → SFits w32 count → size ≤ 10 ^ 7 → SFits w64 (count *ℤ pos size)
value_fits count size f h = let most = value_most count size f h in fits_64 (count *ℤ pos size) (omega arith)

-- the product as the machine makes it of a count of 32 bits and a division
pub value_made : (count wide division : ℤ) (size : ℕ) → wide ≡ count → division ≡ cast_signed w64 size → SFits w32 count → size ≤ 10 ^ 7
    → to_z w64 (of_z w64 (to_z w64 (of_z w64 wide) *ℤ to_z w64 (of_z w64 division))) ≡ count *ℤ pos size
value_made count wide division size e d f h =
    let wide_fits : SFits w64 count = let h = f.sfits in record { sfits = omega arith } in
    let size_is : cast_signed w64 size ≡ pos size = to_z_pos w64 size (omega arith) in
    let size_fits : SFits w64 (pos size) = record { sfits = omega arith } in
    rw (e, d, size_is, to_z-of_z w64 count wide_fits, to_z-of_z w64 (pos size) size_fits) (to_z-of_z w64 (count *ℤ pos size) (value_fits count size f h))

-- ---- a weight's fields

pub word_most : (count : ℤ) → SFits w32 count → word_of count ≤ 0xFFFF_FFFF
word_most count f = omega (arith, word_fits count f)

pub marks_decide : (told : ParcelWeight) → SFits w32 told.count → legal_fields (AckWeight told) ≡ (leb told.division 4 && leb told.stable 1)
unfolding legal_fields fields_of row_of row_in
marks_decide told f = weight_within (word_of told.count) told.division told.stable (word_most told.count f)

pub marks_refuse : (told : ParcelWeight) → (leb told.division 4 && leb told.stable 1) ≡ false → legal_fields (AckWeight told) ≡ false
unfolding legal_fields fields_of row_of row_in
marks_refuse told e = weight_outside (word_of told.count) told.division told.stable e

-- ---- a weight's body

pub weight_body : (told : ParcelWeight) → (leb told.division 4 && leb told.stable 1) ≡ true
    → body_of (AckWeight told) ≡ 0x10 ∷ (low_bytes 4 (word_of told.count) ++ (told.division ∷ told.stable ∷ []))
unfolding body_of fields_of row_of row_in laid_out low_bytes
weight_body told e =
    let marks = (and-eq-true_iff (leb told.division 4) (leb told.stable 1)).0 e in
    let division : told.division % 256 ≡ told.division = omega (arith, leb-true told.division 4 marks.0) in
    let stable : told.stable % 256 ≡ told.stable = omega (arith, leb-true told.stable 1 marks.1) in
    rw (division, stable)

-- a word's four bytes, low byte first
pub four_low_bytes : (word : ℕ) → to_le_bytes w32 word ≡ low_bytes 4 word
unfolding low_bytes
four_low_bytes word = simp (div-div-eq-div-mul)
