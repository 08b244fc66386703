-- Shown: the numbers that a weight's data hold by their places, and what stands behind its code.
-- Why: data of known length are their bytes by their places.
use Rattle.std.specs.Prelude.{Ok, Err}
use Prim.Native.Nat.{ℕ, ◌≤◌}
use mathlib.Core.Path.{◌≡◌, ◌∙◌, refl, sym, ap}
use mathlib.Core.Bool.{Bool, true, false, ◌&&◌}
use mathlib.Core.List.{List, [], ◌∷◌}
use native.Mathlib.Nat.{add-zero}
use native.Mathlib.Omega.{arith}
use borrow.Author.Tests.{le-leb, eq-eqb, ne_eqb}
use lib.Dec.{leb}
use lib.ListN.{length, take, get_or}
use Rattle.laws.proofs.ByteLists.{placed, front_by_place, by_place}
use Rattle.refusal.specs.declared.Refusal.TheVariants.{LengthWrong, FieldOutside}
use Rattle.low_first.specs.LowFirst.{low_first}
use Rattle.low_first.specs.Signed.{signed_of}
use Rattle.parcel_scale.specs.declared.parcels.Parcel.TheVariants.{AckWeight}
use Rattle.parcel_scale.specs.Layouts.{Weight, Division, Stable, row_in, row_of, numbers_in, in_values, widths}
use Rattle.parcel_scale.specs.Reading.{read_row, read_code}

-- four bytes at the front, by their places
abbrev pub four_bytes : List ℕ → List ℕ
four_bytes bytes = get_or bytes 0 0 ∷ get_or bytes 1 0 ∷ get_or bytes 2 0 ∷ get_or bytes 3 0 ∷ []

pub four_at_front : (bytes : List ℕ) → 4 ≤ length bytes → take 4 bytes ≡ four_bytes bytes
unfolding placed
four_at_front bytes h = front_by_place 4 bytes h

-- the numbers of a weight's three fields
one_byte : (byte : ℕ) → low_first (byte ∷ []) ≡ byte
unfolding low_first
one_byte byte = add-zero byte

six_numbers : (a b c d e f : ℕ) → numbers_in (Weight ∷ Division ∷ Stable ∷ []) (a ∷ b ∷ c ∷ d ∷ e ∷ f ∷ []) ≡ low_first (a ∷ b ∷ c ∷ d ∷ []) ∷ e ∷ f ∷ []
unfolding numbers_in
six_numbers a b c d e f = rw (one_byte e, one_byte f)

pub weight_numbers : (data' : List ℕ) → length data' ≡ 6
    → numbers_in (Weight ∷ Division ∷ Stable ∷ []) data' ≡ low_first (take 4 data') ∷ get_or data' 4 0 ∷ get_or data' 5 0 ∷ []
unfolding placed
weight_numbers data' e =
    ap (numbers_in (Weight ∷ Division ∷ Stable ∷ [])) (by_place 6 data' e)
    ∙ six_numbers (get_or data' 0 0) (get_or data' 1 0) (get_or data' 2 0) (get_or data' 3 0) (get_or data' 4 0) (get_or data' 5 0)
    ∙ ap (λ (bytes : List ℕ). low_first bytes ∷ get_or data' 4 0 ∷ get_or data' 5 0 ∷ []) (sym (four_at_front data' (omega arith)))

-- a weight's fields are within their values where its two marks are
and_true : (b : Bool) → (b && true) ≡ b
and_true true = refl
and_true false = refl

pub weight_within : (word division stable : ℕ) → word ≤ 0xFFFF_FFFF
    → in_values (Weight ∷ Division ∷ Stable ∷ []) (word ∷ division ∷ stable ∷ []) ≡ (leb division 4 && leb stable 1)
unfolding in_values
weight_within word division stable h = rw (le-leb word 0xFFFF_FFFF h, and_true (leb stable 1))

and_false : (b : Bool) → (b && false) ≡ false
and_false true = refl
and_false false = refl

pub weight_outside : (word division stable : ℕ) → (leb division 4 && leb stable 1) ≡ false
    → in_values (Weight ∷ Division ∷ Stable ∷ []) (word ∷ division ∷ stable ∷ []) ≡ false
unfolding in_values
weight_outside word division stable e = rw (and_true (leb stable 1), e) (and_false (leb word 0xFFFF_FFFF))

-- what stands behind the code of a weight: its three numbers, or 8
module _ (used : ℕ) (data' : List ℕ) (right : length data' ≡ 6) where
  pub weight_row : low_first (four_bytes data') ≤ 0xFFFF_FFFF → (leb (get_or data' 4 0) 4 && leb (get_or data' 5 0) 1) ≡ true
      → read_code used (row_of 0x10) data'
      ≡ Ok (AckWeight (record { count = signed_of (low_first (four_bytes data')); division = get_or data' 4 0; stable = get_or data' 5 0 }), used)
  unfolding read_code row_of row_in read_row widths
  weight_row small marks =
      rw (
        eq-eqb _ _ right,
        weight_numbers data' right,
        four_at_front data' (omega arith),
        weight_within (low_first (four_bytes data')) (get_or data' 4 0) (get_or data' 5 0) small,
        marks,
      )

  pub weight_row_outside : (leb (get_or data' 4 0) 4 && leb (get_or data' 5 0) 1) ≡ false → read_code used (row_of 0x10) data' ≡ Err FieldOutside
  unfolding read_code row_of row_in read_row widths
  weight_row_outside wrong =
      rw (
        eq-eqb _ _ right,
        weight_numbers data' right,
        weight_outside (low_first (take 4 data')) (get_or data' 4 0) (get_or data' 5 0) wrong,
      )

pub weight_row_long : (used : ℕ) (data' : List ℕ) → (length data' ≡ 6 → ⊥) → read_code used (row_of 0x10) data' ≡ Err LengthWrong
unfolding read_code row_of row_in read_row widths
weight_row_long used data' wrong = rw (ne_eqb _ _ wrong)
