-- Shown: bytes that were read come back exactly, and a reading that was written reads back as itself.
-- Why: the packed bytes and the number, the status byte and the marks, and the family and its number, each give the other back.
use Rattle.std.specs.Prelude.{Ok, Err, Option, Some, None}
use Prim.Native.Nat.{◌%◌, ◌<◌, ◌≤◌}
use mathlib.Core.Path.{◌≡◌, refl}
use mathlib.Core.Bool.{Bool, true, false, cond, ◌&&◌, and-eq-true_iff}
use native.Mathlib.Omega.{arith}
use borrow.Author.Tests.{le-leb}
use Rattle.refusal.specs.declared.Refusal.TheVariants.{FieldOutside}
use Rattle.weight.specs.declared.families.Family.{Family}
use Rattle.weight.specs.declared.FourBytes.{FourBytes}
use Rattle.weight.specs.declared.Reading.{Reading}
use Rattle.weight.specs.Digits.{all_decimal, digits_of}
use Rattle.weight.specs.Families.{terminal, family_number, family_named, allowed}
use Rattle.weight.specs.Status.{sixth, marked, reading_of, status_of}
use Rattle.weight.specs.Bytes.{in_range, read_as, read_named, read_of, bytes_of, packed_of}
use Rattle.weight.proofs.FamilyNumbers.{number_named, named_number}
use Rattle.weight.proofs.Sizes.{legal_number, legal_point, legal_sixth}
use Rattle.weight.proofs.Pairs.{number_small, first_back, second_back, third_back, all_decimal_lem, number_back}
use Rattle.weight.proofs.Marks.{status_back, sixth_back, reading_back}

-- ---- four bytes of a family

module _ (family : Family) (bytes : FourBytes) where
  abbrev digits_right : Bool
  digits_right = all_decimal bytes.w0 bytes.w1 bytes.w2

  abbrev bit_right : Bool
  bit_right = allowed (terminal family).sixth (marked sixth bytes.con)

  abbrev shown : Reading
  shown = reading_of family (digits_of bytes.w0 bytes.w1 bytes.w2) bytes.con

  -- what is read is inRange
  pub legal_of_read : digits_right ≡ true → bit_right ≡ true → in_range shown ≡ true
  unfolding in_range
  legal_of_read good clear =
      let point : bytes.con % 8 ≤ 7 = omega arith in
      rw (le-leb _ _ (number_small bytes.w0 bytes.w1 bytes.w2 good), le-leb _ _ point) clear

  -- by their family they come back, and its number with them
  back : bytes.con < 256 → family_number family ≡ bytes.family → (reading : Reading) → read_as family bytes ≡ Ok reading → packed_of reading ≡ Ok bytes
  unfolding read_as packed_of
  back h number reading = by_test (digits_right && bit_right) refl
    where
      by_test : (good : Bool) → (digits_right && bit_right) ≡ good → cond good (Ok shown) (Err FieldOutside) ≡ Ok reading → packed_of reading ≡ Ok bytes
      by_test true good e =
          let both = (and-eq-true_iff digits_right bit_right).0 good in
          let same : reading ≡ shown = cc in
          rw (
            same,
            legal_of_read both.0 both.1,
            first_back bytes.w0 bytes.w1 bytes.w2 both.0,
            second_back bytes.w0 bytes.w1 bytes.w2 both.0,
            third_back bytes.w0 bytes.w1 bytes.w2 both.0,
            status_back family (digits_of bytes.w0 bytes.w1 bytes.w2) bytes.con h,
            number,
          )
      by_test false good e = cc

-- "so its four bytes come back exactly", and the number of the family beside them
pub bytes_back : (bytes : FourBytes) → bytes.con < 256 → (reading : Reading) → read_of bytes ≡ Ok reading → packed_of reading ≡ Ok bytes
unfolding read_of
bytes_back bytes h reading = by_name (family_named bytes.family) refl
  where
    by_name : (named : Option Family) → family_named bytes.family ≡ named → read_named named bytes ≡ Ok reading → packed_of reading ≡ Ok bytes
    by_name (Some family) is e = back family bytes h (named_number bytes.family family is) reading e
    by_name None is e = cc

-- a reading that was written reads back as itself
pub written_back : (reading : Reading) (bytes : FourBytes) → packed_of reading ≡ Ok bytes → read_of bytes ≡ Ok reading
unfolding read_of read_as packed_of
written_back reading bytes = by_legal (in_range reading) refl
  where
    by_legal : (good : Bool) → in_range reading ≡ good → cond good (Ok (bytes_of reading)) (Err FieldOutside) ≡ Ok bytes
        → read_of bytes ≡ Ok reading
    by_legal true good e =
        let same : bytes ≡ bytes_of reading = cc in
        let clear : allowed (terminal reading.family).sixth (marked sixth (status_of reading)) ≡ true =
        rw (sixth_back reading (legal_point reading good)) (legal_sixth reading good) in
        rw (
          same,
          number_named reading.family,
          all_decimal_lem reading.number,
          clear,
          number_back reading.number (legal_number reading good),
          reading_back reading (legal_point reading good),
        )
    by_legal false good e = cc
