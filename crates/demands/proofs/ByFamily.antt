-- Shown: four bytes that read as a reading are its family's, with digits and with a bit 6 that the family allows; and which four bytes do not read.
-- Why: the number beside them names one family, and the two tests of reading are asked by it.
use Rattle.std.specs.Prelude.{Result, Ok, Err, Option, Some, None}
use Prim.Native.Nat.{ℕ, zero, suc, ◌≤◌, ◌<◌}
use mathlib.Core.Path.{◌≡◌, ◌∙◌, refl, ap}
use mathlib.Core.Bool.{Bool, true, false, cond, ◌&&◌}
use native.Mathlib.Omega.{arith}
use Rattle.std.proofs.lemmas.Grind.{common_steps}
use Rattle.refusal.specs.declared.Refusal.{Refusal}
use Rattle.refusal.specs.declared.Refusal.TheVariants.{FieldOutside}
use Rattle.weight.specs.declared.families.Family.{Family}
use Rattle.weight.specs.declared.families.Family.TheVariants.{Plain, Of000, Of001, Of002}
use Rattle.weight.specs.declared.FourBytes.{FourBytes}
use Rattle.weight.specs.declared.Reading.{Reading}
use Rattle.weight.specs.Digits.{all_decimal, digits_of}
use Rattle.weight.specs.Families.{terminal, family_number, family_named, allowed}
use Rattle.weight.specs.Status.{sixth, marked, reading_of}
use Rattle.weight.specs.Bytes.{in_range, read_as, read_named, read_of, readable}
use Rattle.weight.proofs.FamilyNumbers.{number_named, named_number}
use Rattle.weight.proofs.RoundTrip.{legal_of_read}

-- a number is one family's
pub same_family : (a b : Family) → family_number a ≡ family_number b → a ≡ b
same_family a b e = grind (arith, common_steps)

-- the numbers go up to 3
pub number_most : (family : Family) → family_number family ≤ 3
number_most family = grind (arith, common_steps)

-- and each of them is a family's
record Numbered (number : ℕ) : Type 0 where
  family : Family
  is : number ≡ family_number family

numbered : (number : ℕ) → number ≤ 3 → Numbered number
numbered zero most = record { family = Plain; is = refl }
numbered (suc zero) most = record { family = Of000; is = refl }
numbered (suc (suc zero)) most = record { family = Of001; is = refl }
numbered (suc (suc (suc zero))) most = record { family = Of002; is = refl }
numbered (suc (suc (suc (suc number)))) most = absurd (omega arith)

-- only 002 reserves bit 6
pub free_allowed : (family : Family) (set : Bool) → (family ≡ Of002 → set ≡ false) → allowed (terminal family).sixth set ≡ true
free_allowed family set free = grind (arith, common_steps)

-- ---- by one family

module _ (family : Family) (four : FourBytes) where
  abbrev pub digits : Bool
  digits = all_decimal four.w0 four.w1 four.w2

  abbrev pub bit : Bool
  bit = allowed (terminal family).sixth (marked sixth four.con)

  abbrev shown : Reading
  shown = reading_of family (digits_of four.w0 four.w1 four.w2) four.con

  pub record ReadsSo (reading : Reading) : Type 0 where
    pub decimal : digits ≡ true
    pub clear : bit ≡ true
    pub is : reading ≡ shown

  pub reads_so : (reading : Reading) → read_as family four ≡ Ok reading → ReadsSo reading
  unfolding read_as
  reads_so reading = grind (arith, common_steps)

  -- the other way round
  pub so_reads : digits ≡ true → bit ≡ true → read_as family four ≡ Ok shown
  unfolding read_as
  so_reads decimal clear = rw (decimal, clear)

-- ---- by the number beside them

module _ (four : FourBytes) where
  pub record ReadBy (reading : Reading) : Type 0 where
    pub family : Family
    pub number : family_number family ≡ four.family
    pub so : ReadsSo family four reading

  pub read_by : (reading : Reading) → read_of four ≡ Ok reading → ReadBy reading
  unfolding read_of
  read_by reading = grind (arith, common_steps, named_number, reads_so)

  -- as a line of their family reads them
  pub read_of_lem : (family : Family) → four.family ≡ family_number family → read_of four ≡ read_as family four
  unfolding read_of
  read_of_lem family number = rw (number, number_named family)

  pub read_family : (reading : Reading) → read_of four ≡ Ok reading → family_number reading.family ≡ four.family
  read_family reading e =
      let by = read_by reading e in
      ap (λ (one : Reading). family_number one.family) by.so.is ∙ by.number

  -- a reading that was read lies within its ranges
  pub read_legal : (reading : Reading) → read_of four ≡ Ok reading → in_range reading ≡ true
  read_legal reading e =
      let by = read_by reading e in
      rw by.so.is (legal_of_read by.family four by.so.decimal by.so.clear)

  -- what does not read
  pub above_unread : 3 < four.family → read_of four ≡ Err FieldOutside
  unfolding read_of
  above_unread above = by_name (family_named four.family) refl
    where
      by_name : (named : Option Family) → family_named four.family ≡ named → read_named named four ≡ Err FieldOutside
      by_name (Some family) is = absurd (omega (arith, named_number four.family family is, number_most family))
      by_name None is = refl

  pub reserved_unread : four.family ≡ family_number Of002 → marked sixth four.con ≡ true → read_of four ≡ Err FieldOutside
  unfolding read_as
  reserved_unread number set = read_of_lem Of002 number ∙ by_digits (digits Of002 four) (rw set)
    where
      by_digits : (decimal : Bool) → bit Of002 four ≡ false
          → cond (decimal && bit Of002 four) (Ok (shown Of002 four)) (Err FieldOutside) ≡ Err FieldOutside
      by_digits true clash = rw clash
      by_digits false clash = refl

  -- three bytes that are no digits do not, whatever stands beside them
  pub undecimal_unread : digits Plain four ≡ false → read_of four ≡ Err FieldOutside
  unfolding read_of read_as
  undecimal_unread none = grind (arith, common_steps)

  -- and what does not read is refused by 8
  pub refused_by_8 : (why : Refusal) → read_of four ≡ Err why → why ≡ FieldOutside
  unfolding read_of read_as
  refused_by_8 why = by_name (family_named four.family)
    where
      by_test : (family : Family) (good : Bool) → cond good (Ok (shown family four)) (Err FieldOutside) ≡ Err why → why ≡ FieldOutside
      by_test family true e = cc
      by_test family false e = cc

      by_name : (named : Option Family) → read_named named four ≡ Err why → why ≡ FieldOutside
      by_name (Some family) e = by_test family (digits family four && bit family four) e
      by_name None e = cc

  -- whether they can be read
  readable_good : (read : Result Reading Refusal) → read_of four ≡ read → readable read ≡ true → four.family ≤ 3
  readable_good (Ok reading) was e = let by = read_by reading was in omega (arith, by.number, number_most by.family)
  readable_good (Err why) was e = cc

  pub readable_family : readable (read_of four) ≡ true → four.family ≤ 3
  readable_family e = readable_good (read_of four) refl e

  -- bytes without a family can be read where they are digits
  pub plain_readable : four.family ≡ 0 → readable (read_of four) ≡ digits Plain four
  unfolding read_as
  plain_readable number = ap readable (read_of_lem Plain number) ∙ by_digits (digits Plain four)
    where
      by_digits : (decimal : Bool) → readable (cond (decimal && true) (Ok (shown Plain four)) (Err FieldOutside)) ≡ decimal
      by_digits true = refl
      by_digits false = refl

  -- and with a family where bit 6 is clear under 002
  pub free_readable : four.family ≤ 3 → digits Plain four ≡ true → (four.family ≡ 3 → marked sixth four.con ≡ false) → readable (read_of four) ≡ true
  free_readable most decimal free =
      let named = numbered four.family most in
      let clear = free_allowed named.family (marked sixth four.con) (λ is. free (named.is ∙ ap family_number is)) in
      ap readable (read_of_lem named.family named.is ∙ so_reads named.family four decimal clear)
