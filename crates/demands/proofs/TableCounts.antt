-- Shown: what a good record counts as is what a person says of its fields, and a cell into which it went holds that much more, and stays sound.
-- Why: a good weighing notes the reading of its own four bytes, whose settled and overload bits and whose value are read from the same bytes.
use Rattle.std.specs.Prelude.{Result, Ok, Err, Option, Some, None}
use Prim.Native.Nat.{◌+◌, ◌≤◌}
use mathlib.Core.Path.{◌≡◌, refl, sym, subst}
use mathlib.Core.Bool.{Bool, true, false, not, cond, ◌&&◌, and-eq-true_iff}
use native.Mathlib.Omega.{arith}
use borrow.Author.Tests.{eqb-true, ltb-true, ltb-false, le-ltb}
use lib.Dec.{eqb, ltb}
use lib.IntN.{ℤ, pos, nat_abs, ◌+ℤ◌, +ℤ_idr}
use Rattle.std.proofs.lemmas.Grind.{common_steps}
use Rattle.refusal.specs.declared.Refusal.{Refusal}
use Rattle.refusal.specs.declared.Refusal.TheVariants.{FieldOutside, RecordBroken, CountFull, Overloaded, SumBeyond}
use Rattle.weight.specs.declared.families.Family.{Family}
use Rattle.weight.specs.declared.Reading.{Reading}
use Rattle.weight.specs.Digits.{all_decimal, digits_of}
use Rattle.weight.specs.Families.{terminal, family_named, allowed}
use Rattle.weight.specs.Status.{sixth, settled, overload, marked, reading_of}
use Rattle.weight.specs.Bytes.{read_as, read_named, read_of, readable}
use Rattle.weight.specs.Tenths.{value_of}
use Rattle.weight.proofs.RoundTrip.{legal_of_read}
use Rattle.records.specs.declared.records.Record.{Record}
use Rattle.records.specs.Records.{weighs, was_met, weight_bytes, reading_in, good_weighing, good}
use Rattle.records.proofs.Unweighed.{weighing_noted}
use Rattle.hour_cell.specs.declared.cells.Cell.{Cell}
use Rattle.hour_cell.specs.declared.counting.CountsAs.{CountsAs}
use Rattle.hour_cell.specs.declared.counting.CountsAs.TheVariants.{Weight, Met, Nothing}
use Rattle.hour_cell.specs.Cells.{largest, sound, would_pass, with_weight, with_refused}
use Rattle.hour_cell.specs.Counting.{by_value, by_reading, by_noted, counts_as}
use Rattle.hour_cell.proofs.Sums.{grown_size, counts_size}
use Rattle.demands.specs.Tables.{settled_gross, refused_record, tenths_of}

-- ---- what a good record counts as

-- a weight that counts, or does not
abbrev pub weight_if : Bool → ℤ → Result CountsAs Refusal
weight_if counts tenths = cond counts (Ok (Weight tenths)) (Ok Nothing)

-- by its fields alone
abbrev by_hand : Record → Result CountsAs Refusal
by_hand item = cond (refused_record item) (Ok Met) (weight_if (settled_gross item) (tenths_of item))

-- of a weighing that could be read
abbrev weighed : Record → Result CountsAs Refusal
weighed item = weight_if (eqb item.kind 1 && marked settled item.status && not (marked overload item.status)) (tenths_of item)

abbrev bytes_right : Record → Family → Bool
bytes_right item family = all_decimal item.w0 item.w1 item.w2 && allowed (terminal family).sixth (marked sixth item.status)

abbrev reading_shown : Record → Family → Reading
reading_shown item family = reading_of family (digits_of item.w0 item.w1 item.w2) item.status

-- where the tests hold there is no overload, so the value is the digits'
by_marks : (gross settles over : Bool) (tenths : ℤ)
    → cond (gross && settles && not over) (by_value (cond over (Err Overloaded) (Ok tenths))) (Ok Nothing)
    ≡ weight_if (gross && settles && not over) tenths
by_marks gross settles over tenths = grind (arith, common_steps)

by_family : (item : Record) (family : Family) → readable (read_as family (weight_bytes item)) ≡ true → by_noted item.kind (read_as family (weight_bytes item)) ≡ weighed item
unfolding read_as by_reading value_of
by_family item family = by_test (bytes_right item family) refl
  where
    by_test : (right : Bool) → bytes_right item family ≡ right
        → readable (cond right (Ok (reading_shown item family)) (Err FieldOutside)) ≡ true
        → by_noted item.kind (cond right (Ok (reading_shown item family)) (Err FieldOutside)) ≡ weighed item
    by_test true right e =
        let (digits, bit) = (and-eq-true_iff (all_decimal item.w0 item.w1 item.w2) (allowed (terminal family).sixth (marked sixth item.status))).0 right in
        rw (legal_of_read family (weight_bytes item) digits bit) (by_marks (eqb item.kind 1) (marked settled item.status) (marked overload item.status) (tenths_of item))
    by_test false right e = cc

by_name : (item : Record) (named : Option Family) → readable (read_named named (weight_bytes item)) ≡ true → by_noted item.kind (read_named named (weight_bytes item)) ≡ weighed item
by_name item (Some family) e = by_family item family e
by_name item None e = cc

by_reading_lem : (item : Record) → readable (reading_in item) ≡ true → by_noted item.kind (reading_in item) ≡ weighed item
unfolding read_of
by_reading_lem item = by_name item (family_named item.family)

weighing_readable : (item : Record) → good item ≡ true → was_met item ≡ false → readable (reading_in item) ≡ true
unfolding good good_weighing
weighing_readable item is_good_lem unmet = grind (arith, common_steps)

pub counts_by_hand : (item : Record) → good item ≡ true → counts_as item ≡ by_hand item
unfolding counts_as
counts_by_hand item is_good_lem = grind (arith, common_steps, by_reading_lem, weighing_noted, weighing_readable)

broken_counts : (item : Record) → good item ≡ false → counts_as item ≡ Err RecordBroken
unfolding counts_as
broken_counts item bad = rw bad

-- so a record is refused by 11 alone: no value is asked that could be refused
pub refused_broken : (item : Record) (why : Refusal) → counts_as item ≡ Err why → why ≡ RecordBroken
refused_broken item why e = grind (arith, common_steps, broken_counts, counts_by_hand)

-- a weighing is of kind 1 or 2, and so was not met
pub not_met : (item : Record) → weighs item ≡ true → was_met item ≡ false
not_met item weighing = grind (arith, common_steps)

-- kind 3 is not kind 1
met_only : (item : Record) → refused_record item ≡ true → settled_gross item ≡ false
met_only item met = rw (eqb-true item.kind 3 met)

-- ---- a record and a cell

-- a cell into which a record goes, by what it counts as: what counts for nothing leaves it as it is
abbrev pub added_as : Result CountsAs Refusal → Cell → Result Cell Refusal
added_as (Ok (Weight tenths)) cell = with_weight tenths cell
added_as (Ok Met) cell = with_refused cell
added_as (Ok Nothing) cell = Ok cell
added_as (Err why) cell = Err why

unfoldable pub added : Record → Cell → Result Cell Refusal
added item cell = added_as (counts_as item) cell

-- a count that has not passed does not pass
pub record StaysFew (before after : Cell) : Type 0 where
  pub weights : before.weights ≤ 65535 → after.weights ≤ 65535
  pub refused : before.refused ≤ 65535 → after.refused ≤ 65535

pub few_same : (cell : Cell) → StaysFew cell cell
few_same cell = record { weights = λ few. few; refused = λ few. few }

-- the cell that it went into
pub record Grown (item : Record) (before after : Cell) : Type 0 where
  pub weights : after.weights ≡ before.weights + cond (settled_gross item) 1 0
  pub sum : after.sum ≡ before.sum +ℤ cond (settled_gross item) (tenths_of item) (pos 0)
  pub refused : after.refused ≡ before.refused + cond (refused_record item) 1 0
  pub stays : sound before ≡ true → sound after ≡ true
  pub few : StaysFew before after

-- a count that it would make pass
pub data Full (item : Record) (cell : Cell) : Type 0 where
  full_weights : settled_gross item ≡ true → 65535 ≤ cell.weights → Full item cell
  full_refused : refused_record item ≡ true → 65535 ≤ cell.refused → Full item cell

-- the one it did not go into
pub data Stopped (item : Record) (cell : Cell) : Refusal → Type 0 where
  beyond : sound cell ≡ false → Stopped item cell SumBeyond
  broken : good item ≡ false → Stopped item cell RecordBroken
  full : Full item cell → Stopped item cell CountFull

abbrev Went : Record → Cell → Result Cell Refusal → Type 0
Went item cell (Ok after) = Grown item cell after
Went item cell (Err why) = Stopped item cell why

-- with one weight more, and with one refused record more
abbrev heavier : Record → Cell → Cell
heavier item cell = record { weights = cell.weights + 1; refused = cell.refused; sum = cell.sum +ℤ tenths_of item }

abbrev refused_more : Cell → Cell
refused_more cell = record { weights = cell.weights; refused = cell.refused + 1; sum = cell.sum }

module _ (item : Record) (cell : Cell) where
  heavier_stays : counts_as item ≡ Ok (Weight (tenths_of item)) → sound cell ≡ true → sound (heavier item cell) ≡ true
  unfolding sound
  heavier_stays weight s = grind (arith, common_steps, counts_size, grown_size)

  one_weight : counts_as item ≡ Ok (Weight (tenths_of item)) → refused_record item ≡ false → settled_gross item ≡ true → Went item cell (with_weight (tenths_of item) cell)
  unfolding with_weight
  one_weight weight unmet gross =
      let within : ltb largest (nat_abs (tenths_of item)) ≡ false = le-ltb _ _ (counts_size item (tenths_of item) weight) in
      rw within (by_sound (sound cell) refl)
    where
      by_room : (past : Bool) → would_pass cell.weights ≡ past → Went item cell (cond past (Err CountFull) (Ok (heavier item cell)))
      by_room true past = full (full_weights gross (omega (arith, ltb-true 65535 (cell.weights + 1) past)))
      by_room false past = record {
        weights = rw gross;
        sum = rw gross;
        refused = rw unmet (omega arith);
        stays = heavier_stays weight;
        few = record { weights = λ _. omega (arith, ltb-false 65535 (cell.weights + 1) past); refused = λ few. few };
      }

      by_sound : (is_sound : Bool) → sound cell ≡ is_sound
          → Went item cell (cond (not is_sound) (Err SumBeyond) (cond (would_pass cell.weights) (Err CountFull) (Ok (heavier item cell))))
      by_sound true e = by_room (would_pass cell.weights) refl
      by_sound false e = beyond e

  met_stays : sound cell ≡ true → sound (refused_more cell) ≡ true
  unfolding sound
  met_stays s = s

  one_met : refused_record item ≡ true → Went item cell (with_refused cell)
  unfolding with_refused
  one_met met = by_sound (sound cell) refl
    where
      by_room : (past : Bool) → would_pass cell.refused ≡ past → Went item cell (cond past (Err CountFull) (Ok (refused_more cell)))
      by_room true past = full (full_refused met (omega (arith, ltb-true 65535 (cell.refused + 1) past)))
      by_room false past = record {
        weights = rw (met_only item met) (omega arith);
        sum = rw (met_only item met) (sym (+ℤ_idr cell.sum));
        refused = rw met;
        stays = met_stays;
        few = record { weights = λ few. few; refused = λ _. omega (arith, ltb-false 65535 (cell.refused + 1) past) };
      }

      by_sound : (is_sound : Bool) → sound cell ≡ is_sound
          → Went item cell (cond (not is_sound) (Err SumBeyond) (cond (would_pass cell.refused) (Err CountFull) (Ok (refused_more cell))))
      by_sound true e = by_room (would_pass cell.refused) refl
      by_sound false e = beyond e

  by_counts : (met gross : Bool) → refused_record item ≡ met → settled_gross item ≡ gross → counts_as item ≡ cond met (Ok Met) (weight_if gross (tenths_of item))
      → Went item cell (added_as (cond met (Ok Met) (weight_if gross (tenths_of item))) cell)
  by_counts met gross e f counts = grind (arith, common_steps, one_met, one_weight)

  went : Went item cell (added item cell)
  unfolding added
  went = by_good (good item) refl
    where
      by_good : (is_good_lem : Bool) → good item ≡ is_good_lem → Went item cell (added_as (counts_as item) cell)
      by_good true e =
          let counts = counts_by_hand item e in
          rw counts (by_counts (refused_record item) (settled_gross item) refl refl counts)
      by_good false e = rw (broken_counts item e) (broken e)

  pub grown : (after : Cell) → added item cell ≡ Ok after → Grown item cell after
  grown after e = subst (Went item cell) e went

  pub stopped : (why : Refusal) → added item cell ≡ Err why → Stopped item cell why
  stopped why e = subst (Went item cell) e went
