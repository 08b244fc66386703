-- Shown: what a record notes tells what it counts as: its reading by its kind, and where it notes none, 11 or a refusal met on the line.
-- Why: a good record that notes no reading is a refusal met on the line.
use Rattle.std.specs.Prelude.{Ok, Err}
use mathlib.Core.Path.{◌≡◌, ◌∙◌, refl, sym, ap}
use mathlib.Core.Bool.{Bool, true, false, cond, ◌&&◌, true≢false, and-eq-true_iff}
use Rattle.refusal.specs.declared.Refusal.{Refusal}
use Rattle.refusal.specs.declared.Refusal.TheVariants.{RecordBroken}
use Rattle.weight.specs.declared.Reading.{Reading}
use Rattle.weight.specs.Bytes.{readable}
use Rattle.records.specs.declared.records.Record.{Record}
use Rattle.records.specs.Records.{weighs, was_met, good_address, reading_in, good_weighing, good}
use Rattle.records.specs.Weighings.{weight_noted}
use Rattle.records.proofs.Unweighed.{met_unheard, weighing_noted}
use Rattle.hour_cell.specs.declared.counting.CountsAs.TheVariants as counts_kind
use Rattle.hour_cell.specs.Counting.{by_reading, by_noted, counts_as}

module _ (item : Record) where
  pub broken_noted : good item ≡ false → weight_noted item ≡ Err RecordBroken
  unfolding weight_noted
  broken_noted g = rw g

  pub by_its_reading : (reading : Reading) → weight_noted item ≡ Ok reading → by_reading item.kind reading ≡ counts_as item
  unfolding counts_as
  by_its_reading reading noted = by_rule (good item) (was_met item) refl refl
    where
      by_rule : (g m : Bool) → good item ≡ g → was_met item ≡ m
          → by_reading item.kind reading ≡ cond g (cond m (Ok counts_kind.Met) (by_noted item.kind (weight_noted item))) (Err RecordBroken)
      by_rule true true g m = absurd (met_unheard item m reading noted)
      by_rule true false g m = ap (by_noted item.kind) (sym noted)
      by_rule false m g met = let clash : Err RecordBroken ≡ Ok reading = sym (broken_noted g) ∙ noted in cc

  -- a good record that is no refusal can be read
  good_reads : good item ≡ true → was_met item ≡ false → readable (reading_in item) ≡ true
  unfolding good good_weighing
  good_reads g m = by_kind (weighs item) (rw m at g)
    where
      by_kind : (w : Bool) → cond w (good_address item && readable (reading_in item)) false ≡ true → readable (reading_in item) ≡ true
      by_kind true e = ((and-eq-true_iff (good_address item) (readable (reading_in item))).0 e).1
      by_kind false e = absurd (true≢false (sym e))

  pub by_its_rule : (why : Refusal) → weight_noted item ≡ Err why → cond (good item) (Ok counts_kind.Met) (Err why) ≡ counts_as item
  unfolding counts_as
  by_its_rule why noted = by_rule (good item) (was_met item) refl refl
    where
      by_rule : (g m : Bool) → good item ≡ g → was_met item ≡ m
          → cond g (Ok counts_kind.Met) (Err why) ≡ cond g (cond m (Ok counts_kind.Met) (by_noted item.kind (weight_noted item))) (Err RecordBroken)
      by_rule true true g m = refl
      by_rule true false g m = absurd (true≢false (sym (good_reads g m) ∙ ap readable (sym (weighing_noted item g m) ∙ noted)))
      by_rule false m g met = let same : Err RecordBroken ≡ Err why = sym (broken_noted g) ∙ noted in cc

  -- where it notes none: a good record is a refusal met on the line
  pub met_where_good : (why : Refusal) → weight_noted item ≡ Err why → good item ≡ true → Ok counts_kind.Met ≡ counts_as item
  met_where_good why noted is_good = rw is_good at (by_its_rule why noted)

  -- and any other is 11
  pub broken_counts : good item ≡ false → counts_as item ≡ Err RecordBroken
  unfolding counts_as
  broken_counts broken = rw broken

-- what each of the three ways comes to
pub ruleset ways = (by_its_reading, met_where_good, broken_noted, broken_counts)
