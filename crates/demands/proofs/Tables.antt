-- Shown: a table filled from a log holds in each cell, and in all together, what a person counts in the records that went in, and when all go in.
-- Why: it is the lent table in which nothing was heard, so each cell holds nothing but what was counted.
use Rattle.std.specs.Prelude.{Ok, None}
use Prim.Native.Nat.{ℕ, ◌<◌}
use mathlib.Core.Path.{◌≡◌, ◌∙◌, sym, ap}
use mathlib.Core.Bool.{true}
use mathlib.Core.List.{List, []}
use native.Mathlib.Omega.{arith}
use borrow.Author.Tests.{eq-eqb}
use lib.Seq.{take-length}
use Rattle.std.proofs.lemmas.Grind.{common_steps}
use Rattle.records.specs.declared.records.Record.{Record}
use Rattle.records.specs.Stepping.{whole_log}
use Rattle.hour_cell.specs.declared.cells.Cell.{Cell}
use Rattle.hour_cell.specs.Slots.{slot_of}
use Rattle.hour_cell.specs.Cells.{sound}
use Rattle.hour_table.specs.Tables.{empty_table}
use Rattle.hour_table.specs.Filling.{filled_from}
use Rattle.hour_mean.specs.Means.{mean_of}
use Rattle.demands.specs.Tables.{how_many, cell_of, CellsAreCounted, Fits, GoesInWhole, WholeOnlyWhereItFits, ByTheCalendar, NotInTwoCells, EachHasACell, NothingHeard, SomethingHeard, AllAreCounted}
use Rattle.demands.specs.LentTables.{Room}
use Rattle.demands.proofs.TableCells.{empty_seven, empty_cell_lem}
use Rattle.demands.proofs.TableSound.{empty_is_sound, cell_sound}
use Rattle.demands.proofs.TableFilling.{slot_there, falls_own}
use Rattle.demands.proofs.TableTotals.{empty_weights, empty_refused}
use Rattle.demands.proofs.LentTables.{filled_further, nothing_lost_of_lent, lent_goes_in_whole, counts_never_pass, stays_sound}

-- ---- each cell is what was counted

pub cells_are_counted : CellsAreCounted
cells_are_counted log weekday hour w h = grind (arith, common_steps, empty_cell_lem, empty_seven, filled_further)

-- ---- what fits has room in the table in which nothing was heard

module _ (items : List Record) (weekday hour : ℕ) (w : weekday < 7) (h : hour < 24) where
  no_weights_yet : (cell_of empty_table weekday hour).weights ≡ 0
  no_weights_yet = ap (λ (cell : Cell). cell.weights) (empty_cell_lem weekday hour w h)

  none_refused_yet : (cell_of empty_table weekday hour).refused ≡ 0
  none_refused_yet = ap (λ (cell : Cell). cell.refused) (empty_cell_lem weekday hour w h)

  room_there : Fits items weekday hour → Room empty_table items weekday hour
  room_there fit = grind (arith, common_steps, no_weights_yet, none_refused_yet)

  fits_there : Room empty_table items weekday hour → Fits items weekday hour
  fits_there room = grind (arith, common_steps)

pub goes_in_whole : GoesInWhole
goes_in_whole log fits = grind (arith, common_steps, empty_is_sound, empty_seven, lent_goes_in_whole, room_there)

none_fit : (weekday hour : ℕ) → Fits [] weekday hour
unfolding how_many
none_fit weekday hour = record { weights = omega arith; refused = omega arith }

-- if all went in, those that went in are all
pub whole_only_where_it_fits : WholeOnlyWhereItFits
whole_only_where_it_fits log gone weekday hour w h =
    let room = counts_never_pass log empty_table empty_seven (λ day at d a. room_there [] day at d a (none_fit day at)) weekday hour w h in
    fits_there (whole_log log).records weekday hour w h (rw (gone.all, take-length (whole_log log).records) at room)

-- ---- one cell for each record

-- the time over a day's seconds is the whole days, and over an hour's the whole hours; behind the weeks stand the weekday and the hour
pub by_the_calendar : ByTheCalendar
by_the_calendar item weeks weekday hour seconds w h s e = grind (arith, common_steps)

pub not_in_two_cells : NotInTwoCells
not_in_two_cells item weekday hour weekday' hour' one other = grind (arith, common_steps)

pub each_has_a_cell : EachHasACell
each_has_a_cell item = record {
  weekday = (slot_of item.time).weekday;
  hour = (slot_of item.time).hour;
  weekday_there = (slot_there item.time).weekday;
  hour_there = (slot_there item.time).hour;
  there = falls_own item;
}

-- ---- "no readings"

cell_filled_sound : (log : List ℕ) (weekday hour : ℕ) → sound (cell_of (filled_from log empty_table).table weekday hour) ≡ true
cell_filled_sound log weekday hour =
    cell_sound (filled_from log empty_table).table (record { weekday = weekday; hour = hour }) (stays_sound.by_log log empty_table empty_is_sound).sound

no_readings : (cell : Cell) → sound cell ≡ true → cell.weights ≡ 0 → mean_of cell ≡ Ok None
unfolding mean_of
no_readings cell s none = rw (s, eq-eqb cell.weights 0 none)

no_weights : (cell : Cell) → sound cell ≡ true → mean_of cell ≡ Ok None → cell.weights ≡ 0
unfolding mean_of
no_weights cell s e = grind (arith, common_steps)

pub nothing_heard : NothingHeard
nothing_heard log weekday hour w h none = grind (arith, common_steps, cell_filled_sound, cells_are_counted, no_readings)

pub something_heard : SomethingHeard
something_heard log weekday hour w h e =
    sym (cells_are_counted log weekday hour w h).weights
    ∙ no_weights (cell_of (filled_from log empty_table).table weekday hour) (cell_filled_sound log weekday hour) e

-- ---- nothing is lost

pub all_are_counted : AllAreCounted
all_are_counted log =
    let held = nothing_lost_of_lent log empty_table empty_seven in
    record { weights = omega (arith, held.weights, empty_weights); refused = omega (arith, held.refused, empty_refused) }
