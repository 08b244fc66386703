-- Shown: what is lent and filled keeps its shape, holds what it held and what was counted, and is refused by 31, 11 and 23 where 02 says so.
-- Why: the records of a log are poured one behind the other, each is good, the log ends `Ok` or with 10 or 11, and one record is a list of one.
use Rattle.std.specs.Prelude.{Ok, Err}
use Prim.Native.Nat.{ℕ, suc, ◌*◌, ◌^◌, ◌≤◌, ◌<◌}
use mathlib.Core.Path.{◌≡◌, ◌∙◌, refl, ap}
use mathlib.Core.Bool.{Bool, true, false, cond}
use mathlib.Core.List.{List, [], ◌∷◌, ◌++◌}
use native.Mathlib.Omega.{arith}
use lib.ListN.{length, take}
use Rattle.std.proofs.lemmas.Grind.{common_steps}
use Rattle.refusal.specs.declared.Refusal.TheVariants.{CountFull, SumBeyond}
use Rattle.refusal.specs.Numbers.{verdict_number}
use Rattle.low_first.specs.LowFirst.{low_bytes}
use Rattle.records.specs.declared.records.Record.{Record}
use Rattle.records.specs.Layout.{bytes_of_record}
use Rattle.records.specs.Records.{good}
use Rattle.records.specs.Stepping.{Log, whole_log, bytes_of_log}
use Rattle.records.proofs.Rules.{read_length}
use Rattle.records.proofs.Joining.{one_more, none, more, log_back}
use Rattle.hour_cell.specs.declared.cells.Cell.{Cell}
use Rattle.hour_cell.specs.Cells.{sound}
use Rattle.hour_cell.specs.Counting.{counts_as}
use Rattle.hour_table.specs.declared.filled.Filled.{Filled}
use Rattle.hour_table.specs.Tables.{Table, sound_table}
use Rattle.hour_table.specs.Filling.{stays, put, entered, followed, poured, filled_from}
use Rattle.hour_mean.specs.Means.{mean_of}
use Rattle.demands.specs.Tables.{cell_of, went_in}
use Rattle.demands.specs.LentTables.{SevenByTwentyFour, ShapeKept, Holds, FilledFurther, BeyondFirst, AnyCellBeyond, NoCellBeyond, KeptSound, StaysSound, MeansOfSound, HeldTogether, NothingLostOfLent, Room, Passes, LentGoesInWhole, StopsOnlyFull, FullOnlyThere, CountsNeverPass, NoMoreThanThere, BrokenIsRefused, OtherCellsStay, LogOfOne, RecordByRecord, StaysAsBefore}
use Rattle.demands.proofs.TableCells.{empty_seven}
use Rattle.demands.proofs.TableSound.{cell_sound, empty_is_sound, all_sound, beyond_unsound, not_beyond_sound}
use Rattle.demands.proofs.TableFilling.{holds_nothing, Poured, pours, put_alone, poured_seven, poured_holds, alone_elsewhere, poured_few, poured_again}
use Rattle.demands.proofs.TableLogs.{orderly, not_at_end, cut}
use Rattle.demands.proofs.TableLimits.{poured_sound, poured_stopped, poured_whole, poured_full, poured_room}
use Rattle.demands.proofs.TableTotals.{together_nothing, poured_together}

-- ---- a log or a record into a lent table

-- what is read, and how it ends
abbrev pub lent : Log → Table → Filled
lent given table = cond (sound_table table) (poured given.records given.ending table) (stays table SumBeyond)

abbrev pub alone : Record → Log
alone item = record { records = item ∷ []; ending = Ok tt }

pub log_lent : (log : List ℕ) (table : Table) → filled_from log table ≡ lent (whole_log log) table
unfolding filled_from
log_lent log table = refl

pub record_lent : (item : Record) (table : Table) → entered item table ≡ lent (alone item) table
unfolding entered
record_lent item table = rw (put_alone item table)

module _ (given : Log) (table : Table) where
  -- what is so of the poured and of the table as it was is so
  pub by_soundness : (P : Filled → Type 0) → P (poured given.records given.ending table) → P (stays table SumBeyond) → P (lent given table)
  by_soundness P filled stayed = grind (arith, common_steps)

  abbrev pub steps : Poured given.ending given.records table (poured given.records given.ending table)
  steps = pours given.records given.ending table

sound_filled : (log : List ℕ) (table : Table) → sound_table table ≡ true → filled_from log table ≡ poured (whole_log log).records (whole_log log).ending table
sound_filled log table s = log_lent log table ∙ rw s

-- ---- seven rows of twenty-four, and what each cell holds

lent_seven : (given : Log) (table : Table) → SevenByTwentyFour table → SevenByTwentyFour (lent given table).table
lent_seven given table seven = by_soundness given table (λ (filled : Filled). SevenByTwentyFour filled.table) (poured_seven (steps given table) seven) seven

pub shape_kept : ShapeKept
shape_kept = record {
  empty = empty_seven;
  by_record = λ item table seven. rw (record_lent item table) (lent_seven (alone item) table seven);
  by_log = λ log table seven. rw (log_lent log table) (lent_seven (whole_log log) table seven);
}

pub filled_further : FilledFurther
filled_further log table weekday hour seven =
    rw (log_lent log table)
    (by_soundness (whole_log log) table (λ (filled : Filled). Holds weekday hour (cell_of table weekday hour) (went_in log filled) (cell_of filled.table weekday hour))
    (poured_holds (steps (whole_log log) table) seven weekday hour) (holds_nothing weekday hour (cell_of table weekday hour)))

-- and all cells together
pub nothing_lost_of_lent : NothingLostOfLent
nothing_lost_of_lent log table seven =
    rw (log_lent log table)
    (by_soundness (whole_log log) table (λ (filled : Filled). HeldTogether table (went_in log filled) filled.table)
    (poured_together (steps (whole_log log) table) seven) (together_nothing table))

pub no_more_than_there : NoMoreThanThere
no_more_than_there log table =
    rw (log_lent log table)
    (by_soundness (whole_log log) table (λ (filled : Filled). filled.records ≤ length (whole_log log).records) (poured_few (steps (whole_log log) table)) (omega arith))

-- ---- 31

beyond_refused : (table : Table) → sound_table table ≡ false → BeyondFirst table
unfolding entered
beyond_refused table unsound = grind (arith, common_steps, log_lent)

pub any_cell_beyond : AnyCellBeyond
any_cell_beyond table weekday hour far = by_test (sound_table table) refl
  where
    by_test : (test : Bool) → sound_table table ≡ test → BeyondFirst table
    by_test true s = absurd (beyond_unsound (cell_of table weekday hour) far (cell_sound table (record { weekday = weekday; hour = hour }) s))
    by_test false s = beyond_refused table s

pub no_cell_beyond : NoCellBeyond
no_cell_beyond table seven near = grind (arith, common_steps, all_sound, not_beyond_sound)

lent_sound : (given : Log) (table : Table) → (given.ending ≡ Err SumBeyond → ⊥) → sound_table table ≡ true → KeptSound (lent given table)
lent_sound given table never s = rw s (poured_sound (steps given table) never s)

pub stays_sound : StaysSound
stays_sound = record {
  empty = empty_is_sound;
  by_record = λ item table s. rw (record_lent item table) (lent_sound (alone item) table (λ (e : Ok tt ≡ Err SumBeyond). omega (arith, ap verdict_number e)) s);
  by_log = λ log table s. rw (log_lent log table) (lent_sound (whole_log log) table (not_at_end log SumBeyond (omega arith)) s);
}

mean_sound : (cell : Cell) → sound cell ≡ true → mean_of cell ≡ Err SumBeyond → ⊥
unfolding mean_of
mean_sound cell s e = grind (arith, common_steps)

pub means_of_sound : MeansOfSound
means_of_sound table weekday hour s = mean_sound (cell_of table weekday hour) (cell_sound table (record { weekday = weekday; hour = hour }) s)

-- ---- 23

pub lent_goes_in_whole : LentGoesInWhole
lent_goes_in_whole log table seven s room =
    let (all, ending) = poured_whole (steps (whole_log log) table) seven s (orderly log).all_good room in
    rw (sound_filled log table s) (record { all = all; ending = ending })

pub stops_only_full : StopsOnlyFull
stops_only_full log table s fewer =
    rw (sound_filled log table s) (poured_stopped (steps (whole_log log) table) s (orderly log).all_good (rw (sound_filled log table s) at fewer))

pub full_only_there : FullOnlyThere
full_only_there log table seven =
    rw (log_lent log table)
    (by_soundness (whole_log log) table (λ (filled : Filled). filled.verdict ≡ Err CountFull → Passes table (take (suc filled.records) (whole_log log).records))
    (poured_full (steps (whole_log log) table) (not_at_end log CountFull (omega arith)) seven)
    (λ (e : Err SumBeyond ≡ Err CountFull). absurd (omega (arith, ap verdict_number e))))

pub counts_never_pass : CountsNeverPass
counts_never_pass log table seven room weekday hour w h =
    rw (log_lent log table)
    (by_soundness (whole_log log) table (λ (filled : Filled). Room table (went_in log filled) weekday hour)
    (poured_room (steps (whole_log log) table) seven weekday hour (room weekday hour w h)) (room weekday hour w h))

-- ---- one record, and record by record

pub broken_is_refused : BrokenIsRefused
unfolding entered put counts_as
broken_is_refused item table bad s = rw (s, bad)

log_alone : (item : Record) → good item ≡ true → item.time < 256 ^ 8 → whole_log (bytes_of_record item) ≡ alone item
unfolding bytes_of_log bytes_of_record low_bytes
log_alone item is_good_lem time = log_back (more is_good_lem time none)

pub other_cells_stay : OtherCellsStay
other_cells_stay item table weekday hour seven elsewhere =
    rw (record_lent item table)
    (by_soundness (alone item) table (λ (filled : Filled). cell_of filled.table weekday hour ≡ cell_of table weekday hour)
    (alone_elsewhere (steps (alone item) table) seven weekday hour elsewhere) refl)

pub log_of_one : LogOfOne
log_of_one item table is_good_lem time = grind (arith, common_steps, log_alone, log_lent, record_lent)

pub record_by_record : RecordByRecord
unfolding entered poured
record_by_record bytes log item table was = by_test (sound_table table) refl
  where
    by_test : (test : Bool) → sound_table table ≡ test
        → filled_from (bytes ++ log) table ≡ followed (entered item table).verdict (entered item table) (filled_from log (entered item table).table)
    by_test true s =
        let after : sound_table (put item table).table ≡ true = rw s at (stays_sound.by_record item table s).sound in
        rw (sound_filled (bytes ++ log) table s, one_more bytes log (read_length bytes item was), was, s, sound_filled log (put item table).table after)
    by_test false s = rw ((beyond_refused table s).log_refused (bytes ++ log), s)

pub stays_as_before : StaysAsBefore
stays_as_before log table s =
    let n = (poured (whole_log log).records (whole_log log).ending table).records in
    rw (sound_filled log table s)
    (log_lent (take (20 * n) log) table
    ∙ ap (λ (given : Log). lent given table) (cut n log (poured_few (steps (whole_log log) table)))
    ∙ rw s (poured_again (steps (whole_log log) table)))
