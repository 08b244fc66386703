-- 02, request 6: what a record counts as: "the count of settled gross weights without overload, their signed sum in tenths of a milligram, and the
-- count of refused records"; "11 as the log gives" it.
use Rattle.std.specs.Prelude.{ℕ, not, cond, ◌&&◌, eqb, Result, Ok, Err, ℤ}
use Rattle.refusal.specs.declared.Refusal.TheVariants.{RecordBroken}
use Rattle.weight.specs.declared.Reading.{Reading}
use Rattle.weight.specs.Tenths.{value_of}
use Rattle.codes.specs.declared.table.Load.TheVariants.{Gross}
use Rattle.records.specs.declared.records.Record.{Record}
use Rattle.records.specs.Records.{kind_of, was_met, good}
use Rattle.records.specs.Weighings.{weight_noted}
use Rattle.hour_cell.specs.declared.counting.CountsAs.{CountsAs}
use Rattle.hour_cell.specs.declared.counting.CountsAs.TheVariants.{Weight, Met, Nothing}
use Rattle.refusal.specs.declared.Refusal.{Refusal}

-- by its value: a reading that a good record notes and that is not overloaded has one, so neither 8 nor 24 is met here
abbrev pub by_value : Result ℤ Refusal → Result CountsAs Refusal
by_value (Ok tenths) = Ok (Weight tenths)
by_value (Err why) = Err why

-- "settled gross weights without overload": any other counts for nothing, and is not asked for its value
unfoldable pub by_reading : ℕ → Reading → Result CountsAs Refusal
by_reading kind reading = cond (eqb kind (kind_of Gross) && reading.settled && not reading.overload) (by_value (value_of reading)) (Ok Nothing)

-- by the reading that a weighing notes
abbrev pub by_noted : ℕ → Result Reading Refusal → Result CountsAs Refusal
by_noted kind (Ok reading) = by_reading kind reading
by_noted kind (Err why) = Err why

-- 11 for a record that breaks a rule; a refusal met on the line; a weighing by what it notes
unfoldable pub counts_as : Record → Result CountsAs Refusal
counts_as item = cond (good item) (cond (was_met item) (Ok Met) (by_noted item.kind (weight_noted item))) (Err RecordBroken)
