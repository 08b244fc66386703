-- 02, request 6: "filled from a log read record by record"; "31 first, a lent cell ..; 10 and 11 as the log gives them; 23 when a count would pass
-- 65,535; in all of these the table stays as before that record."
use Rattle.std.specs.Prelude.{ℕ, ◌+◌, cond, List, [], ◌∷◌, drop, Result, Ok, Err}
use Rattle.refusal.specs.declared.Refusal.{Refusal}
use Rattle.refusal.specs.declared.Refusal.TheVariants.{SumBeyond}
use Rattle.records.specs.declared.records.Record.{Record}
use Rattle.records.specs.Stepping.{whole_log}
use Rattle.hour_cell.specs.declared.slots.Slot.{Slot}
use Rattle.hour_cell.specs.Slots.{slot_of}
use Rattle.hour_cell.specs.declared.counting.CountsAs.{CountsAs}
use Rattle.hour_cell.specs.declared.counting.CountsAs.TheVariants as counts_kind
use Rattle.hour_cell.specs.Cells.{with_weight, with_refused}
use Rattle.hour_cell.specs.Counting.{counts_as}
use Rattle.hour_table.specs.declared.filled.Filled.{Filled}
use Rattle.hour_table.specs.Tables.{Table, cell_at, with_cell, sound_table}
use Rattle.hour_cell.specs.declared.cells.Cell.{Cell}

-- the table of an answer
unfoldable pub table_in : Filled → Table
table_in filled = filled.table

-- "in all of these the table stays as before that record"
abbrev pub stays : Table → Refusal → Filled
stays table why = record { table = table; records = 0; verdict = Err why }

-- how many records went in, where one was tried: none if it is refused
abbrev pub gone_in : Result (Unit {0}) Refusal → ℕ
gone_in (Ok tt) = 1
gone_in (Err why) = 0

-- a cell replaced, or the table as it was
abbrev pub replaced_by : Result Cell Refusal → Slot → Table → Filled
replaced_by (Ok cell) slot table = record { table = with_cell table slot cell; records = 1; verdict = Ok tt }
replaced_by (Err why) slot table = stays table why

-- by what a record counts as: what counts for nothing changes no cell and has gone in
abbrev pub put_as : Result CountsAs Refusal → Slot → Table → Filled
put_as (Ok (counts_kind.Weight tenths)) slot table = replaced_by (with_weight tenths (cell_at table slot)) slot table
put_as (Ok counts_kind.Met) slot table = replaced_by (with_refused (cell_at table slot)) slot table
put_as (Ok counts_kind.Nothing) slot table = record { table = table; records = 1; verdict = Ok tt }
put_as (Err why) slot table = stays table why

-- a record into the cell of its time
unfoldable pub put : Record → Table → Filled
put item table = put_as (counts_as item) (slot_of item.time) table

-- one record into a lent table: "31 first"
unfoldable pub entered : Record → Table → Filled
entered item table = cond (sound_table table) (put item table) (stays table SumBeyond)

-- one record went in, and then others; nothing goes in behind a refusal
abbrev pub followed : Result (Unit {0}) Refusal → Filled → Filled → Filled
followed (Ok tt) first rest = record { table = rest.table; records = first.records + rest.records; verdict = rest.verdict }
followed (Err why) first rest = first

-- the records of a log one behind the other, and then how the log ends
unfoldable pub poured : List Record → Result (Unit {0}) Refusal → Table → Filled
poured [] ending table = record { table = table; records = 0; verdict = ending }
poured (item ∷ items) ending table = followed (put item table).verdict (put item table) (poured items ending (put item table).table)

-- what the rest of a log from a place makes of the cells, with the records that went in before
unfoldable pub from_here : List ℕ → ℕ → ℕ → Table → Filled
from_here log before place cells =
    let rest : Filled = poured (whole_log (drop place log)).records (whole_log (drop place log)).ending cells in
    record { table = rest.table; records = before + rest.records; verdict = rest.verdict }

-- a log into a lent table: "31 first", also if the log is empty
unfoldable pub filled_from : List ℕ → Table → Filled
filled_from log table = cond (sound_table table) (poured (whole_log log).records (whole_log log).ending table) (stays table SumBeyond)
