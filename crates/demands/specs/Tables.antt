-- 02, request 6, "The weekday and hour table": "Say it as a statement about all records of the log." Each cell is compared with what a person
-- counts by hand, by their fields, in the records that went in. How a table is filled beyond that (31, record by record, lent tables) is in LentTables.
use Rattle.std.specs.Prelude.{ℕ, suc, ◌+◌, ◌*◌, ◌-◌, ◌/◌, ◌%◌, ◌^◌, ◌≤◌, ◌<◌, ◌≡◌, Bool, true, not, cond, ◌&&◌, List, [], ◌∷◌, eqb, ℤ, pos, ◌+ℤ◌, length, take, get_or, Ok, None}
use Rattle.weight.specs.Digits.{digits_of}
use Rattle.weight.specs.Status.{marked, minus, settled, overload}
use Rattle.weight.specs.Tenths.{signed}
use Rattle.records.specs.declared.records.Record.{Record}
use Rattle.records.specs.Stepping.{whole_log}
use Rattle.hour_cell.specs.declared.cells.Cell.{Cell}
use Rattle.hour_table.specs.declared.filled.Filled.{Filled}
use Rattle.hour_table.specs.Tables.{Table, empty_table}
use Rattle.hour_table.specs.Filling.{filled_from}
use Rattle.hour_mean.specs.Means.{mean_of}

-- ---- what a person counts by hand, from the fields of a record

-- "settled gross weights without overload": kind 1, bit 4 of the status set, bit 3 not
abbrev pub settled_gross : Record → Bool
settled_gross item = eqb item.kind 1 && (marked settled item.status && not (marked overload item.status))

-- "refused records": kind 3
abbrev pub refused_record : Record → Bool
refused_record item = eqb item.kind 3

-- "tenths of a milligram: the digits times 10^(7 − point), negated for minus"; the point is the low three bits of the status
abbrev pub tenths_of : Record → ℤ
tenths_of item = signed (marked minus item.status) (digits_of item.w0 item.w1 item.w2 * 10 ^ (7 - item.status % 8))

-- in this weekday, 0 for Monday, and this hour: by whole days and whole hours since "a Monday midnight"
abbrev pub falls : ℕ → ℕ → Record → Bool
falls weekday hour item = eqb (item.time / 86400 % 7) weekday && eqb (item.time / 3600 % 24) hour

abbrev pub weight_in : ℕ → ℕ → Record → Bool
weight_in weekday hour item = falls weekday hour item && settled_gross item

abbrev pub refused_in : ℕ → ℕ → Record → Bool
refused_in weekday hour item = falls weekday hour item && refused_record item

-- how many of some records are such, and the sum of the values of those
unfoldable pub how_many : (Record → Bool) → List Record → ℕ
how_many such [] = 0
how_many such (item ∷ items) = cond (such item) (suc (how_many such items)) (how_many such items)

unfoldable pub sum_of : (Record → Bool) → List Record → ℤ
sum_of such [] = pos 0
sum_of such (item ∷ items) = cond (such item) (tenths_of item +ℤ sum_of such items) (sum_of such items)

-- ---- each cell is what was counted

-- the cell of a weekday and an hour: Monday's row is the first, and a row's first cell that of its midnight
abbrev pub cell_of : Table → ℕ → ℕ → Cell
cell_of table weekday hour = get_or (get_or table weekday []) hour (record { weights = 0; refused = 0; sum = pos 0 })

-- the records of a log that have gone in: the first n
abbrev pub went_in : List ℕ → Filled → List Record
went_in log filled = take filled.records (whole_log log).records

-- for every log and the table in which nothing was heard: each cell's count is the number of the first n records that are settled gross weights
-- without overload in that weekday and hour, its sum the sum of their values, its refused count the number of refused records there
pub record IsCounted (weekday hour : ℕ) (items : List Record) (cell : Cell) : Type 0 where
  pub weights : cell.weights ≡ how_many (weight_in weekday hour) items
  pub sum : cell.sum ≡ sum_of (weight_in weekday hour) items
  pub refused : cell.refused ≡ how_many (refused_in weekday hour) items

abbrev pub CellsAreCounted : Type 0
CellsAreCounted =
    (log : List ℕ) (weekday hour : ℕ) → weekday < 7 → hour < 24
    → IsCounted weekday hour (went_in log (filled_from log empty_table)) (cell_of (filled_from log empty_table).table weekday hour)

-- ---- "23 when a count would pass 65,535": where none does, a whole valid log goes in whole

pub record Fits (items : List Record) (weekday hour : ℕ) : Type 0 where
  pub weights : how_many (weight_in weekday hour) items ≤ 65535
  pub refused : how_many (refused_in weekday hour) items ≤ 65535

pub record GoneIn (log : List ℕ) (filled : Filled) : Type 0 where
  pub all : filled.records ≡ length (whole_log log).records
  pub ending : filled.verdict ≡ (whole_log log).ending

-- all records that can be read go in, and then 10 or 11 as the log gives them; for a whole and valid log `Ok`
abbrev pub GoesInWhole : Type 0
GoesInWhole =
    (log : List ℕ) → ((weekday hour : ℕ) → weekday < 7 → hour < 24 → Fits (whole_log log).records weekday hour)
    → GoneIn log (filled_from log empty_table)

-- and only there
abbrev pub WholeOnlyWhereItFits : Type 0
WholeOnlyWhereItFits =
    (log : List ℕ) → GoneIn log (filled_from log empty_table)
    → (weekday hour : ℕ) → weekday < 7 → hour < 24 → Fits (whole_log log).records weekday hour

-- ---- no record counts in two cells, and each has one: cells are counted by `falls`, and a record changes no other cell (LentTables, OtherCellsStay)

-- by the calendar: whole weeks since "a Monday midnight", the whole days and hours since, and the seconds of that hour
abbrev pub ByTheCalendar : Type 0
ByTheCalendar =
    (item : Record) (weeks weekday hour seconds : ℕ) → weekday < 7 → hour < 24 → seconds < 3600
    → item.time ≡ weeks * 604800 + weekday * 86400 + hour * 3600 + seconds → falls weekday hour item ≡ true

pub record Same (weekday hour weekday' hour' : ℕ) : Type 0 where
  pub weekday_same : weekday ≡ weekday'
  pub hour_same : hour ≡ hour'

abbrev pub NotInTwoCells : Type 0
NotInTwoCells =
    (item : Record) (weekday hour weekday' hour' : ℕ) → falls weekday hour item ≡ true → falls weekday' hour' item ≡ true
    → Same weekday hour weekday' hour'

pub record InACell (item : Record) : Type 0 where
  pub weekday : ℕ
  pub hour : ℕ
  pub weekday_there : weekday < 7
  pub hour_there : hour < 24
  pub there : falls weekday hour item ≡ true

abbrev pub EachHasACell : Type 0
EachHasACell = (item : Record) → InACell item

-- ---- "a cell with no weights answers "no readings" and never a zero"

pub record Unheard (cell : Cell) : Type 0 where
  pub count : cell.weights ≡ 0
  pub mean : mean_of cell ≡ Ok None

-- where nothing was heard, and nowhere else
abbrev pub NothingHeard : Type 0
NothingHeard =
    (log : List ℕ) (weekday hour : ℕ) → weekday < 7 → hour < 24
    → how_many (weight_in weekday hour) (went_in log (filled_from log empty_table)) ≡ 0
    → Unheard (cell_of (filled_from log empty_table).table weekday hour)

abbrev pub SomethingHeard : Type 0
SomethingHeard =
    (log : List ℕ) (weekday hour : ℕ) → weekday < 7 → hour < 24
    → mean_of (cell_of (filled_from log empty_table).table weekday hour) ≡ Ok None
    → how_many (weight_in weekday hour) (went_in log (filled_from log empty_table)) ≡ 0

-- ---- nothing is lost: all cells together are all settled gross weights without overload, and all refused records, that went in

unfoldable pub over_cells : (Cell → ℕ) → List Cell → ℕ
over_cells part [] = 0
over_cells part (cell ∷ cells) = part cell + over_cells part cells

unfoldable pub over_table : (Cell → ℕ) → Table → ℕ
over_table part [] = 0
over_table part (row ∷ rows) = over_cells part row + over_table part rows

pub record NothingLost (table : Table) (items : List Record) : Type 0 where
  pub weights : over_table (λ (cell : Cell). cell.weights) table ≡ how_many settled_gross items
  pub refused : over_table (λ (cell : Cell). cell.refused) table ≡ how_many refused_record items

abbrev pub AllAreCounted : Type 0
AllAreCounted = (log : List ℕ) → NothingLost (filled_from log empty_table).table (went_in log (filled_from log empty_table))
