-- 02, request 6: what is lent, and in which order it is refused: "31 first, a lent cell whose sum, sign aside, is beyond its count times
-- 9,999,990,000,000; 10 and 11 as the log gives them; 23 when a count would pass 65,535; in all of these the table stays as before that record."
use Rattle.std.specs.Prelude.{ℕ, suc, ◌+◌, ◌*◌, ◌^◌, ◌≤◌, ◌<◌, ◌≡◌, true, false, List, [], ◌∷◌, ◌++◌, nat_abs, ◌+ℤ◌, length, take, Ok, Err}
use Rattle.refusal.specs.declared.Refusal.TheVariants.{RecordBroken, CountFull, SumBeyond}
use Rattle.records.specs.declared.records.Record.{Record}
use Rattle.records.specs.Layout.{bytes_of_record}
use Rattle.records.specs.Records.{good}
use Rattle.records.specs.Reading.{read_record}
use Rattle.records.specs.Stepping.{whole_log}
use Rattle.hour_cell.specs.declared.cells.Cell.{Cell}
use Rattle.hour_table.specs.declared.filled.Filled.{Filled}
use Rattle.hour_table.specs.Tables.{Table, empty_table, sound_table}
use Rattle.hour_table.specs.Filling.{stays, entered, followed, filled_from}
use Rattle.hour_mean.specs.Means.{mean_of}
use Rattle.demands.specs.Tables.{settled_gross, refused_record, falls, weight_in, refused_in, how_many, sum_of, cell_of, went_in, GoneIn, over_table}

-- ---- "The table is seven rows of twenty-four cells"

abbrev pub AllOfTwentyFour : Table → Type 0
AllOfTwentyFour [] = Unit
AllOfTwentyFour (row ∷ rows) = (length row ≡ 24) × AllOfTwentyFour rows

pub record SevenByTwentyFour (table : Table) : Type 0 where
  pub rows : length table ≡ 7
  pub cells : AllOfTwentyFour table

-- the first one is such, and filling keeps it
pub record ShapeKept : Type 0 where
  pub empty : SevenByTwentyFour empty_table
  pub by_record : (item : Record) (table : Table) → SevenByTwentyFour table → SevenByTwentyFour (entered item table).table
  pub by_log : (log : List ℕ) (table : Table) → SevenByTwentyFour table → SevenByTwentyFour (filled_from log table).table

-- ---- a lent table is filled further: each cell holds what it held, and what was counted

pub record Holds (weekday hour : ℕ) (before : Cell) (items : List Record) (cell : Cell) : Type 0 where
  pub weights : cell.weights ≡ before.weights + how_many (weight_in weekday hour) items
  pub sum : cell.sum ≡ before.sum +ℤ sum_of (weight_in weekday hour) items
  pub refused : cell.refused ≡ before.refused + how_many (refused_in weekday hour) items

abbrev pub FilledFurther : Type 0
FilledFurther =
    (log : List ℕ) (table : Table) (weekday hour : ℕ) → SevenByTwentyFour table
    → Holds weekday hour (cell_of table weekday hour) (went_in log (filled_from log table)) (cell_of (filled_from log table).table weekday hour)

-- ---- 31: "a lent cell whose sum, sign aside, is beyond its count times 9,999,990,000,000": any of the 168

abbrev pub IsBeyond : Cell → Type 0
IsBeyond cell = cell.weights * 9999990000000 < nat_abs cell.sum

-- whatever the record or the log, the table as it was lent
pub record BeyondFirst (table : Table) : Type 0 where
  pub record_refused : (item : Record) → entered item table ≡ stays table SumBeyond
  pub log_refused : (log : List ℕ) → filled_from log table ≡ stays table SumBeyond

abbrev pub AnyCellBeyond : Type 0
AnyCellBeyond =
    (table : Table) (weekday hour : ℕ) → IsBeyond (cell_of table weekday hour) → BeyondFirst table

-- a table without such a cell is sound
abbrev pub NoCellBeyond : Type 0
NoCellBeyond =
    (table : Table) → SevenByTwentyFour table → ((weekday hour : ℕ) → weekday < 7 → hour < 24 → IsBeyond (cell_of table weekday hour) → ⊥)
    → sound_table table ≡ true

-- what is filled from a sound table is sound and not refused by 31, and we start with a sound one: so 31 is met on lent tables only
pub record KeptSound (filled : Filled) : Type 0 where
  pub sound : sound_table filled.table ≡ true
  pub verdict : filled.verdict ≡ Err SumBeyond → ⊥

pub record StaysSound : Type 0 where
  pub empty : sound_table empty_table ≡ true
  pub by_record : (item : Record) (table : Table) → sound_table table ≡ true → KeptSound (entered item table)
  pub by_log : (log : List ℕ) (table : Table) → sound_table table ≡ true → KeptSound (filled_from log table)

-- no cell of a sound table has a mean that is refused
abbrev pub MeansOfSound : Type 0
MeansOfSound =
    (table : Table) (weekday hour : ℕ) → sound_table table ≡ true → mean_of (cell_of table weekday hour) ≡ Err SumBeyond → ⊥

-- ---- all cells of a lent table together: what they held, and all settled gross weights without overload, and all refused records, that went in

pub record HeldTogether (before : Table) (items : List Record) (table : Table) : Type 0 where
  pub weights : over_table (λ (cell : Cell). cell.weights) table ≡ over_table (λ (cell : Cell). cell.weights) before + how_many settled_gross items
  pub refused : over_table (λ (cell : Cell). cell.refused) table ≡ over_table (λ (cell : Cell). cell.refused) before + how_many refused_record items

abbrev pub NothingLostOfLent : Type 0
NothingLostOfLent = (log : List ℕ) (table : Table) → SevenByTwentyFour table → HeldTogether table (went_in log (filled_from log table)) (filled_from log table).table

-- ---- 23: "when a count would pass 65,535"

-- a count of a cell with some records more is at most 65,535, or would pass it
pub record Room (table : Table) (items : List Record) (weekday hour : ℕ) : Type 0 where
  pub weights : (cell_of table weekday hour).weights + how_many (weight_in weekday hour) items ≤ 65535
  pub refused : (cell_of table weekday hour).refused + how_many (refused_in weekday hour) items ≤ 65535

pub data Passes (table : Table) (items : List Record) : Type 0 where
  weights : (weekday hour : ℕ) → weekday < 7 → hour < 24
      → 65535 < (cell_of table weekday hour).weights + how_many (weight_in weekday hour) items → Passes table items
  refused : (weekday hour : ℕ) → weekday < 7 → hour < 24
      → 65535 < (cell_of table weekday hour).refused + how_many (refused_in weekday hour) items → Passes table items

-- where there is room for all of them, all records that can be read go in, and then 10 or 11 as the log gives them
abbrev pub LentGoesInWhole : Type 0
LentGoesInWhole =
    (log : List ℕ) (table : Table) → SevenByTwentyFour table → sound_table table ≡ true
    → ((weekday hour : ℕ) → weekday < 7 → hour < 24 → Room table (whole_log log).records weekday hour) → GoneIn log (filled_from log table)

-- a record that can be read and did not go in was refused by 23
abbrev pub StopsOnlyFull : Type 0
StopsOnlyFull =
    (log : List ℕ) (table : Table) → sound_table table ≡ true → (filled_from log table).records < length (whole_log log).records
    → (filled_from log table).verdict ≡ Err CountFull

-- and that record would have made a count pass
abbrev pub FullOnlyThere : Type 0
FullOnlyThere =
    (log : List ℕ) (table : Table) → SevenByTwentyFour table → (filled_from log table).verdict ≡ Err CountFull
    → Passes table (take (suc (filled_from log table).records) (whole_log log).records)

-- no count passes
abbrev pub CountsNeverPass : Type 0
CountsNeverPass =
    (log : List ℕ) (table : Table) → SevenByTwentyFour table → ((weekday hour : ℕ) → weekday < 7 → hour < 24 → Room table [] weekday hour)
    → (weekday hour : ℕ) → weekday < 7 → hour < 24 → Room table (went_in log (filled_from log table)) weekday hour

abbrev pub NoMoreThanThere : Type 0
NoMoreThanThere = (log : List ℕ) (table : Table) → (filled_from log table).records ≤ length (whole_log log).records

-- ---- one record, and "record by record"

-- a record that breaks a rule is 11, behind 31
abbrev pub BrokenIsRefused : Type 0
BrokenIsRefused = (item : Record) (table : Table) → good item ≡ false → sound_table table ≡ true → entered item table ≡ stays table RecordBroken

-- a record leaves every cell as it was but that of its own weekday and hour
abbrev pub OtherCellsStay : Type 0
OtherCellsStay =
    (item : Record) (table : Table) (weekday hour : ℕ) → SevenByTwentyFour table → falls weekday hour item ≡ false
    → cell_of (entered item table).table weekday hour ≡ cell_of table weekday hour

-- a good one, its time of 64 bits, does what the log of its 20 bytes does: all that is said here of logs is said of it
abbrev pub LogOfOne : Type 0
LogOfOne = (item : Record) (table : Table) → good item ≡ true → item.time < 256 ^ 8 → entered item table ≡ filled_from (bytes_of_record item) table

-- filling a log is entering its first record and filling the rest; nothing behind a refusal
abbrev pub RecordByRecord : Type 0
RecordByRecord =
    (bytes log : List ℕ) (item : Record) (table : Table) → read_record bytes ≡ Ok item
    → filled_from (bytes ++ log) table ≡ followed (entered item table).verdict (entered item table) (filled_from log (entered item table).table)

-- "in all of these the table stays as before that record": it is the table that the n records before it make by themselves
abbrev pub StaysAsBefore : Type 0
StaysAsBefore =
    (log : List ℕ) (table : Table) → sound_table table ≡ true
    → filled_from (take (20 * (filled_from log table).records) log) table
    ≡ record { table = (filled_from log table).table; records = (filled_from log table).records; verdict = Ok tt }
