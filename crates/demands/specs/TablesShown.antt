-- 02, request 6: the table computed. Times at the edges of hours, days and weeks; a small log and what a person counts in it; the edges of 23 and 31;
-- means.
use Rattle.std.specs.Prelude.{ℕ, ◌+◌, ◌*◌, ◌≡◌, true, false, List, [], ◌∷◌, ◌++◌, map, ℤ, pos, negsuc, neg_ℤ, replicate, Result, Ok, Err, Option, Some, None}
use Rattle.refusal.specs.declared.Refusal.TheVariants.{FieldOutside, LogLeftOver, RecordBroken, CountFull, SumBeyond}
use Rattle.refusal.specs.Numbers.{number_of}
use Rattle.records.specs.declared.records.Record.{Record}
use Rattle.records.specs.Stepping.{bytes_of_log}
use Rattle.hour_cell.specs.declared.cells.Cell.{Cell}
use Rattle.hour_cell.specs.declared.slots.Slot.{Slot}
use Rattle.hour_cell.specs.Slots.{slot_of}
use Rattle.hour_cell.specs.declared.counting.CountsAs.TheVariants as counts_kind
use Rattle.hour_cell.specs.Cells.{largest, sound, with_weight, with_refused}
use Rattle.hour_cell.specs.Counting.{counts_as}
use Rattle.hour_table.specs.declared.filled.Filled.{Filled}
use Rattle.hour_table.specs.Tables.{Table, empty_table}
use Rattle.hour_table.specs.Filling.{table_in, entered, filled_from}
use Rattle.hour_mean.specs.Means.{mean_of}
use Rattle.demands.specs.Tables.{weight_in, refused_in, how_many, sum_of}
use Rattle.refusal.specs.declared.Refusal.{Refusal}
use Rattle.hour_mean.specs.declared.Fraction.{Fraction}

abbrev pub slot : ℕ → ℕ → Slot
slot weekday hour = record { weekday = weekday; hour = hour }

abbrev pub cell : ℕ → ℤ → ℕ → Cell
cell weights sum refused = record { weights = weights; refused = refused; sum = sum }

-- ---- "Time 0 of the log is a Monday midnight"

-- the first hour, its last second, the second hour, Monday's last second, Tuesday, Sunday's last second, and Monday again; and the Unix time of
-- Wednesday, 2026-08-12, 13:45, less 345,600
abbrev pub SlotsShown : Type 0
SlotsShown =
    map slot_of (0 ∷ 3599 ∷ 3600 ∷ 86399 ∷ 86400 ∷ 604799 ∷ 604800 ∷ 1786196700 ∷ [])
    ≡ slot 0 0 ∷ slot 0 0 ∷ slot 0 1 ∷ slot 0 23 ∷ slot 1 0 ∷ slot 6 23 ∷ slot 0 0 ∷ slot 2 13 ∷ []

-- ---- a small log

-- a weighing of address 01 and family 002 by its time, kind, status and two weight bytes, the third being 0; a refusal met on the line
abbrev pub weighing : ℕ → ℕ → ℕ → ℕ → ℕ → Record
weighing time kind status w0 w1 = record { time = time; kind = kind; address = 1; serial = 0; status = status; w0 = w0; w1 = w1; w2 = 0; family = 3 }

abbrev pub met : ℕ → ℕ → Record
met time status = record { time = time; kind = 3; address = 0; serial = 0; status = status; w0 = 0; w1 = 0; w2 = 0; family = 0 }

-- in Monday's first hour: 25.1 kg gross; -0.5 kg gross in its last second; net; not settled; overloaded; a check that was wrong. In the second hour
-- only a refusal. In Sunday's last second a weight of nothing, that was heard
abbrev pub small_log : List Record
small_log =
    weighing 600 1 0x11 0x51 0x02
    ∷ weighing 3599 1 0x91 0x05 0x00
    ∷ weighing 1200 2 0x11 0x51 0x02
    ∷ weighing 1300 1 0x01 0x51 0x02
    ∷ weighing 1400 1 0x19 0x51 0x02
    ∷ met 1500 4
    ∷ met 3600 1
    ∷ weighing 604799 1 0x10 0x00 0x00
    ∷ []

-- by hand: two weights and one refusal in the first hour, no weight and one refusal in the second, one weight in the last
pub record CountedByHand : Type 0 where
  pub first : how_many (weight_in 0 0) small_log ≡ 2
  pub first_sum : sum_of (weight_in 0 0) small_log ≡ pos 246000000
  pub first_refused : how_many (refused_in 0 0) small_log ≡ 1
  pub second : how_many (weight_in 0 1) small_log ≡ 0
  pub second_refused : how_many (refused_in 0 1) small_log ≡ 1
  pub last : how_many (weight_in 6 23) small_log ≡ 1
  pub exchanged : how_many (weight_in 23 6) small_log ≡ 0

-- and these are the cells: Monday's row is the first, Sunday's the last
abbrev pub nothing : Cell
nothing = cell 0 (pos 0) 0

abbrev pub silent_day : List Cell
silent_day = replicate 24 nothing

abbrev pub table_of : Cell → Cell → Cell → Table
table_of first second last =
    (first ∷ second ∷ replicate 22 nothing)
    ∷ silent_day
    ∷ silent_day
    ∷ silent_day
    ∷ silent_day
    ∷ silent_day
    ∷ (replicate 23 nothing ++ (last ∷ []))
    ∷ []

abbrev pub small_table : Table
small_table = table_of (cell 2 (pos 246000000) 1) (cell 0 (pos 0) 1) (cell 1 (pos 0) 0)

abbrev pub filled_by : Table → ℕ → Result (Unit {0}) Refusal → Filled
filled_by table records verdict = record { table = table; records = records; verdict = verdict }

abbrev pub broken : Record
broken = met 0 12

pub record SmallLogFilled : Type 0 where
  pub silent : empty_table ≡ table_of nothing nothing nothing
  pub whole : filled_from (bytes_of_log small_log) empty_table ≡ filled_by small_table 8 (Ok tt)
  pub left_over : filled_from (bytes_of_log small_log ++ (0 ∷ [])) empty_table ≡ filled_by small_table 8 (Err LogLeftOver)
  pub broken_first : filled_from (bytes_of_log small_log ++ (bytes_of_log (broken ∷ small_log) ++ (0 ∷ []))) empty_table ≡ filled_by small_table 8 (Err RecordBroken)
  pub empty : filled_from [] small_table ≡ filled_by small_table 0 (Ok tt)
  pub taken : table_in (filled_by small_table 8 (Ok tt)) ≡ small_table

-- lent with 65,534 weights in Monday's first hour: the first weight goes in, and 23 stops it at the second, also if the log breaks later; the refused
-- record of the second hour does not go in
abbrev pub nearly_full : Table
nearly_full = table_of (cell 65534 (pos 7) 0) nothing nothing

abbrev pub full : Table
full = table_of (cell 65535 (pos 251000007) 0) nothing nothing

-- full in Monday's second hour: a weight of that hour is refused by 23, and one of Tuesday's first hour goes in
abbrev pub full_second : Table
full_second = table_of nothing (cell 65535 (pos 7) 0) nothing

abbrev pub and_tuesday : Table
and_tuesday =
    (nothing ∷ cell 65535 (pos 7) 0 ∷ replicate 22 nothing)
    ∷ (cell 1 (pos 251000000) 0 ∷ replicate 23 nothing)
    ∷ silent_day
    ∷ silent_day
    ∷ silent_day
    ∷ silent_day
    ∷ silent_day
    ∷ []

-- lent with a sum beyond its count in Sunday's last hour: 31, whatever the log or the record
abbrev pub beyond_last : Table
beyond_last = table_of nothing nothing (cell 1 (pos 9999990000001) 0)

pub record LentAtTheEdges : Type 0 where
  pub stops : filled_from (bytes_of_log small_log) nearly_full ≡ filled_by full 1 (Err CountFull)
  pub stops_ahead : filled_from (bytes_of_log (small_log ++ (broken ∷ []))) nearly_full ≡ filled_by full 1 (Err CountFull)
  pub enters : entered (weighing 600 1 0x11 0x51 0x02) nearly_full ≡ filled_by full 1 (Ok tt)
  pub full_now : entered (weighing 600 1 0x11 0x51 0x02) full ≡ filled_by full 0 (Err CountFull)
  pub second_hour : entered (weighing 3600 1 0x11 0x51 0x02) full_second ≡ filled_by full_second 0 (Err CountFull)
  pub second_day : entered (weighing 86400 1 0x11 0x51 0x02) full_second ≡ filled_by and_tuesday 1 (Ok tt)
  pub net_is_good : entered (weighing 600 2 0x11 0x51 0x02) full ≡ filled_by full 1 (Ok tt)
  pub broken_is_refused : entered broken full ≡ filled_by full 0 (Err RecordBroken)
  pub beyond_empty : filled_from [] beyond_last ≡ filled_by beyond_last 0 (Err SumBeyond)
  pub beyond_log : filled_from (bytes_of_log small_log) beyond_last ≡ filled_by beyond_last 0 (Err SumBeyond)
  pub beyond_broken : filled_from (bytes_of_log (broken ∷ [])) beyond_last ≡ filled_by beyond_last 0 (Err SumBeyond)
  pub beyond_record : entered (weighing 600 1 0x11 0x51 0x02) beyond_last ≡ filled_by beyond_last 0 (Err SumBeyond)

-- ---- the edges of 31, 11, 8 and 23, for one record and its cell

abbrev pub SoundShown : Type 0
SoundShown =
    map sound
    (cell 0 (pos 0) 0
    ∷ cell 0 (pos 1) 0
    ∷ cell 0 (negsuc 0) 7
    ∷ cell 1 (pos largest) 0
    ∷ cell 1 (pos (largest + 1)) 0
    ∷ cell 1 (neg_ℤ (pos largest)) 0
    ∷ cell 1 (negsuc largest) 0
    ∷ cell 65535 (pos (65535 * largest)) 0
    ∷ cell 65535 (negsuc (65535 * largest)) 0
    ∷ [])
    ≡ true ∷ false ∷ false ∷ true ∷ false ∷ true ∷ false ∷ true ∷ false ∷ []

-- what a record counts as: gross, below 0, net, not settled, overloaded, a refusal, and 11
abbrev pub CountsShown : Type 0
CountsShown =
    map counts_as
    (weighing 600 1 0x11 0x51 0x02
    ∷ weighing 600 1 0x91 0x05 0x00
    ∷ weighing 600 2 0x11 0x51 0x02
    ∷ weighing 600 1 0x01 0x51 0x02
    ∷ weighing 600 1 0x19 0x51 0x02
    ∷ met 600 8
    ∷ met 600 9
    ∷ weighing 600 1 0x11 0x5A 0x02
    ∷ [])
    ≡ Ok (counts_kind.Weight (pos 251000000))
    ∷ Ok (counts_kind.Weight (negsuc 4999999))
    ∷ Ok counts_kind.Nothing
    ∷ Ok counts_kind.Nothing
    ∷ Ok counts_kind.Nothing
    ∷ Ok counts_kind.Met
    ∷ Err RecordBroken
    ∷ Err RecordBroken
    ∷ []

pub record Asked : Type 0 where
  pub tenths : ℤ
  pub into : Cell
  pub answer : Result Cell Refusal

abbrev pub asked : ℤ → Cell → Result Cell Refusal → Asked
asked tenths into answer = record { tenths = tenths; into = into; answer = answer }

-- a weight more: 65,535 is reached and not passed; 31 goes before 8 and before 23, and 8 before 23; both ends of a sum
abbrev pub weight_edges : List Asked
weight_edges =
    asked (pos 7) (cell 65534 (pos 0) 9) (Ok (cell 65535 (pos 7) 9))
    ∷ asked (pos 7) (cell 65535 (pos 0) 9) (Err CountFull)
    ∷ asked (pos largest) (cell 1 (pos largest) 0) (Ok (cell 2 (pos (2 * largest)) 0))
    ∷ asked (neg_ℤ (pos largest)) (cell 1 (neg_ℤ (pos largest)) 0) (Ok (cell 2 (neg_ℤ (pos (2 * largest))) 0))
    ∷ asked (pos (largest + 1)) (cell 65535 (pos 0) 0) (Err FieldOutside)
    ∷ asked (negsuc largest) (cell 0 (pos 0) 0) (Err FieldOutside)
    ∷ asked (negsuc largest) (cell 0 (pos 5) 0) (Err SumBeyond)
    ∷ asked (pos 7) (cell 65535 (pos (65535 * largest + 1)) 0) (Err SumBeyond)
    ∷ []

pub record EdgesShown : Type 0 where
  pub weights : map (λ (row : Asked). with_weight row.tenths row.into) weight_edges ≡ map (λ (row : Asked). row.answer) weight_edges
  pub refused : map with_refused (cell 65535 (negsuc 6) 65534 ∷ cell 65534 (pos 0) 65535 ∷ cell 0 (pos 5) 65535 ∷ [])
      ≡ Ok (cell 65535 (negsuc 6) 65535) ∷ Err CountFull ∷ Err SumBeyond ∷ []
  pub full : number_of CountFull ≡ 23
  pub beyond : number_of SumBeyond ≡ 31

-- ---- means

abbrev pub fraction : ℤ → ℕ → Result (Option Fraction) Refusal
fraction upper lower = Ok (Some (record { upper = upper; lower = pos lower }))

-- 6 over 4 is 3 over 2, and -6 over 4 is -3 over 2; a sum of 0 is 0 over 1; no weights are no readings, also where refusals were heard; a sum
-- without weights is 31, and so is one beyond its count; and the three cells of the small log
abbrev pub MeansShown : Type 0
MeansShown =
    map mean_of
    (cell 4 (pos 6) 0
    ∷ cell 4 (negsuc 5) 0
    ∷ cell 5 (pos 0) 0
    ∷ cell 7 (pos 5) 0
    ∷ cell 0 (pos 0) 0
    ∷ cell 0 (pos 5) 0
    ∷ cell 1 (pos largest) 0
    ∷ cell 1 (pos (largest + 1)) 0
    ∷ cell 2 (pos 246000000) 1
    ∷ cell 0 (pos 0) 1
    ∷ cell 1 (pos 0) 0
    ∷ [])
    ≡ fraction (pos 3) 2
    ∷ fraction (negsuc 2) 2
    ∷ fraction (pos 0) 1
    ∷ fraction (pos 5) 7
    ∷ Ok None
    ∷ Err SumBeyond
    ∷ fraction (pos largest) 1
    ∷ Err SumBeyond
    ∷ fraction (pos 123000000) 1
    ∷ Ok None
    ∷ fraction (pos 0) 1
    ∷ []
