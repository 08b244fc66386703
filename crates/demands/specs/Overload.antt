-- 02, request 7, "An overloaded bridge has no weight": "The value of a reading with bit 3 set must be refused. Its digits are still in the reading and
-- the log, so the bytes come back. The listing prints six hyphens for the digits, the float and the gross less net difference are refused too, and every
-- caller of the value now says what it does then. Refusals: 24 overload, after 8, instead of a value". That the bytes come back is said of every CON:
-- Families (ComeBack), Messages, Kept, LogsFromBefore. A weight line read by its blanks: WeightLines.
use Rattle.std.specs.Prelude.{ℕ, ◌≡◌, Bool, true, false, ◌&&◌, ◌||◌, List, ◌++◌, ◌-ℤ◌, Result, Ok, Err, Some}
use Rattle.refusal.specs.declared.Refusal.{Refusal}
use Rattle.refusal.specs.declared.Refusal.TheVariants.{FieldOutside, RecordBroken, Overloaded}
use Rattle.body.specs.declared.addresses.Address.{Address}
use Rattle.weight.specs.declared.FourBytes.{FourBytes}
use Rattle.weight.specs.declared.Reading.{Reading}
use Rattle.weight.specs.Status.{overload, marked}
use Rattle.weight.specs.Bytes.{in_range, read_of, readable}
use Rattle.weight.specs.Tenths.{tenths_shown, value_of, difference_of}
use Rattle.kilograms.specs.Rounded.{rounded, kilograms_of}
use Rattle.codes.specs.declared.table.Load.{Load}
use Rattle.records.specs.declared.records.Record.{Record}
use Rattle.records.specs.Records.{weighs, good}
use Rattle.hour_cell.specs.declared.counting.CountsAs.TheVariants as counts_kind
use Rattle.hour_cell.specs.Counting.{by_reading, counts_as}
use Rattle.hour_table.specs.Tables.{Table, sound_table}
use Rattle.hour_table.specs.Filling.{entered, filled_from}
use Rattle.entries.specs.declared.entries.Entry.TheVariants as entry_as
use Rattle.listing.specs.Texts.{spelt, decimal}
use Rattle.listing.specs.Lines.{line, mode_fields, line_of}
use Rattle.demands.specs.BeforeFamilies.{without, ahead, fields_with}
use Rattle.demands.specs.Unheard.{ReadsAsNone, RefusedAcross}

-- ---- "24 overload, after 8, instead of a value"

-- an answer, by whether all readings that are asked lie in their ranges, and whether one of them is overloaded
pub record EightThenTwentyFour {A : Type 0} (within over : Bool) (answer otherwise : Result A Refusal) : Type 0 where
  pub eight : within ≡ false → answer ≡ Err FieldOutside
  pub twenty_four : within ≡ true → over ≡ true → answer ≡ Err Overloaded
  pub neither : within ≡ true → over ≡ false → answer ≡ otherwise

-- the value, the float in kilograms, and gross less net: 8 of either reading, then 24 of either
pub record OverloadRefused : Type 0 where
  pub value : (reading : Reading)
      → EightThenTwentyFour (in_range reading) reading.overload (value_of reading) (Ok (tenths_shown reading))
  pub kilograms : (reading : Reading)
      → EightThenTwentyFour (in_range reading) reading.overload (kilograms_of reading) (Ok (rounded (tenths_shown reading)))
  pub difference : (gross net : Reading)
      → EightThenTwentyFour (in_range gross && in_range net) (gross.overload || net.overload) (difference_of gross net)
      (Ok (tenths_shown gross -ℤ tenths_shown net))

-- ---- in another language: 8 where four bytes cannot be read, also beside an overloaded weight; then 24 where bit 3 of CON is set, in any family

abbrev pub EightAcross : Type 0
EightAcross = (weight : FourBytes) → readable (read_of weight) ≡ false → ReadsAsNone weight

abbrev pub OverloadAcross : Type 0
OverloadAcross = (weight : FourBytes) → readable (read_of weight) ≡ true → marked overload weight.con ≡ true → RefusedAcross weight

-- ---- "The listing prints six hyphens for the digits": sign, point, settled, overload and the last field as before

abbrev pub HyphensForDigits : Type 0
HyphensForDigits =
    (reading : Reading) → reading.overload ≡ true → (number : ℕ) (load : Load) (address : Address)
    → line_of number (Some (entry_as.Weight load address reading))
    ≡ line (decimal number) (ahead load address (fields_with (spelt "------") (without reading) ++ mode_fields reading))

-- ---- the table counts weights "without overload": it never asks an overloaded value, and so meets no 24

-- a good weighing with bit 3 set goes in and changes nothing, however full its cell is
abbrev pub OverloadGoesIn : Type 0
OverloadGoesIn =
    (item : Record) (table : Table) → good item ≡ true → weighs item ≡ true → marked overload item.status ≡ true → sound_table table ≡ true
    → entered item table ≡ record { table = table; records = 1; verdict = Ok tt }

pub record TableMeetsNone : Type 0 where
  pub unasked : (kind : ℕ) (reading : Reading) → reading.overload ≡ true → by_reading kind reading ≡ Ok counts_kind.Nothing
  pub counted : (item : Record) (why : Refusal) → counts_as item ≡ Err why → why ≡ RecordBroken
  pub by_record : (item : Record) (table : Table) → (entered item table).verdict ≡ Err Overloaded → ⊥
  pub by_log : (log : List ℕ) (table : Table) → (filled_from log table).verdict ≡ Err Overloaded → ⊥
