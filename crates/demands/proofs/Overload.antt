-- Shown: the laws of 02's request 7: 8, then 24, of a value, a float and a difference, also across; six hyphens; and no table meets 24.
-- Why: each answer stands behind two tests; bit 3 of the bytes is the reading's mark; what stops a record in a table is 31, 11 or 23.
use Rattle.std.specs.Prelude.{Result, Ok, Err}
use Prim.Native.Nat.{ℕ}
use mathlib.Core.Path.{◌≡◌, ◌∙◌, ap}
use mathlib.Core.Bool.{true}
use mathlib.Core.List.{List}
use native.Mathlib.Omega.{arith}
use Rattle.std.proofs.lemmas.Grind.{common_steps}
use Rattle.refusal.specs.declared.Refusal.{Refusal}
use Rattle.refusal.specs.declared.Refusal.TheVariants.{Overloaded}
use Rattle.weight.specs.declared.FourBytes.{FourBytes}
use Rattle.weight.specs.declared.Reading.{Reading}
use Rattle.weight.specs.Status.{overload, marked}
use Rattle.weight.specs.Bytes.{read_of, readable}
use Rattle.weight.specs.Tenths.{value_of, difference_of}
use Rattle.kilograms.specs.Rounded.{kilograms_of}
use Rattle.records.specs.declared.records.Record.{Record}
use Rattle.records.specs.Records.{weighs, good}
use Rattle.records.specs.Stepping.{Log, whole_log}
use Rattle.hour_cell.specs.declared.cells.Cell.{Cell}
use Rattle.hour_cell.specs.declared.counting.CountsAs.TheVariants as counts_kind
use Rattle.hour_cell.specs.Counting.{by_reading, counts_as}
use Rattle.hour_table.specs.declared.filled.Filled.{Filled}
use Rattle.hour_table.specs.Tables.{Table}
use Rattle.hour_table.specs.Filling.{put, entered}
use Rattle.demands.specs.Overload.{OverloadRefused, OverloadAcross, HyphensForDigits, OverloadGoesIn, TableMeetsNone}
use Rattle.demands.specs.Unheard.{RefusedAcross}
use Rattle.demands.proofs.ByFamily.{read_by, read_legal}
use Rattle.demands.proofs.TableCounts.{counts_by_hand, refused_broken, Stopped, stopped}
use Rattle.demands.proofs.TableFilling.{cell_for, Poured, ends, stops, goes}
use Rattle.demands.proofs.TableLogs.{not_at_end}
use Rattle.demands.proofs.LentTables.{lent, alone, log_lent, record_lent, by_soundness, steps}

-- ---- 8, then 24

pub overload_refused : OverloadRefused
unfolding value_of kilograms_of difference_of
overload_refused = grind (arith, common_steps)

-- ---- across

record ReadAs (four : FourBytes) : Type 0 where
  reading : Reading
  was : read_of four ≡ Ok reading

can_read : (four : FourBytes) → readable (read_of four) ≡ true → ReadAs four
can_read four can = grind (arith, common_steps)

pub refused_across : (weight : FourBytes) (mine : Reading) → read_of weight ≡ Ok mine → mine.overload ≡ true → RefusedAcross weight
refused_across weight mine was over = grind (arith, common_steps, overload_refused, read_legal)

pub overload_across : OverloadAcross
overload_across weight can set =
    let mine = can_read weight can in
    refused_across weight mine.reading mine.was (ap (λ (reading : Reading). reading.overload) (read_by weight mine.reading mine.was).so.is ∙ set)

-- ---- the listing

pub hyphens_for_digits : HyphensForDigits
hyphens_for_digits reading over number load address = rw over

-- ---- the table

-- a weighing that is overloaded counts for nothing
goes_in_uncounted : (item : Record) → good item ≡ true → weighs item ≡ true → marked overload item.status ≡ true → counts_as item ≡ Ok counts_kind.Nothing
goes_in_uncounted item is_good_lem weighing set = grind (arith, common_steps, counts_by_hand)

pub overload_goes_in : OverloadGoesIn
unfolding entered put
overload_goes_in item table is_good_lem weighing set s = rw (s, goes_in_uncounted item is_good_lem weighing set)

not_counted : (kind : ℕ) (reading : Reading) → reading.overload ≡ true → by_reading kind reading ≡ Ok counts_kind.Nothing
unfolding by_reading
not_counted kind reading over = grind (arith, common_steps)

not_overloaded : {item : Record} {cell : Cell} {why : Refusal} → Stopped item cell why → why ≡ Overloaded → ⊥
not_overloaded stop e = grind (arith, common_steps)

meets_none : {ending : Result (Unit {0}) Refusal} {items : List Record} {table : Table} {filled : Filled} → Poured ending items table filled
    → (ending ≡ Err Overloaded → ⊥) → filled.verdict ≡ Err Overloaded → ⊥
meets_none ends never = never
meets_none (stops {item} {table = table} {why = why} e) never = λ is. not_overloaded (stopped item (cell_for item table) why e) (cc)
meets_none (goes e more) never = meets_none more never

lent_meets_none : (given : Log) (table : Table) → (given.ending ≡ Err Overloaded → ⊥) → (lent given table).verdict ≡ Err Overloaded → ⊥
lent_meets_none given table never =
    by_soundness given table (λ (filled : Filled). filled.verdict ≡ Err Overloaded → ⊥) (meets_none (steps given table) never)
    (λ e. cc)

pub table_meets_none : TableMeetsNone
table_meets_none = record {
  unasked = not_counted;
  counted = refused_broken;
  by_record = λ item table. rw (record_lent item table) (lent_meets_none (alone item) table (λ e. cc));
  by_log = λ log table. rw (log_lent log table) (lent_meets_none (whole_log log) table (not_at_end log Overloaded (omega arith)));
}
