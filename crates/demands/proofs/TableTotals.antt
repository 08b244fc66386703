-- Shown: all cells of a table together hold what they held and what was counted by hand in the records that went in.
-- Why: a replaced cell changes the total by what it is more than the one before it, and a record replaces one cell.
use Rattle.std.specs.Prelude.{Result, Ok}
use Prim.Native.Nat.{ℕ, zero, suc, ◌+◌, ◌<◌}
use mathlib.Core.Path.{◌≡◌, refl}
use mathlib.Core.Bool.{Bool}
use mathlib.Core.List.{List, [], ◌∷◌}
use native.Mathlib.Omega.{arith}
use lib.ListN.{length, take, get_or, set}
use Rattle.std.proofs.lemmas.Grind.{common_steps}
use Rattle.records.specs.declared.records.Record.{Record}
use Rattle.hour_cell.specs.declared.cells.Cell.{Cell}
use Rattle.hour_cell.specs.declared.slots.Slot.{Slot}
use Rattle.hour_cell.specs.Cells.{empty_cell}
use Rattle.hour_table.specs.declared.filled.Filled.{Filled}
use Rattle.hour_table.specs.Tables.{Table, empty_table, cell_at, with_cell}
use Rattle.demands.specs.Tables.{how_many, over_cells, over_table}
use Rattle.demands.specs.LentTables.{SevenByTwentyFour, HeldTogether}
use Rattle.demands.proofs.TableCells.{There, hour_there}
use Rattle.demands.proofs.TableCounts.{added, Grown}
use Rattle.demands.proofs.TableFilling.{many_then, cell_for, next, slot_there, grew, next_seven, Poured, ends, stops, goes}
use Rattle.refusal.specs.declared.Refusal.{Refusal}

-- ---- one cell replaced

module _ (part : Cell → ℕ) where
  cell_replaced : (row : List Cell) (hour : ℕ) (cell : Cell) → hour < length row
      → over_cells part (set row hour cell) + part (get_or row hour empty_cell) ≡ over_cells part row + part cell
  unfolding over_cells
  cell_replaced [] hour cell there = absurd (omega arith)
  cell_replaced (first ∷ cells) zero cell there = omega arith
  cell_replaced (first ∷ cells) (suc hour) cell there = omega (arith, cell_replaced cells hour cell (omega arith))

  row_replaced : (table : Table) (weekday : ℕ) (row : List Cell) → weekday < length table
      → over_table part (set table weekday row) + over_cells part (get_or table weekday []) ≡ over_table part table + over_cells part row
  unfolding over_table
  row_replaced [] weekday row there = absurd (omega arith)
  row_replaced (first ∷ rows) zero row there = omega arith
  row_replaced (first ∷ rows) (suc weekday) row there = omega (arith, row_replaced rows weekday row (omega arith))

  total_replaced : (table : Table) → SevenByTwentyFour table → (slot : Slot) → There slot → (cell : Cell)
      → over_table part (with_cell table slot cell) + part (cell_at table slot) ≡ over_table part table + part cell
  total_replaced table seven slot there cell = grind (arith, common_steps, cell_replaced, hour_there, row_replaced)

-- ---- records one behind the other

-- a part of a cell that grows by one where a record is such
module _ (part : Cell → ℕ) (such : Record → Bool) (grows : (item : Record) (before after : Cell) → Grown item before after → part after ≡ part before + how_many such (item ∷ [])) where
  one_total : (item : Record) (table : Table) → SevenByTwentyFour table → (after : Cell) → added item (cell_for item table) ≡ Ok after
      → over_table part (next item table after) ≡ over_table part table + how_many such (item ∷ [])
  one_total item table seven after e = grind (arith, common_steps, grew, slot_there, total_replaced)

  poured_total : {ending : Result (Unit {0}) Refusal} {items : List Record} {table : Table} {filled : Filled} → Poured ending items table filled → SevenByTwentyFour table
      → over_table part filled.table ≡ over_table part table + how_many such (take filled.records items)
  unfolding how_many
  poured_total ends seven = omega arith
  poured_total (stops e) seven = omega arith
  poured_total (goes {item} {items} {table} {after} {rest} e more) seven = grind (arith, common_steps, many_then, next_seven, one_total, poured_total more (next_seven item table seven after))

-- ---- the two counts

abbrev weights_of : Table → ℕ
weights_of = over_table (λ (cell : Cell). cell.weights)

abbrev refused_of : Table → ℕ
refused_of = over_table (λ (cell : Cell). cell.refused)

-- all cells together hold what they held, and what was counted
pub together_nothing : (table : Table) → HeldTogether table [] table
unfolding how_many
together_nothing table = record { weights = omega arith; refused = omega arith }

pub poured_together : {ending : Result (Unit {0}) Refusal} {items : List Record} {table : Table} {filled : Filled} → Poured ending items table filled → SevenByTwentyFour table
    → HeldTogether table (take filled.records items) filled.table
unfolding how_many
poured_together steps seven = grind (arith, common_steps, poured_total)

-- the table in which nothing was heard
pub empty_weights : weights_of empty_table ≡ 0
unfolding over_table over_cells empty_table
empty_weights = refl

pub empty_refused : refused_of empty_table ≡ 0
unfolding over_table over_cells empty_table
empty_refused = refl
