-- Shown: what stands in a table after one cell was replaced, and that it keeps seven rows of twenty-four.
-- Why: in a list a replaced element is found at its own place, and every other place is as it was.
use Prim.Native.Nat.{ℕ, zero, suc, ◌<◌}
use mathlib.Core.Path.{◌≡◌, ◌∙◌, refl, ap}
use mathlib.Core.Bool.{Bool, true, false, ◌&&◌}
use mathlib.Core.List.{List, [], ◌∷◌}
use native.Mathlib.Omega.{arith}
use borrow.Author.Tests.{eqb-true, eqb-false}
use lib.Dec.{eqb}
use lib.ListN.{length, get_or, set, replicate, length-set, get_or-replicate}
use lib.Seq.{get_or-set_same, get_or-set_other}
use Rattle.hour_cell.specs.declared.cells.Cell.{Cell}
use Rattle.hour_cell.specs.declared.slots.Slot.{Slot}
use Rattle.hour_cell.specs.Cells.{empty_cell}
use Rattle.hour_table.specs.Tables.{Table, empty_table, cell_at, with_cell}
use Rattle.demands.specs.Tables.{cell_of}
use Rattle.demands.specs.LentTables.{AllOfTwentyFour, SevenByTwentyFour}

-- ---- seven rows of twenty-four

pub row_length : (table : Table) (weekday : ℕ) → AllOfTwentyFour table → weekday < length table → length (get_or table weekday []) ≡ 24
row_length [] weekday all there = absurd (omega arith)
row_length (row ∷ rows) zero all there = all.0
row_length (row ∷ rows) (suc weekday) all there = row_length rows weekday all.1 (omega arith)

rows_kept : (table : Table) (weekday : ℕ) (row : List Cell) → AllOfTwentyFour table → length row ≡ 24 → AllOfTwentyFour (set table weekday row)
rows_kept [] weekday row all long = tt
rows_kept (first ∷ rows) zero row all long = (long, all.1)
rows_kept (first ∷ rows) (suc weekday) row all long = (all.0, rows_kept rows weekday row all.1 long)

-- a slot of a table
pub record There (slot : Slot) : Type 0 where
  pub weekday : slot.weekday < 7
  pub hour : slot.hour < 24

module _ (table : Table) (seven : SevenByTwentyFour table) (slot : Slot) (there : There slot) where
  pub row_there : slot.weekday < length table
  row_there = omega (arith, seven.rows, there.weekday)

  pub hour_there : slot.hour < length (get_or table slot.weekday [])
  hour_there = omega (arith, row_length table slot.weekday seven.cells row_there, there.hour)

  module _ (cell : Cell) where
    pub with_cell_seven : SevenByTwentyFour (with_cell table slot cell)
    with_cell_seven = record {
      rows = length-set table slot.weekday _ ∙ seven.rows;
      cells = rows_kept table slot.weekday _ seven.cells (length-set (get_or table slot.weekday []) slot.hour cell ∙ row_length table slot.weekday seven.cells row_there);
    }

    row_replaced : get_or (with_cell table slot cell) slot.weekday [] ≡ set (get_or table slot.weekday []) slot.hour cell
    row_replaced = get_or-set_same table slot.weekday _ [] row_there

    -- the cell that was put in
    pub replaced : cell_at (with_cell table slot cell) slot ≡ cell
    replaced = rw row_replaced (get_or-set_same (get_or table slot.weekday []) slot.hour cell empty_cell hour_there)

    -- any other cell is as it was
    other_hour : (hour : ℕ) → (hour ≡ slot.hour → ⊥) → cell_of (with_cell table slot cell) slot.weekday hour ≡ cell_of table slot.weekday hour
    other_hour hour other = rw row_replaced (get_or-set_other (get_or table slot.weekday []) slot.hour hour cell empty_cell other)

    other_row : (weekday hour : ℕ) → (weekday ≡ slot.weekday → ⊥) → cell_of (with_cell table slot cell) weekday hour ≡ cell_of table weekday hour
    other_row weekday hour other = ap (λ (row : List Cell). get_or row hour empty_cell) (get_or-set_other table slot.weekday weekday _ [] other)

    pub kept : (weekday hour : ℕ) → (eqb slot.weekday weekday && eqb slot.hour hour) ≡ false
        → cell_of (with_cell table slot cell) weekday hour ≡ cell_of table weekday hour
    kept weekday hour = by_row (eqb slot.weekday weekday) refl
      where
        by_row : (same : Bool) → eqb slot.weekday weekday ≡ same → (same && eqb slot.hour hour) ≡ false
            → cell_of (with_cell table slot cell) weekday hour ≡ cell_of table weekday hour
        by_row true same e =
            let here = eqb-true slot.weekday weekday same in
            rw (← here) (other_hour hour (λ (at : hour ≡ slot.hour). eqb-false slot.hour hour e (omega arith)))
        by_row false same e = other_row weekday hour (λ (at : weekday ≡ slot.weekday). eqb-false slot.weekday weekday same (omega arith))

-- ---- the table in which nothing was heard

pub empty_seven : SevenByTwentyFour empty_table
unfolding empty_table
empty_seven = record { rows = refl; cells = (refl, (refl, (refl, (refl, (refl, (refl, (refl, tt))))))) }

pub empty_cell_lem : (weekday hour : ℕ) → weekday < 7 → hour < 24 → cell_of empty_table weekday hour ≡ empty_cell
unfolding empty_table
empty_cell_lem weekday hour w h =
    ap (λ (row : List Cell). get_or row hour empty_cell) (get_or-replicate 7 weekday (replicate 24 empty_cell) [] w) ∙ get_or-replicate 24 hour empty_cell empty_cell h
