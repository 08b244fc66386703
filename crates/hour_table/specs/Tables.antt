-- 02, request 6: "The table is seven rows of twenty-four cells".
use Rattle.std.specs.Prelude.{Bool, true, ◌&&◌, List, [], ◌∷◌, get_or, set, replicate}
use Rattle.hour_cell.specs.declared.cells.Cell.{Cell}
use Rattle.hour_cell.specs.declared.slots.Slot.{Slot}
use Rattle.hour_cell.specs.Cells.{empty_cell, sound}

abbrev pub Table : Type 0
Table = List (List Cell)

-- nothing was heard yet
unfoldable pub empty_table : Table
empty_table = replicate 7 (replicate 24 empty_cell)

-- the cell of a weekday and an hour
abbrev pub cell_at : Table → Slot → Cell
cell_at table slot = get_or (get_or table slot.weekday []) slot.hour empty_cell

-- the table with that cell replaced
abbrev pub with_cell : Table → Slot → Cell → Table
with_cell table slot cell = set table slot.weekday (set (get_or table slot.weekday []) slot.hour cell)

-- no cell is 31
unfoldable pub sound_row : List Cell → Bool
sound_row [] = true
sound_row (cell ∷ cells) = sound cell && sound_row cells

unfoldable pub sound_table : Table → Bool
sound_table [] = true
sound_table (row ∷ rows) = sound_row row && sound_table rows
