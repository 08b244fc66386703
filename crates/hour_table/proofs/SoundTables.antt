-- Shown: a row, or a table, is sound exactly if each of its cells, or rows, is.
-- Why: the definitions ask one after the other.
use Rattle.std.proofs.Common.{◌≡◌, refl, List, [], ◌∷◌}
use Rattle.std.specs.List.{list_all}
use Rattle.hour_cell.specs.declared.cells.Cell.{Cell}
use Rattle.hour_cell.specs.Cells.{sound}
use Rattle.hour_table.specs.Tables.{Table, sound_row, sound_table}

pub each_cell : (row : List Cell) → list_all sound row ≡ sound_row row
unfolding sound_row
each_cell [] = refl
each_cell (cell ∷ cells) = rw (each_cell cells)

pub each_row : (table : Table) → list_all sound_row table ≡ sound_table table
unfolding sound_table
each_row [] = refl
each_row (row ∷ rows) = rw (each_row rows)
