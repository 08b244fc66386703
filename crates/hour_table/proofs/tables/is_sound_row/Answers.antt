-- `hour_table::is_sound_row` meets its contract: whether every cell of a day is sound.
-- Why: the library's `all` asks each.
use Rattle.std.proofs.Common.{◌∙◌, rules}
use Rattle.std.proofs.lemmas.Iterator.{YieldsList-from_slice}
use Rattle.std.proofs.lemmas.Iterator.Search.{all_from_yields_List}
use Rattle.hour_cell.specs.Cells.{sound}
use Rattle.hour_table.proofs.SoundTables.{each_cell}
use Rattle.hour_table.proofs.tables.is_sound_row.Goals as goal

pub returns : goal.returns
returns c =
    all_from_yields_List sound _ _ _ c.all.ensures.ran (YieldsList-from_slice c.args.row.now cc) (λ x b q k. search rules) ∙ each_cell c.args.row.now
