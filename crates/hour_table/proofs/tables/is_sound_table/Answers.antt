-- `hour_table::is_sound_table` meets its contract: whether every cell is sound.
-- Why: the library's `all` asks each row.
use Rattle.std.proofs.Common.{◌∙◌, rules}
use Rattle.std.proofs.lemmas.Iterator.{YieldsList-from_slice}
use Rattle.std.proofs.lemmas.Iterator.Search.{all_from_yields_List}
use Rattle.hour_table.specs.Tables.{sound_row}
use Rattle.hour_table.proofs.SoundTables.{each_row}
use Rattle.hour_table.proofs.tables.is_sound_table.Goals as goal

pub returns : goal.returns
returns c =
    all_from_yields_List sound_row _ _ _ c.all.ensures.ran (YieldsList-from_slice c.args.table.now cc) (λ x b q k. search rules) ∙ each_row c.args.table.now
