-- `hour_table::fill` meets its contract: 31 of any cell, and then record by record until the log ends or something is refused.
-- Why: at the front of the log nothing went in before.
use Rattle.std.proofs.Common.{◌∙◌}
use Rattle.hour_table.specs.Filling.{filled_from}
use Rattle.hour_table.proofs.Poured.{from_front}
use Rattle.hour_table.proofs.filling.fill.Goals as goal

pub returns : goal.returns
unfolding filled_from
returns c = rw (← c.is_sound_table.ensures, c.if-not-is_sound_table.false) (c.poured_to.ensures ∙ c.pour-ending.ensures ∙ from_front _ _)
