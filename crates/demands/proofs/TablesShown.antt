-- Shown: times at the edges, a small log counted by hand and filled, lent tables, what records count as, the edges of 31, 8 and 23, means.
-- Why: each is computed from the definitions.
use mathlib.Core.Path.{refl}
use native.Mathlib.Omega.{arith}
use Rattle.std.proofs.lemmas.Grind.{common_steps}
use Rattle.refusal.specs.Numbers.{named_in, named_of}
use Rattle.low_first.specs.LowFirst.{low_first, low_bytes}
use Rattle.weight.specs.Families.{named_in as family_in, family_named}
use Rattle.weight.specs.Bytes.{in_range, read_as, read_of}
use Rattle.weight.specs.Tenths.{value_of}
use Rattle.body.specs.Addresses.{legal}
use Rattle.records.specs.Layout.{bytes_of_record, record_in}
use Rattle.records.specs.Records.{address_of, good_address, good_weighing, good_met, good}
use Rattle.records.specs.Reading.{make_record, read_record}
use Rattle.records.specs.Stepping.{records_of, whole_log, bytes_of_log}
use Rattle.records.specs.Weighings.{weight_noted}
use Rattle.hour_cell.specs.Slots.{slot_of}
use Rattle.hour_cell.specs.Cells.{sound, with_weight, with_refused}
use Rattle.hour_cell.specs.Counting.{by_reading, counts_as}
use Rattle.hour_table.specs.Tables.{empty_table, sound_row, sound_table}
use Rattle.hour_table.specs.Filling.{table_in, put, entered, poured, filled_from}
use Rattle.hour_mean.specs.Means.{greatest_up_to, greatest_common, lowest, mean_of}
use Rattle.demands.specs.Tables.{how_many, sum_of}
use Rattle.demands.specs.TablesShown.{SlotsShown, CountedByHand, SmallLogFilled, LentAtTheEdges, SoundShown, CountsShown, EdgesShown, MeansShown}

pub slots_shown : SlotsShown
unfolding slot_of
slots_shown = refl

pub counted_by_hand : CountedByHand
unfolding how_many sum_of
counted_by_hand = grind (arith, common_steps)

pub small_log_filled : SmallLogFilled
unfolding named_in named_of low_first low_bytes family_in family_named in_range read_as read_of value_of legal bytes_of_record record_in address_of good_address good_weighing good_met good make_record read_record records_of whole_log bytes_of_log weight_noted slot_of sound with_weight with_refused by_reading counts_as empty_table sound_row sound_table table_in put poured filled_from
small_log_filled = grind (arith, common_steps)

pub lent_at_the_edges : LentAtTheEdges
unfolding named_in named_of low_first low_bytes family_in family_named in_range read_as read_of value_of legal bytes_of_record record_in address_of good_address good_weighing good_met good make_record read_record records_of whole_log bytes_of_log weight_noted slot_of sound with_weight with_refused by_reading counts_as empty_table sound_row sound_table put entered poured filled_from
lent_at_the_edges = grind (arith, common_steps)

pub sound_shown : SoundShown
unfolding sound
sound_shown = refl

pub counts_shown : CountsShown
unfolding named_in named_of family_in family_named in_range read_as read_of value_of legal address_of good_address good_weighing good_met good weight_noted by_reading counts_as
counts_shown = refl

pub edges_shown : EdgesShown
unfolding sound with_weight with_refused
edges_shown = record { weights = refl; refused = refl; full = refl; beyond = refl }

pub means_shown : MeansShown
unfolding sound greatest_up_to greatest_common lowest mean_of
means_shown = refl
