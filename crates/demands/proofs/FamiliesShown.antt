-- Shown: the families one beside the other, what each answers and how it lists; E3 with bit 6 set on a line; and that only weights move.
-- Why: each example is computed from the definitions; the data of every other row are judged and told without the family.
use mathlib.Core.Path.{refl}
use native.Mathlib.Omega.{arith}
use Rattle.std.proofs.lemmas.Grind.{common_steps}
use Rattle.check_byte.specs.Register.{shift_in, feed_bits, feed_byte, feed_all, received, check_of}
use Rattle.low_first.specs.LowFirst.{low_first, low_bytes}
use Rattle.body.specs.Addresses.{legal, address_bytes, address_in, address_length}
use Rattle.body.specs.Body.{unchecked, body_of, short, judged, judged_lent, code_in, data_in}
use Rattle.frame.specs.Stuffing.{count_ff, needed}
use Rattle.line.specs.Listener.{tick, keep, ended, hear_in, hear, heard_then, events}
use Rattle.weight.specs.Families.{named_in, family_named}
use Rattle.weight.specs.Bytes.{in_range, four_in, read_as, read_of}
use Rattle.terminal_mode.specs.Modes.{mode_of}
use Rattle.codes.specs.Table.{line_in, line_of, row_of}
use Rattle.meaning.specs.Judging.{judged_code, judged_data, judged_message}
use Rattle.message.specs.Reading.{message_of, read_message, read_if}
use Rattle.message.specs.Writing.{judged_message_write, written_message}
use Rattle.records.specs.Records.{address_of, good_address, good_weighing, good_met, good}
use Rattle.weighing_log.specs.Hearing.{weighed_record, met_record, record_of}
use Rattle.entries.specs.Entries.{entry_heard}
use Rattle.listing.specs.Texts.{decimal, decimal_in}
use Rattle.listing.specs.Whole.{listing}
use Rattle.demands.specs.Weighings.{records_from}
use Rattle.demands.specs.Families.{OnlyWeightsMove, Byte17Shown, FamiliesShown, SixthShown}

pub families_shown : FamiliesShown
unfolding mode_of in_range listing entry_heard decimal decimal_in events heard_then hear hear_in keep ended tick read_message read_if message_of judged_message judged_code judged_data row_of line_of line_in four_in read_of read_as family_named named_in judged_lent judged short received feed_all feed_byte feed_bits shift_in legal address_in low_first address_length code_in data_in
families_shown = grind (arith, common_steps)

pub sixth_shown : SixthShown
unfolding records_from record_of weighed_record met_record good good_weighing good_address address_of written_message judged_message_write body_of unchecked address_bytes low_bytes check_of needed count_ff listing entry_heard decimal decimal_in events heard_then hear hear_in keep ended tick read_message read_if message_of judged_message judged_code judged_data row_of line_of line_in four_in read_of read_as family_named named_in judged_lent judged short received feed_all feed_byte feed_bits shift_in legal address_in low_first address_length code_in data_in
sixth_shown = record { noted = refl; written = refl; listed = refl }

pub byte_17_shown : Byte17Shown
unfolding good good_weighing good_met good_address address_of legal read_of read_as family_named named_in
byte_17_shown = grind (arith, common_steps)

-- ---- only weights move

pub only_weights_move : OnlyWeightsMove
unfolding read_message read_if message_of written_message judged_message_write judged_message judged_data
only_weights_move = grind (arith, common_steps)
