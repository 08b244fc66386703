-- Shown: where refusal 5 can still be earned, and one wire from A4, F0 and FD that is read back, said and written again.
-- Why: each is computed from the definitions.
use mathlib.Core.Path.{refl}
use mathlib.Core.List.{flatten}
use native.Mathlib.Omega.{arith}
use Rattle.std.proofs.lemmas.Grind.{common_steps}
use Rattle.check_byte.specs.Register.{shift_in, feed_bits, feed_byte, feed_all, received, check_of}
use Rattle.low_first.specs.LowFirst.{low_first, low_bytes}
use Rattle.body.specs.Addresses.{legal, address_bytes, address_in, address_length}
use Rattle.body.specs.Body.{unchecked, body_of, short, judged, judged_lent, code_in, data_in}
use Rattle.frame.specs.Stuffing.{stuffed_byte, stuffed, framed, count_ff, needed}
use Rattle.frame.specs.Writing.{judged_fields, judged_write, written_frame}
use Rattle.line.specs.Listener.{tick, keep, ended, hear_in, hear, heard_then, events}
use Rattle.line.specs.Readers.{listening, taken}
use Rattle.weight.specs.Families.{named_in, family_named}
use Rattle.weight.specs.Bytes.{in_range, four_in, read_as, read_of}
use Rattle.weight.specs.Tenths.{value_of}
use Rattle.codes.specs.Table.{line_in, line_of, row_of}
use Rattle.meaning.specs.Judging.{judged_code, judged_data, judged_message}
use Rattle.message.specs.Reading.{message_of, read_message, read_if}
use Rattle.records.specs.Records.{address_of, good_address, good_weighing, good}
use Rattle.weighing_log.specs.Hearing.{met_record, weighed_record, record_of}
use Rattle.entries.specs.Entries.{entry_heard}
use Rattle.demands.specs.Wire.{on_wire, wire_of}
use Rattle.demands.specs.Reading.{heard_by}
use Rattle.demands.specs.HighAddresses.{FiveEarned}
use Rattle.demands.specs.OlderBridges.{RangeOfAddresses, OlderBridges}
use Rattle.demands.specs.Weighings.{records_from}

pub five_earned : FiveEarned
unfolding shift_in feed_bits feed_byte feed_all received legal address_in short judged judged_lent stuffed_byte stuffed framed tick keep ended hear_in hear heard_then events listening taken heard_by address_bytes low_bytes unchecked check_of body_of count_ff needed judged_fields judged_write written_frame judged_message read_if read_message
five_earned = grind (arith, common_steps)

range : RangeOfAddresses
unfolding legal
range = record { inside = refl; outside = refl; serials = refl }

pub older_bridges : OlderBridges
unfolding flatten shift_in feed_bits feed_byte feed_all received legal address_in address_length short judged judged_lent code_in data_in stuffed_byte stuffed framed on_wire wire_of tick keep ended hear_in hear heard_then events listening taken heard_by in_range read_of read_as family_named named_in value_of four_in line_in line_of row_of low_first judged_data judged_message judged_code message_of read_if read_message address_bytes unchecked check_of body_of count_ff needed judged_fields judged_write written_frame records_from record_of met_record weighed_record good good_weighing good_address address_of entry_heard
older_bridges = grind (arith, common_steps)
