-- Shown: the eight judged examples of the paper, both halves of E6 and E8 among them, hold together; and what is noted of their events.
-- Why: each is computed from the definitions.
use mathlib.Core.Path.{refl}
use mathlib.Core.List.{flatten}
use Rattle.check_byte.specs.Register.{shift_in, feed_bits, feed_byte, feed_all, received}
use Rattle.body.specs.Addresses.{legal, address_in, address_length}
use Rattle.body.specs.Body.{short, judged, judged_lent, code_in, data_in}
use Rattle.frame.specs.Stuffing.{stuffed_byte, stuffed, framed}
use Rattle.line.specs.Listener.{tick, keep, ended, hear_in, hear, heard_then, events}
use Rattle.weight.specs.Families.{named_in, family_named}
use Rattle.weight.specs.Bytes.{in_range, four_in, read_as, read_of}
use Rattle.weight.specs.Tenths.{value_of}
use Rattle.codes.specs.Table.{line_in, line_of, row_of}
use Rattle.low_first.specs.LowFirst.{low_first}
use Rattle.meaning.specs.Judging.{judged_code, judged_data, judged_message}
use Rattle.message.specs.Reading.{message_of, read_message, read_if}
use Rattle.weighing_log.specs.Hearing.{met_record, weighed_record, record_of}
use Rattle.records.specs.Records.{address_of, good_address, good_weighing, good}
use Rattle.demands.specs.Examples.{JudgedExamples}
use Rattle.demands.specs.Logs.{ExamplesNoted}
use Rattle.demands.specs.Weighings.{records_from}

pub judged_examples : JudgedExamples
unfolding flatten shift_in feed_bits feed_byte feed_all received legal address_in address_length short judged judged_lent code_in data_in stuffed_byte stuffed framed tick keep ended hear_in hear heard_then events in_range read_of read_as family_named named_in value_of four_in line_in line_of row_of low_first judged_data judged_message judged_code message_of read_if read_message
judged_examples = record { read = refl; written = refl; too_long = (refl, refl) }

pub examples_noted : ExamplesNoted
unfolding flatten records_from record_of met_record weighed_record good good_weighing good_address address_of shift_in feed_bits feed_byte feed_all received legal address_in address_length short judged judged_lent code_in data_in in_range read_of read_as family_named named_in four_in line_in line_of row_of low_first judged_data judged_message judged_code message_of read_if read_message
examples_noted = refl
