-- Shown: the computed rows of 02's request 7: 60 tonnes with the overload light on, and what a person reads of a line.
-- Why: each side computes to the same.
use mathlib.Core.List.{flatten}
use native.Mathlib.Omega.{arith}
use Rattle.std.proofs.lemmas.Grind.{common_steps}
use Rattle.check_byte.specs.Register.{received, feed_all, feed_byte, feed_bits, shift_in}
use Rattle.refusal.specs.Numbers.{named_in as named_at, named_of}
use Rattle.low_first.specs.LowFirst.{low_first, low_bytes}
use Rattle.body.specs.Addresses.{legal, address_in, address_length}
use Rattle.body.specs.Body.{short, judged, judged_lent, code_in, data_in}
use Rattle.frame.specs.Stuffing.{stuffed_byte, stuffed, framed}
use Rattle.line.specs.Listener.{events, heard_then, hear, hear_in, keep, ended, tick}
use Rattle.weight.specs.Families.{named_in, family_named}
use Rattle.weight.specs.Bytes.{in_range, four_in, read_as, read_of, packed_of}
use Rattle.weight.specs.Tenths.{value_of, difference_of}
use Rattle.kilograms.specs.Rounded.{kilograms_of}
use Rattle.codes.specs.Table.{line_in, line_of, row_of}
use Rattle.meaning.specs.Judging.{judged_code, judged_data, judged_message}
use Rattle.message.specs.Reading.{message_of, read_message, read_if}
use Rattle.records.specs.Records.{address_of, good_address, good_weighing, good_met, good}
use Rattle.records.specs.Layout.{bytes_of_record, record_in}
use Rattle.records.specs.Reading.{make_record, read_record}
use Rattle.records.specs.Weighings.{weight_noted}
use Rattle.weighing_log.specs.Hearing.{met_record, weighed_record, record_of}
use Rattle.entries.specs.Entries.{entry_heard}
use Rattle.listing.specs.Texts.{decimal_in, decimal}
use Rattle.listing.specs.Whole.{listing}
use Rattle.demands.specs.OverloadShown.{OverloadShown, LinesShown}
use Rattle.demands.specs.Weighings.{records_from}
use Rattle.demands.specs.WeightLines.{word, after_word, field, any_digit, all_digits, spelling}

pub overload_shown : OverloadShown
unfolding named_at named_of flatten value_of difference_of kilograms_of in_range packed_of stuffed_byte stuffed framed listing entry_heard decimal decimal_in events heard_then hear hear_in keep ended tick read_message read_if message_of judged_message judged_code judged_data row_of line_of line_in four_in read_of read_as family_named named_in judged_lent judged short received feed_all feed_byte feed_bits shift_in legal address_in low_first low_bytes address_length code_in data_in records_from record_of met_record weighed_record good good_met good_weighing good_address address_of bytes_of_record record_in make_record read_record weight_noted
overload_shown = grind (arith, common_steps)

pub lines_shown : LinesShown
unfolding word after_word field any_digit all_digits spelling
lines_shown = grind (arith, common_steps)
