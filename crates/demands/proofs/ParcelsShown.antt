-- Shown: the seven messages, the edges of reading and of writing, values, a header inside a body, a check fed through, nobody's numbers, the types.
-- Why: each is computed from the definitions.
use mathlib.Core.Path.{refl}
use native.Mathlib.Omega.{arith}
use Rattle.std.proofs.lemmas.Grind.{common_steps}
use Rattle.refusal.specs.Numbers.{named_in, named_of}
use Rattle.low_first.specs.LowFirst.{low_first, low_bytes}
use Rattle.low_first.specs.Signed.{signed_of, word_of}
use Rattle.parcel_check.specs.Check.{shift_word, enter_bits, enter_byte, parcel_check}
use Rattle.parcel_scale.specs.Frame.{framed, headed, length_in, needs, body_in, check_in}
use Rattle.parcel_scale.specs.Layouts.{row_in, row_of, widths, numbers_in, laid_out, in_values}
use Rattle.parcel_scale.specs.Reading.{read_row, read_code, read_body, judged_frame, read_parcel}
use Rattle.parcel_scale.specs.Value.{parcel_value}
use Rattle.parcel_scale.specs.Writing.{fields_of, body_of, parcel_bytes, legal_fields, judged_parcel, written_parcel}
use Rattle.demands.specs.ParcelsShown.{SevenMessages, ReadAtTheEdges, WrittenAtTheEdges, ValuesShown, HeaderInsideABody, CheckFedThrough, NobodysNumbers, OfTheirTypes}

pub seven_messages_lem : SevenMessages
unfolding shift_word enter_bits enter_byte parcel_check low_first low_bytes signed_of word_of framed headed length_in needs body_in check_in row_in row_of widths numbers_in laid_out in_values read_row read_code read_body judged_frame read_parcel fields_of body_of parcel_bytes
seven_messages_lem = record { written = refl; read = refl }

pub read_at_the_edges : ReadAtTheEdges
unfolding shift_word enter_bits enter_byte parcel_check low_first headed length_in needs body_in check_in row_in row_of widths numbers_in in_values read_row read_code read_body judged_frame read_parcel
read_at_the_edges = record { read = refl; numbers = refl }

pub written_at_the_edges : WrittenAtTheEdges
unfolding shift_word enter_bits enter_byte parcel_check low_bytes word_of framed row_in row_of laid_out in_values fields_of body_of parcel_bytes legal_fields judged_parcel written_parcel
written_at_the_edges = refl

pub values_shown : ValuesShown
unfolding word_of row_in row_of in_values fields_of legal_fields parcel_value
values_shown = refl

pub header_inside_a_body : HeaderInsideABody
unfolding shift_word enter_bits enter_byte parcel_check low_first signed_of headed length_in needs body_in check_in row_in row_of widths numbers_in in_values read_row read_code read_body judged_frame read_parcel
header_inside_a_body = record { tare = refl; tare_late = refl; file = refl; file_late = refl }

pub check_fed_through : CheckFedThrough
unfolding shift_word enter_bits enter_byte parcel_check
check_fed_through = refl

pub nobodys_numbers : NobodysNumbers
unfolding named_in named_of
nobodys_numbers = refl

pub of_their_types : OfTheirTypes
of_their_types = grind (arith, common_steps)
