-- Messages for another language: what a body says, as numbers, four weight bytes, or a place in the body.
use Rattle.std.specs.Prelude.{ℕ, List, Result, Ok, Err}
use Rattle.refusal.specs.declared.Refusal.{Refusal}
use Rattle.refusal.specs.Numbers.{number_of}
use Rattle.body.specs.Addresses.{first_byte, serial_of}
use Rattle.weight.specs.declared.FourBytes.{FourBytes}
use Rattle.meaning.specs.declared.meaning.What.{What}
use Rattle.meaning.specs.declared.meaning.What.TheVariants as says
use Rattle.message.specs.declared.reading.Message.{Message}
use Rattle.message.specs.Reading.{read_message}
use Rattle.records.specs.Records.{kind_of}
use Rattle.quay_message.specs.declared.messages.QuayWhat.{QuayWhat}
use Rattle.quay_message.specs.declared.messages.QuayMessage.{QuayMessage}
use Rattle.weight.specs.declared.families.Family.{Family}
use Rattle.codes.specs.declared.table.Role.{Role}

-- no half of these bytes is a digit, and no family has the number, so they read as no weight
abbrev pub without_digits : FourBytes
without_digits = record { w0 = 255; w1 = 255; w2 = 255; con = 255; family = 255 }

-- all ones: above every number that is said, and above 32 inputs
abbrev pub no_number : ℕ
no_number = 18_446_744_073_709_551_615

abbrev pub no_count : ℕ
no_count = 4_294_967_295

abbrev pub plain : ℕ → ℕ → ℕ → QuayWhat
plain kind number on = record { number = number; from = 0; to = 0; on = on; weight = without_digits; load = 0; says = kind }

abbrev pub placed : ℕ → ℕ → ℕ → ℕ → QuayWhat
placed kind number from to = record { number = number; from = from; to = to; on = no_count; weight = without_digits; load = 0; says = kind }

abbrev pub what_out : What → QuayWhat
what_out says.Nothing = plain 0 no_number no_count
what_out (says.Serial serial) = plain 1 serial no_count
what_out (says.Number number) = plain 2 number no_count
what_out (says.Status status) = plain 3 status no_count
what_out (says.Weight said) = record { number = no_number; from = 0; to = 0; on = no_count; weight = said.bytes; load = kind_of said.load; says = 4 }
what_out (says.Inputs bits on) = plain 5 bits on
what_out (says.Outputs bits) = plain 6 bits no_count
what_out (says.Text number from to) = placed 7 number from to
what_out (says.Event event from to) = placed 8 event from to
what_out (says.Converter number) = plain 9 number no_count
what_out (says.Error error) = plain 10 error no_count

abbrev pub message_out : Message → QuayMessage
message_out message = record {
  what = what_out message.what;
  from = message.from;
  to = message.to;
  serial = serial_of message.address;
  short = first_byte message.address;
  code = message.code;
  refusal = 0;
}

abbrev pub no_message : Refusal → QuayMessage
no_message why = record { what = plain 0 no_number no_count; from = 0; to = 0; serial = 0; short = 0; code = 0; refusal = number_of why }

abbrev pub received_out : Result Message Refusal → QuayMessage
received_out (Ok message) = message_out message
received_out (Err why) = no_message why

-- a body read in a role and by a family that were handed in; a role that does not exist is refused ahead of a family that does not, and both ahead
-- of the body's own refusals
abbrev pub message_in : Result Role Refusal → Result Family Refusal → List ℕ → QuayMessage
message_in (Ok role) (Ok family) body = received_out (read_message role family body)
message_in (Ok role) (Err why) body = no_message why
message_in (Err why) spoken body = no_message why
