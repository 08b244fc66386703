-- Shown: for each event of a line, its line and its record are written wherever there is room: neither 8 nor 11 comes from the line.
-- Why: what was read has a legal address and a reading within its ranges, a record that is made is good, and a line refuses by 1 to 8.
use Rattle.std.specs.Prelude.{Result, Ok, Err, Option, Some, None}
use Prim.Native.Nat.{ℕ}
use mathlib.Core.Path.{◌≡◌, refl}
use mathlib.Core.Bool.{true}
use mathlib.Core.List.{List}
use native.Mathlib.Omega.{arith}
use Rattle.std.proofs.lemmas.Grind.{common_steps}
use Rattle.refusal.specs.declared.Refusal.{Refusal}
use Rattle.room.specs.Writing.{written}
use Rattle.line.specs.Listener.{Heard}
use Rattle.weight.specs.declared.families.Family.{Family}
use Rattle.codes.specs.declared.table.Role.{Role}
use Rattle.codes.specs.declared.table.Role.TheVariants.{Reply}
use Rattle.meaning.specs.Weights.{weight_said}
use Rattle.message.specs.declared.reading.Message.{Message}
use Rattle.message.specs.Reading.{read_message}
use Rattle.records.specs.declared.records.Record.{Record}
use Rattle.records.specs.Layout.{bytes_of_record}
use Rattle.records.specs.Writing.{judged_record, written_record}
use Rattle.records.proofs.RoundTrip.{record_length}
use Rattle.weighing_log.specs.Hearing.{record_of, noted_heard}
use Rattle.weighing_log.proofs.Heard.{met_noted as met_made}
use Rattle.weighing_log.proofs.Weighings.{address_legal, carries, always_noted}
use Rattle.entries.specs.declared.entries.Entry.{Entry}
use Rattle.entries.specs.Entries.{message_entry, entry_of, entry_heard, sound}
use Rattle.listing.specs.Lines.{line_of}
use Rattle.listing.specs.Writing.{written_line}
use Rattle.demands.proofs.ByFamily.{read_legal}
use Rattle.demands.proofs.Logs.{noted_good}
use Rattle.demands.proofs.Noted.{Met, Told, line_told}
use Rattle.message.proofs.Refusals.{message_refuses}
use Rattle.demands.specs.WrittenDown.{Sound, AlwaysWritten}
use Rattle.meaning.specs.declared.meaning.SaidWeight.{SaidWeight}

-- ---- a message that was read

module _ (family : Family) (body : List ℕ) (message : Message) (was : read_message Reply family body ≡ Ok message) where
  message_sound : Sound (Some (entry_of (Ok message)))
  message_sound = by_saying (weight_said message.what) refl
    where
      by_saying : (weight : Option SaidWeight) → weight_said message.what ≡ weight → Sound (Some (message_entry message.address message.code weight))
      by_saying (Some said) says = (address_legal Reply family body message was, read_legal said.bytes said.reading (carries Reply family body message was said says).reads)
      by_saying None says = address_legal Reply family body message was

-- ---- a body, and an event

pub body_sound : (family : Family) (body : List ℕ) (received : Result Message Refusal) → read_message Reply family body ≡ received → Sound (Some (entry_of received))
body_sound family body (Ok message) was = message_sound family body message was
body_sound family body (Err why) was = message_refuses Met body refl refl (λ _. refl) refl refl refl refl Reply family why was

met_noted : (time : ℕ) (met why : Refusal) → Met met → record_of time (Err met) ≡ Err why → ⊥
met_noted time met why is_met e = let made = met_made time met is_met in cc

event_sound : (family : Family) (heard : Heard) → Told heard → Sound (entry_heard family heard)
unfolding entry_heard
event_sound family heard met = grind (arith, common_steps, body_sound)

event_noted : (heard : Heard) → Told heard → (time : ℕ) (role : Role) (family : Family) (why : Refusal) → noted_heard time role family heard ≡ Err why → ⊥
event_noted heard met time role family why e = grind (arith, common_steps, always_noted, met_noted)

-- what is sound is refused by 9 alone
line_sound : (entry : Option Entry) → Sound entry → sound entry ≡ true
line_sound entry is = grind (arith, common_steps)

line_written : (entry : Option Entry) → Sound entry → (number : ℕ) (room : List ℕ) → written_line number entry room ≡ written (line_of number entry) room
unfolding written_line written
line_written entry is number room = rw (line_sound entry is)

record_written : (heard : Heard) (time : ℕ) (role : Role) (family : Family) (item : Record) (room : List ℕ) → noted_heard time role family heard ≡ Ok (Some item)
    → written_record item room ≡ written (bytes_of_record item) room
unfolding written_record judged_record written
record_written heard time role family item room e = rw ((noted_good time role family heard item e).0, record_length item)

pub always_written : AlwaysWritten
always_written family listener byte = grind (arith, common_steps, event_noted, event_sound, line_told, line_written, record_written)
