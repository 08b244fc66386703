-- 01, "Judged examples": "A capture is read as replies throughout." What each event lists as: a weight, another message, or a refusal.
use Rattle.std.specs.Prelude.{ℕ, Bool, true, List, Result, Ok, Err, Option, Some, None}
use Rattle.refusal.specs.Numbers.{number_of, line_status}
use Rattle.body.specs.declared.addresses.Address.{Address}
use Rattle.line.specs.Listener.{Heard, nothing, frame, refused}
use Rattle.weight.specs.declared.families.Family.{Family}
use Rattle.weight.specs.Bytes.{in_range}
use Rattle.codes.specs.declared.table.Role.TheVariants.{Reply}
use Rattle.meaning.specs.Weights.{weight_said}
use Rattle.message.specs.Reading.{read_if, read_message}
use Rattle.entries.specs.declared.entries.Entry.{Entry}
use Rattle.entries.specs.declared.entries.Entry.TheVariants.{Weight, Message, Refused}
use Rattle.meaning.specs.declared.meaning.SaidWeight.{SaidWeight}
use Rattle.message.specs.declared.reading.Message.{Message as Received}
use Rattle.refusal.specs.declared.Refusal.{Refusal}

-- a message: a weight lists as a weight, every other message with its address and code
abbrev pub message_entry : Address → ℕ → Option SaidWeight → Entry
message_entry address code (Some said) = Weight said.load address said.reading
message_entry address code None = Message address code

-- a body that was read, or the refusal it earned
abbrev pub entry_of : Result Received Refusal → Entry
entry_of (Ok message) = message_entry message.address message.code (weight_said message.what)
entry_of (Err why) = Refused why

-- an event of the line, its body read in some way; the refusals of the line and of the message list alike
abbrev pub entry_by : (List ℕ → Result Received Refusal) → Heard → Option Entry
entry_by reads nothing = None
entry_by reads (frame wire kept body) = Some (entry_of (reads body))
entry_by reads (refused why wire kept) = Some (Refused why)

-- a frame's body is read as a reply, by the family of the line
unfoldable pub entry_heard : Family → Heard → Option Entry
entry_heard family = entry_by (read_message Reply family)

-- the same; an argument says whether the check is right. A line hands out a body only if it is, so for such a body the two are one (`Handed-out`)
unfoldable pub entry_if : Bool → Family → Heard → Option Entry
entry_if right family = entry_by (read_if right Reply family)

-- what may be listed; anything else is 8: "A reading handed in with a number above 999,999 or a point above 7 is refusal 8 wherever it is
-- used", 02's "8 also for family 002 with bit 6 set", and "refusals 1 to 8 all as the third line", since no other is heard on a line
abbrev pub sound : Option Entry → Bool
sound None = true
sound (Some (Weight load address reading)) = in_range reading
sound (Some (Message address code)) = true
sound (Some (Refused why)) = line_status (number_of why)
