-- Lines for another language: what `listing` writes of an event, and what was listed, for the counts of the total.
use Rattle.std.specs.Prelude.{ℕ, ◌≡◌, List, Result, Ok, Err, Option, Some, None}
use Rattle.refusal.specs.declared.Refusal.{Refusal}
use Rattle.refusal.specs.Numbers.{number_of}
use Rattle.line.specs.Readers.{heard_as}
use Rattle.weight.specs.declared.families.Family.{Family}
use Rattle.entries.specs.declared.entries.Entry.{Entry}
use Rattle.entries.specs.declared.entries.Entry.TheVariants as entry_as
use Rattle.entries.specs.Entries.{entry_heard}
use Rattle.listing.specs.Writing.{written_line}
use Rattle.crossing.specs.Writing.{written_out}
use Rattle.crossing.specs.declared.events.QuayEvent.{QuayEvent}
use Rattle.quay_listing.specs.declared.lines.QuayListed.{QuayListed}
use Rattle.crossing.specs.Events.{event_from}
use Rattle.crossing.specs.Families.{family_from}
use Rattle.line.specs.declared.places.Event.{Event}

abbrev pub entry_number : Option Entry → ℕ
entry_number None = 0
entry_number (Some (entry_as.Weight load address reading)) = 1
entry_number (Some (entry_as.Message address code)) = 2
entry_number (Some (entry_as.Refused why)) = 3

abbrev pub listed_out : Option Entry → Result ℕ Refusal → QuayListed
listed_out entry written = record { length = (written_out written).length; entry = entry_number entry; refusal = (written_out written).refusal }

abbrev pub unlisted : Refusal → QuayListed
unlisted why = record { length = 0; entry = 0; refusal = number_of why }

-- a promise: the answer, and every byte of the room
pub record ListsEntry (number : ℕ) (entry : Option Entry) (before : List ℕ) (answered : QuayListed) (left : List ℕ) : Type 0 where
  pub answer : answered ≡ listed_out entry (written_line number entry before).answer
  pub room : left ≡ (written_line number entry before).room

-- what an event that was handed in lists as, by a family that was handed in
abbrev pub entry_given : Result Family Refusal → Result (Option Event) Refusal → List ℕ → Result (Option Entry) Refusal
entry_given (Ok family) (Ok event) body = Ok (entry_heard family (heard_as event body))
entry_given (Ok family) (Err why) body = Err why
entry_given (Err why) given body = Err why

-- the answer and the room of an event that was handed in; if refused, length 0 beside its number, and every byte is as it stood
abbrev pub listed_given : ℕ → Family → Result (Option Event) Refusal → List ℕ → List ℕ → QuayListed
listed_given number family (Ok event) body room =
    listed_out (entry_heard family (heard_as event body)) (written_line number (entry_heard family (heard_as event body)) room).answer
listed_given number family (Err why) body room = unlisted why

abbrev pub left_given : ℕ → Family → Result (Option Event) Refusal → List ℕ → List ℕ → List ℕ
left_given number family (Ok event) body room = (written_line number (entry_heard family (heard_as event body)) room).room
left_given number family (Err why) body room = room

-- the same by a family that was handed in; one that does not exist is refused ahead of an event that does not
abbrev pub listed_by : ℕ → Result Family Refusal → Result (Option Event) Refusal → List ℕ → List ℕ → QuayListed
listed_by number (Ok family) given body room = listed_given number family given body room
listed_by number (Err why) given body room = unlisted why

abbrev pub left_by : ℕ → Result Family Refusal → Result (Option Event) Refusal → List ℕ → List ℕ → List ℕ
left_by number (Ok family) given body room = left_given number family given body room
left_by number (Err why) given body room = room

pub record Lists (number family : ℕ) (event : QuayEvent) (body before : List ℕ) (answered : QuayListed) (left : List ℕ) : Type 0 where
  pub answer : answered ≡ listed_by number (family_from family) (event_from event) body before
  pub room : left ≡ left_by number (family_from family) (event_from event) body before
