-- What a line gives can always be written down, in the log and in the listing. No weight that was heard is lost because a writer refuses it.
-- "A reading handed in with a number above 999,999 or a point above 7 is refusal 8 wherever it is used"; "Writing a record judges 11, then 9."
-- What comes from the line is refused neither by 8 nor by 11. This holds for each event that a byte gives, in any state.
use Rattle.std.specs.Prelude.{ℕ, ◌≡◌, true, List, Ok, Err, Option, Some, None}
use Rattle.refusal.specs.declared.Refusal.{Refusal}
use Rattle.refusal.specs.Numbers.{number_of, line_status}
use Rattle.room.specs.Writing.{written}
use Rattle.body.specs.Addresses.{legal}
use Rattle.line.specs.Listener.{Heard, Listener, hear}
use Rattle.weight.specs.declared.families.Family.{Family}
use Rattle.weight.specs.Bytes.{in_range}
use Rattle.codes.specs.declared.table.Role.{Role}
use Rattle.records.specs.declared.records.Record.{Record}
use Rattle.records.specs.Layout.{bytes_of_record}
use Rattle.records.specs.Writing.{written_record}
use Rattle.weighing_log.specs.Hearing.{noted_heard}
use Rattle.entries.specs.declared.entries.Entry.{Entry}
use Rattle.entries.specs.declared.entries.Entry.TheVariants.{Weight, Message, Refused}
use Rattle.entries.specs.Entries.{entry_heard}
use Rattle.listing.specs.Lines.{line_of}
use Rattle.listing.specs.Writing.{written_line}

-- a legal address, a reading within its ranges (and with bit 6 as its family allows), a refusal of 1 to 8
abbrev pub Sound : Option Entry → Type 0
Sound None = Unit {0}
Sound (Some (Weight load address reading)) = (legal address ≡ true) × (in_range reading ≡ true)
Sound (Some (Message address code)) = legal address ≡ true
Sound (Some (Refused why)) = line_status (number_of why) ≡ true

pub record CanBeWritten (family : Family) (heard : Heard) : Type 0 where
  pub sound : Sound (entry_heard family heard)
  -- its line is judged by the room alone: 9
  pub line : (number : ℕ) (room : List ℕ) → written_line number (entry_heard family heard) room ≡ written (line_of number (entry_heard family heard)) room
  -- noting it is never refused
  pub noted : (time : ℕ) (role : Role) (why : Refusal) → noted_heard time role family heard ≡ Err why → ⊥
  -- its record is judged by the room alone too
  pub item : (time : ℕ) (role : Role) (item : Record) (room : List ℕ) → noted_heard time role family heard ≡ Ok (Some item)
      → written_record item room ≡ written (bytes_of_record item) room

abbrev pub AlwaysWritten : Type 0
AlwaysWritten = (family : Family) (listener : Listener) (byte : ℕ) → CanBeWritten family (hear listener byte).event
