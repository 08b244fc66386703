-- Demand 2 at the message layer, over every role, family, address, code and data. What is written reads back as the same message. Each message that
-- is accepted gives back its own body bytes when written again with its own role, family, address, code and data. A message is refused by 6, 7, 8
-- exactly as the table says.
use Rattle.std.specs.Prelude.{ℕ, ◌≤◌, ◌≡◌, Bool, true, false, List, [], ◌∷◌, T, length, take, Result, Ok, Err}
use Rattle.std.proofs.Math.Seq.{slice}
use Rattle.std.proofs.Math.Pow.{are_bytes}
use Rattle.laws.specs.Exactly.{ExactlyWhere}
use Rattle.refusal.specs.declared.Refusal.{Refusal}
use Rattle.refusal.specs.declared.Refusal.TheVariants.{AddressIllegal, CodeUnknown, LengthWrong, FieldOutside}
use Rattle.refusal.specs.Numbers.{verdict_of}
use Rattle.room.specs.Writing.{Left, judged_room, wrote}
use Rattle.body.specs.declared.addresses.Address.{Address}
use Rattle.body.specs.Addresses.{legal}
use Rattle.body.specs.Body.{body_of, judged_lent, code_in, data_in}
use Rattle.frame.specs.Stuffing.{framed, needed}
use Rattle.frame.specs.Writing.{judged_length}
use Rattle.line.specs.Listener.{frame, fresh, events}
use Rattle.weight.specs.declared.families.Family.{Family}
use Rattle.codes.specs.declared.table.Role.{Role}
use Rattle.message.specs.declared.reading.Message.{Message}
use Rattle.codes.specs.Table.{row_of, in_table}
use Rattle.codes.specs.Lengths.{length_of, length_right}
use Rattle.meaning.specs.Fields.{fields_right}
use Rattle.message.specs.Reading.{message_of, read_message}
use Rattle.message.specs.Writing.{judged_message_write, written_message}

-- ---- "what is written reads back as the same message"

-- how many bytes a write has written: none where it was refused
abbrev pub count_written : Result ℕ Refusal → ℕ
count_written (Ok count) = count
count_written (Err why) = 0

-- the bytes that a write has written: the first bytes of the room, as many as the answer says
abbrev pub written_bytes : Left → List ℕ
written_bytes left = take (count_written left.answer) left.room

-- a fresh listener hears some bytes as one frame, and its body reads as a message with these parts
pub record ReadsAs (role : Role) (family : Family) (address : Address) (code : ℕ) (data' bytes : List ℕ) : Type 0 where
  pub heard : events fresh bytes ≡ frame (needed (body_of address code data')) (length (body_of address code data')) (body_of address code data') ∷ []
  pub message : read_message role family (body_of address code data') ≡ Ok (message_of role family address code data')
  pub stand : slice (message_of role family address code data').from (message_of role family address code data').to (body_of address code data') ≡ data'

abbrev pub MessageReadsBack : Type 0
MessageReadsBack =
    (role : Role) (family : Family) (address : Address) (code : ℕ) (data' room : List ℕ) → judged_message_write role family address code data' room ≡ Ok tt
    → ReadsAs role family address code data' (written_bytes (written_message role family address code data' room))

-- ---- "each message that is accepted gives back its own body bytes when written again": with its own role, family, address, code and data

pub record WrittenAgain (role : Role) (family : Family) (body : List ℕ) (message : Message) (data' : List ℕ) : Type 0 where
  pub same : body_of message.address message.code data' ≡ body
  pub written : (room : List ℕ) → needed body ≤ length room
      → written_message role family message.address message.code data' room ≡ wrote (Ok tt) (framed body) room

abbrev pub AcceptedWritesBack : Type 0
AcceptedWritesBack =
    (role : Role) (family : Family) (body : List ℕ) (message : Message) → T (are_bytes body) → read_message role family body ≡ Ok message
    → WrittenAgain role family body message (slice message.from message.to body)

-- ---- "a message is refused by 6, 7, 8 exactly as the table says"

-- the first of three tests that fails refuses: 6, 7, 8 in this order; if all three hold, what is judged after them decides
pub record FirstToFail (known sized right : Bool) (after verdict : Result (Unit {0}) Refusal) : Type 0 where
  pub unknown : ExactlyWhere (verdict ≡ Err CodeUnknown) (known ≡ false)
  pub wrong_length : ExactlyWhere (verdict ≡ Err LengthWrong) ((known ≡ true) × (sized ≡ false))
  pub outside : ExactlyWhere (verdict ≡ Err FieldOutside) ((known ≡ true) × ((sized ≡ true) × (right ≡ false)))
  pub passed : (known ≡ true) × ((sized ≡ true) × (right ≡ true)) → verdict ≡ after

abbrev pub AsTheTableSays : Role → Family → ℕ → List ℕ → Result (Unit {0}) Refusal → Result (Unit {0}) Refusal → Type 0
AsTheTableSays role family code data' =
    FirstToFail (in_table (row_of role code)) (length_right (length_of (row_of role code)) data') (fields_right family (row_of role code) data')

-- reading: 2, 1, 4, 5 come before, nothing comes after
pub record ReadByTheTable (role : Role) (family : Family) (body : List ℕ) : Type 0 where
  pub ahead : (why : Refusal) → judged_lent body ≡ Err why → read_message role family body ≡ Err why
  pub then : judged_lent body ≡ Ok tt → AsTheTableSays role family (code_in body) (data_in body) (Ok tt) (verdict_of (read_message role family body))

abbrev pub ReadingRefuses : Type 0
ReadingRefuses = (role : Role) (family : Family) (body : List ℕ) → ReadByTheTable role family body

-- writing: 5 comes before, 2 and 9 come after
pub record WrittenByTheTable (role : Role) (family : Family) (address : Address) (code : ℕ) (data' room : List ℕ) : Type 0 where
  pub ahead : legal address ≡ false → verdict_of (written_message role family address code data' room).answer ≡ Err AddressIllegal
  pub then : legal address ≡ true
      → AsTheTableSays role family code data' (judged_length (body_of address code data') (judged_room (needed (body_of address code data')) room)) (verdict_of (written_message role family address code data' room).answer)

abbrev pub WritingRefuses : Type 0
WritingRefuses = (role : Role) (family : Family) (address : Address) (code : ℕ) (data' room : List ℕ) → WrittenByTheTable role family address code data' room
