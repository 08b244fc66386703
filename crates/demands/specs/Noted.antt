-- "A weight that wasn't heard must never look like a weight of nothing." 01, "Log records": "Kind 3 is a refusal met on the line: status 1 to
-- 8". So each refusal of a line, and each refusal of a body's message, has its record, with its number and no weight. None is lost.
-- "Judged examples": "refusals 1 to 8 all as the third line". None is lost in the listing either.
use Rattle.std.specs.Prelude.{ℕ, ◌≡◌, List, Ok, Err, Some}
use Rattle.refusal.specs.declared.Refusal.{Refusal}
use Rattle.refusal.specs.Numbers.{number_of}
use Rattle.line.specs.Listener.{Heard, Listener, frame, refused, hear}
use Rattle.weight.specs.declared.families.Family.{Family}
use Rattle.codes.specs.declared.table.Role.{Role}
use Rattle.codes.specs.declared.table.Role.TheVariants.{Reply}
use Rattle.message.specs.Reading.{read_message}
use Rattle.weighing_log.specs.Hearing.{met_on_line, noted_heard}
use Rattle.entries.specs.declared.entries.Entry.TheVariants as entry_as
use Rattle.entries.specs.Entries.{entry_heard}

-- an event in which a refusal was met is noted as its record
abbrev pub IsNoted : ℕ → Role → Family → Heard → Refusal → Type 0
IsNoted time role family heard why = noted_heard time role family heard ≡ Ok (Some (met_on_line time (number_of why)))

-- and listed as refused, with that refusal
abbrev pub IsListed : Family → Heard → Refusal → Type 0
IsListed family heard why = entry_heard family heard ≡ Some (entry_as.Refused why)

-- each refusal that a byte on the line gives, in whatever state, role and family
abbrev pub LineRefusalsNoted : Type 0
LineRefusalsNoted =
    (time : ℕ) (role : Role) (family : Family) (listener : Listener) (byte : ℕ) (why : Refusal) (wire kept : ℕ) → (hear listener byte).event ≡ refused why wire kept
    → IsNoted time role family (hear listener byte).event why

abbrev pub LineRefusalsListed : Type 0
LineRefusalsListed =
    (family : Family) (listener : Listener) (byte : ℕ) (why : Refusal) (wire kept : ℕ) → (hear listener byte).event ≡ refused why wire kept
    → IsListed family (hear listener byte).event why

-- each refusal that a frame's body earns, in either role, by each family
abbrev pub MessageRefusalsNoted : Type 0
MessageRefusalsNoted =
    (time : ℕ) (role : Role) (family : Family) (wire kept : ℕ) (body : List ℕ) (why : Refusal) → read_message role family body ≡ Err why
    → IsNoted time role family (frame wire kept body) why

-- "A capture is read as replies throughout."
abbrev pub MessageRefusalsListed : Type 0
MessageRefusalsListed =
    (family : Family) (wire kept : ℕ) (body : List ℕ) (why : Refusal) → read_message Reply family body ≡ Err why → IsListed family (frame wire kept body) why
