-- Messages written for another language: the message layer's write. Role, family and address are handed in as numbers.
use Rattle.std.specs.Prelude.{ℕ, List, Result, Ok, Err}
use Rattle.room.specs.Writing.{Left}
use Rattle.message.specs.Writing.{written_message}
use Rattle.crossing.specs.Writing.{unwritten}
use Rattle.quay_message.specs.Addresses.{address_from}
use Rattle.weight.specs.declared.families.Family.{Family}
use Rattle.refusal.specs.declared.Refusal.{Refusal}
use Rattle.codes.specs.declared.table.Role.{Role}

-- a role that does not exist is refused ahead of a family that does not, and both ahead of the message's own refusals
abbrev pub written_in : Result Role Refusal → Result Family Refusal → ℕ → ℕ → ℕ → List ℕ → List ℕ → Left
written_in (Ok role) (Ok family) short serial code data' room = written_message role family (address_from short serial) code data' room
written_in (Ok role) (Err why) short serial code data' room = unwritten why room
written_in (Err why) spoken short serial code data' room = unwritten why room
