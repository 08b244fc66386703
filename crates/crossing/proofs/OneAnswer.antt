-- Shown: each promise of this crate, and that of every write that crosses, admits one answer.
-- Why: each is an equation with a definition; a write's has one for the answer and one for the room.
use Rattle.std.specs.Prelude.{Result, Option}
use Prim.Native.Nat.{ℕ}
use mathlib.Core.Path.{◌≡◌}
use mathlib.Core.List.{List}
use Rattle.laws.proofs.OneAnswer.{one}
use Rattle.room.specs.Writing.{Left}
use Rattle.crossing.specs.declared.events.QuayEvent.{QuayEvent}
use Rattle.crossing.specs.declared.writing.QuayWritten.{QuayWritten}
use Rattle.crossing.specs.Events.{event_from}
use Rattle.crossing.specs.Families.{family_from}
use Rattle.crossing.specs.Roles.{role_from}
use Rattle.crossing.specs.Writing.{written_out, LeavesAcross}
use Rattle.weight.specs.declared.families.Family.{Family}
use Rattle.refusal.specs.declared.Refusal.{Refusal}
use Rattle.line.specs.declared.places.Event.{Event}
use Rattle.codes.specs.declared.table.Role.{Role}

pub event_from_one : (event : QuayEvent) (a b : Result (Option Event) Refusal) → a ≡ event_from event → b ≡ event_from event → a ≡ b
event_from_one event a b = one

pub role_from_one : (number : ℕ) (a b : Result Role Refusal) → a ≡ role_from number → b ≡ role_from number → a ≡ b
role_from_one number a b = one

pub family_from_one : (number : ℕ) (a b : Result Family Refusal) → a ≡ family_from number → b ≡ family_from number → a ≡ b
family_from_one number a b = one

pub written_out_one : (written : Result ℕ Refusal) (a b : QuayWritten) → a ≡ written_out written → b ≡ written_out written → a ≡ b
written_out_one written a b = one

-- of every write that crosses: frames, messages, records, the total line
pub writes_one : (write : Left) (a b : QuayWritten) (l m : List ℕ) → LeavesAcross write a l → LeavesAcross write b m → (a ≡ b) × (l ≡ m)
writes_one write a b l m p q = (one p.answer q.answer, one p.room q.room)
