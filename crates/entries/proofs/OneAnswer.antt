-- Shown: each promise of this crate admits one answer.
-- Why: each is an equation with a definition.
use Rattle.std.specs.Prelude.{Result, Option}
use Prim.Native.Nat.{ℕ}
use mathlib.Core.Path.{◌≡◌}
use mathlib.Core.Bool.{Bool}
use mathlib.Core.List.{List}
use Rattle.laws.proofs.OneAnswer.{one}
use Rattle.line.specs.declared.places.Event.{Event}
use Rattle.line.specs.Readers.{heard_as}
use Rattle.weight.specs.declared.families.Family.{Family}
use Rattle.entries.specs.declared.entries.Entry.{Entry}
use Rattle.entries.specs.Entries.{entry_of, entry_if, entry_heard}
use Rattle.message.specs.declared.reading.Message.{Message}
use Rattle.refusal.specs.declared.Refusal.{Refusal}

pub entry_of_one : (received : Result Message Refusal) (a b : Entry) → a ≡ entry_of received → b ≡ entry_of received → a ≡ b
entry_of_one received a b = one

pub heard_without_check_one : (family : Family) (right : Bool) (event : Option Event) (body : List ℕ) (a b : Option Entry)
    → a ≡ entry_if right family (heard_as event body) → b ≡ entry_if right family (heard_as event body) → a ≡ b
heard_without_check_one family right event body a b = one

pub heard_one : (family : Family) (event : Option Event) (body : List ℕ) (a b : Option Entry) → a ≡ entry_heard family (heard_as event body) → b ≡ entry_heard family (heard_as event body) → a ≡ b
heard_one family event body a b = one
