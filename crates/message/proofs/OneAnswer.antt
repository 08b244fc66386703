-- Shown: each promise of this crate admits one answer, and a message write one room.
-- Why: each is an equation with a definition; a write's has one for the answer and one for the room.
use Rattle.std.specs.Prelude.{Result}
use Prim.Native.Nat.{ℕ}
use mathlib.Core.Path.{◌≡◌}
use mathlib.Core.Bool.{Bool}
use mathlib.Core.List.{List}
use Rattle.laws.proofs.OneAnswer.{one}
use Rattle.room.specs.Writing.{Leaves}
use Rattle.room.proofs.OneAnswer.{leaves_one}
use Rattle.body.specs.declared.addresses.Address.{Address}
use Rattle.weight.specs.declared.families.Family.{Family}
use Rattle.codes.specs.declared.table.Role.{Role}
use Rattle.message.specs.Reading.{read_if, read_message}
use Rattle.message.specs.Writing.{written_message}
use Rattle.message.specs.declared.reading.Message.{Message}
use Rattle.refusal.specs.declared.Refusal.{Refusal}

pub read_without_check_one : (role : Role) (family : Family) (right : Bool) (body : List ℕ) (a b : Result Message Refusal) → a ≡ read_if right role family body → b ≡ read_if right role family body → a ≡ b
read_without_check_one role family right body a b = one

pub read_one : (role : Role) (family : Family) (body : List ℕ) (a b : Result Message Refusal) → a ≡ read_message role family body → b ≡ read_message role family body → a ≡ b
read_one role family body a b = one

pub write_one : (role : Role) (family : Family) (address : Address) (code : ℕ) (data' room : List ℕ) (a b : Result ℕ Refusal) (l m : List ℕ)
    → Leaves (written_message role family address code data' room) a l → Leaves (written_message role family address code data' room) b m → (a ≡ b) × (l ≡ m)
write_one role family address code data' room a b l m = leaves_one
