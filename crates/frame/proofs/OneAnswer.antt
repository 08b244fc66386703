-- Shown: each promise of this crate admits one answer, and a frame write one room.
-- Why: each is an equation with a definition; a write's has one for the answer and one for the room.
use Rattle.std.specs.Prelude.{Result}
use Prim.Native.Nat.{ℕ}
use mathlib.Core.Path.{◌≡◌}
use mathlib.Core.List.{List}
use Rattle.laws.proofs.OneAnswer.{one}
use Rattle.room.specs.Writing.{Leaves}
use Rattle.room.proofs.OneAnswer.{leaves_one}
use Rattle.body.specs.declared.addresses.Address.{Address}
use Rattle.frame.specs.Writing.{needed_for, written_frame}
use Rattle.refusal.specs.declared.Refusal.{Refusal}

pub room_needed_one : (address : Address) (code : ℕ) (data' : List ℕ) (a b : Result ℕ Refusal) → a ≡ needed_for address code data' → b ≡ needed_for address code data' → a ≡ b
room_needed_one address code data' a b = one

pub write_one : (address : Address) (code : ℕ) (data' room : List ℕ) (a b : Result ℕ Refusal) (l m : List ℕ)
    → Leaves (written_frame address code data' room) a l → Leaves (written_frame address code data' room) b m → (a ≡ b) × (l ≡ m)
write_one address code data' room a b l m = leaves_one
