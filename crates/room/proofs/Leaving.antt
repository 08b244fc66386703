-- Shown: what a write answers and leaves: refused, the room as it stood; good, its bytes at the room's front.
-- Why: the definition says so of each verdict, and a piece laid at the front that fits is the piece over the room.
use Rattle.std.specs.Prelude.{Result, Ok}
use Prim.Native.Nat.{ℕ, ◌≤◌}
use mathlib.Core.Path.{◌≡◌, refl}
use mathlib.Core.List.{List}
use lib.ListN.{length}
use Rattle.refusal.specs.declared.Refusal.{Refusal}
use Rattle.room.specs.Laying.{Laid}
use Rattle.room.specs.Writing.{Leaves, refused_write, wrote}
use Rattle.room.proofs.Over.{laid_front}

-- `wrote (Refused why)` of any bytes
pub refused_leaves : {why : Refusal} {answered : Result ℕ Refusal} {room : List ℕ} → answered ≡ refused_write why
    → Leaves (record { answer = refused_write why; room = room }) answered room
refused_leaves e = record { answer = e; room = refl }

pub good_leaves : {count : ℕ} {bytes room left : List ℕ} → length bytes ≤ length room → Laid 0 bytes room count left
    → Leaves (wrote (Ok tt) bytes room) (Ok count) left
good_leaves fits laid = record { answer = rw (laid_front fits laid).0; room = (laid_front fits laid).1 }
