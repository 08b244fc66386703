-- Shown: each promise of this crate admits one answer, and each write one room.
-- Why: each is an equation with a definition; a write's has one for the answer and one for the room.
use Rattle.std.specs.Prelude.{Result, Option}
use Prim.Native.Nat.{ℕ}
use mathlib.Core.Path.{◌≡◌}
use mathlib.Core.List.{List}
use Rattle.room.specs.Writing.{Leaves}
use Rattle.room.proofs.OneAnswer.{leaves_one}
use Rattle.entries.specs.declared.entries.Entry.{Entry}
use Rattle.listing.specs.Writing.{written_line, written_total}
use Rattle.refusal.specs.declared.Refusal.{Refusal}

pub write_line_one : (number : ℕ) (entry : Option Entry) (room : List ℕ) (a b : Result ℕ Refusal) (l m : List ℕ)
    → Leaves (written_line number entry room) a l → Leaves (written_line number entry room) b m → (a ≡ b) × (l ≡ m)
write_line_one number entry room a b l m = leaves_one

pub write_total_one : (total weights refused : ℕ) (room : List ℕ) (a b : Result ℕ Refusal) (l m : List ℕ)
    → Leaves (written_total total weights refused room) a l → Leaves (written_total total weights refused room) b m → (a ≡ b) × (l ≡ m)
write_total_one total weights refused room a b l m = leaves_one
