-- Shown: each promise of this crate, and the promise of every write above it, admits one answer and one room.
-- Why: each is an equation with a definition for the answer and one for the room.
use Rattle.std.specs.Prelude.{Result}
use Prim.Native.Nat.{ℕ}
use mathlib.Core.Path.{◌≡◌}
use mathlib.Core.List.{List, [], ◌∷◌}
use lib.ListN.{take}
use Rattle.refusal.specs.declared.Refusal.{Refusal}
use Rattle.laws.proofs.OneAnswer.{one}
use Rattle.low_first.specs.LowFirst.{low_bytes}
use Rattle.room.specs.Laying.{Laid}
use Rattle.room.specs.Writing.{Left, Leaves, refused_write, written}

pub refused_write_one : (why : Refusal) (a b : Result ℕ Refusal) → a ≡ refused_write why → b ≡ refused_write why → a ≡ b
refused_write_one why a b = one

pub lay_one : {at a b : ℕ} {source room l m : List ℕ} → Laid at source room a l → Laid at source room b m → (a ≡ b) × (l ≡ m)
lay_one p q = (one p.place q.place, one p.room q.room)

pub lay_byte_one : {at byte a b : ℕ} {room l m : List ℕ} → Laid at (byte ∷ []) room a l → Laid at (byte ∷ []) room b m → (a ≡ b) × (l ≡ m)
lay_byte_one = lay_one

pub lay_low_one : (number count : ℕ) {at a b : ℕ} {room l m : List ℕ} → Laid at (low_bytes count number) room a l → Laid at (low_bytes count number) room b m → (a ≡ b) × (l ≡ m)
lay_low_one number count = lay_one

-- a write's promise fixes the answer and every byte of the lent room
pub leaves_one : {write : Left} {a b : Result ℕ Refusal} {l m : List ℕ} → Leaves write a l → Leaves write b m → (a ≡ b) × (l ≡ m)
leaves_one p q = (one p.answer q.answer, one p.room q.room)

pub write_one : (bytes room : List ℕ) (a b : Result ℕ Refusal) (l m : List ℕ) → Leaves (written bytes room) a l → Leaves (written bytes room) b m → (a ≡ b) × (l ≡ m)
write_one bytes room a b l m = leaves_one

pub front_one : (lent : List ℕ) (count : ℕ) (a b : List ℕ) → a ≡ take count lent → b ≡ take count lent → a ≡ b
front_one lent count a b = one
