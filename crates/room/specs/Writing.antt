-- 01, "What the answers mean": "A refused write answers length 0 beside its number and leaves every lent byte as it stood; an accepted
-- one changes only its own length of bytes." This page says so once, for every writer: of frames, messages, log records, lines and parcels.
use Rattle.std.specs.Prelude.{ℕ, ◌≡◌, List, length, ltb, Result, Ok, Err}
use Rattle.refusal.specs.declared.Refusal.{Refusal}
use Rattle.refusal.specs.declared.Refusal.TheVariants.{RoomShort}
use Rattle.refusal.specs.Numbers.{refuse_if}
use Rattle.room.specs.Laying.{over}

-- the answer of a write, and what it leaves in the lent room
pub record Left : Type 0 where
  pub answer : Result ℕ Refusal
  pub room : List ℕ

-- refusal 9: "lent room shorter than needed"
abbrev pub judged_room : ℕ → List ℕ → Result (Unit {0}) Refusal
judged_room needs room = refuse_if (ltb (length room) needs) RoomShort (Ok tt)

-- "length 0 beside its number"
abbrev pub refused_write : Refusal → Result ℕ Refusal
refused_write why = Err why

-- the write of some bytes into a room, under a verdict
abbrev pub wrote : Result (Unit {0}) Refusal → List ℕ → List ℕ → Left
wrote (Ok tt) bytes room = record { answer = Ok (length bytes); room = over bytes room }
wrote (Err why) bytes room = record { answer = refused_write why; room = room }

-- bytes in the first places of a room, judged 9: every other byte as it stood; refused, every byte as it stood
unfoldable pub written : List ℕ → List ℕ → Left
written bytes room = wrote (judged_room (length bytes) room) bytes room

-- a promise: the answer and the room are those of a write, and no others
pub record Leaves (write : Left) (answered : Result ℕ Refusal) (left : List ℕ) : Type 0 where
  pub answer : answered ≡ write.answer
  pub room : left ≡ write.room
