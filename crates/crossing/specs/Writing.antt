-- Writes for another language: what the layers below write, with the verdict as a number, and every lent byte as they leave it.
use Rattle.std.specs.Prelude.{ℕ, ◌≡◌, List, Result, Ok, Err}
use Rattle.refusal.specs.declared.Refusal.{Refusal}
use Rattle.refusal.specs.Numbers.{number_of}
use Rattle.room.specs.Writing.{Left, refused_write}
use Rattle.crossing.specs.declared.writing.QuayWritten.{QuayWritten}

abbrev pub written_out : Result ℕ Refusal → QuayWritten
written_out (Ok length) = record { length = length; refusal = 0 }
written_out (Err why) = record { length = 0; refusal = number_of why }

-- a refused write: length 0 beside its number, every lent byte as it stood
abbrev pub unwritten : Refusal → List ℕ → Left
unwritten why room = record { answer = refused_write why; room = room }

-- a promise: the answer and the room are those of a write, and no others
pub record LeavesAcross (write : Left) (answered : QuayWritten) (left : List ℕ) : Type 0 where
  pub answer : answered ≡ written_out write.answer
  pub room : left ≡ write.room
