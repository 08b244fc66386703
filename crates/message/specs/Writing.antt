-- 01, "What the answers mean": message writing judges "5, 6, 7, 8, 2, 9. The message writer is given role, address, code and the data
-- bytes of the table's row, and judges 6, 7, 8 on them as the reader does." So it takes the family as the reader does.
use Rattle.std.specs.Prelude.{ℕ, List, Result}
use Rattle.room.specs.Writing.{Left, judged_room, wrote}
use Rattle.body.specs.declared.addresses.Address.{Address}
use Rattle.body.specs.Body.{body_of}
use Rattle.frame.specs.Stuffing.{framed, needed}
use Rattle.frame.specs.Writing.{judged_address, judged_length}
use Rattle.weight.specs.declared.families.Family.{Family}
use Rattle.codes.specs.declared.table.Role.{Role}
use Rattle.meaning.specs.Judging.{judged_then, judged_message}
use Rattle.refusal.specs.declared.Refusal.{Refusal}

-- 5; 6, 7, 8; 2; 9
unfoldable pub judged_message_write : Role → Family → Address → ℕ → List ℕ → List ℕ → Result (Unit {0}) Refusal
judged_message_write role family address code data' room =
    judged_address address (judged_then (judged_message role family code data') (judged_length (body_of address code data') (judged_room (needed (body_of address code data')) room)))

-- the message's frame stands in the first bytes of the room, and every other byte is as it stood; if refused, every byte is as it stood
unfoldable pub written_message : Role → Family → Address → ℕ → List ℕ → List ℕ → Left
written_message role family address code data' room = wrote (judged_message_write role family address code data' room) (framed (body_of address code data')) room
