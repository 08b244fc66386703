-- 01, "What the answers mean": "Frame writing is given address, code and data bytes, works out the check itself, and judges 5, 2, 9."
use Rattle.std.specs.Prelude.{ℕ, not, List, length, ltb, Result, Ok, Err}
use Rattle.refusal.specs.declared.Refusal.TheVariants.{AddressIllegal, BodyLong}
use Rattle.refusal.specs.Numbers.{refuse_if, by_verdict}
use Rattle.room.specs.Writing.{Left, judged_room, wrote}
use Rattle.body.specs.declared.addresses.Address.{Address}
use Rattle.body.specs.Addresses.{legal}
use Rattle.body.specs.Body.{longest, body_of}
use Rattle.frame.specs.Stuffing.{framed, needed}
use Rattle.refusal.specs.declared.Refusal.{Refusal}

-- 5, then whatever comes after
abbrev pub judged_address : Address → Result (Unit {0}) Refusal → Result (Unit {0}) Refusal
judged_address address after = refuse_if (not (legal address)) AddressIllegal after

-- 2, then whatever comes after
abbrev pub judged_length : List ℕ → Result (Unit {0}) Refusal → Result (Unit {0}) Refusal
judged_length body after = refuse_if (ltb longest (length body)) BodyLong after

-- 5, 2, then whatever comes after
unfoldable pub judged_fields : Address → ℕ → List ℕ → Result (Unit {0}) Refusal → Result (Unit {0}) Refusal
judged_fields address code data' after = judged_address address (judged_length (body_of address code data') after)

-- the number of the room rule; nothing is written
unfoldable pub needed_for : Address → ℕ → List ℕ → Result ℕ Refusal
needed_for address code data' = by_verdict Ok Err (judged_fields address code data' (Ok tt)) (needed (body_of address code data'))

-- 5, 2, 9
unfoldable pub judged_write : Address → ℕ → List ℕ → List ℕ → Result (Unit {0}) Refusal
judged_write address code data' room = judged_fields address code data' (judged_room (needed (body_of address code data')) room)

-- the frame stands in the first bytes of the room, and every other byte is as it stood; if refused, every byte is as it stood
unfoldable pub written_frame : Address → ℕ → List ℕ → List ℕ → Left
written_frame address code data' room = wrote (judged_write address code data' room) (framed (body_of address code data')) room
