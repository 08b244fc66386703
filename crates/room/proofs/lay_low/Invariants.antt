-- `room::lay_low` meets its contract: a number's bytes at their place, low byte first, or nothing where they would pass the room's end.
-- Why: after i turns the first i places have the number's first i bytes, and what is left of it is its quotient by 256 ^ i.
use Rattle.std.proofs.Common.{◌≡◌, ◌/◌, ◌^◌, take}
use Rattle.low_first.specs.LowFirst.{low_bytes}
use Rattle.room.proofs.lay_low.Given as goal

abbrev pub invariant-loop-place : goal.invariant-loop-place
invariant-loop-place l = (l.left ≡ l.number / 256 ^ l.place-index) × (take l.place-index l.place-items ≡ low_bytes l.place-index l.number)
