-- `frame::put_body` meets its contract: the body's bytes go onto the wire one behind the other.
-- Why: after some turns the stuffed form of the bytes so far is laid.
use Rattle.std.proofs.Common.{take}
use Rattle.room.specs.Laying.{Laid}
use Rattle.frame.specs.Stuffing.{stuffed}
use Rattle.frame.proofs.writing.put_body.Given as goal

abbrev pub invariant-loop-byte : goal.invariant-loop-byte
invariant-loop-byte l = Laid l.at (stuffed (take l.byte-index l.body)) l.initial.room l.next l.room
