-- `frame::put_address` meets its contract: the bytes laid are the address as it stands on the wire.
-- Why: in each arm the address is the constructor that the arm names; a serial's bytes lie behind the 00.
use Rattle.low_first.specs.LowFirst.{low_bytes}
use Rattle.room.proofs.Over.{laid_then}
use Rattle.body.specs.Addresses.{address_bytes}
use Rattle.frame.proofs.writing.put_address.Goals as goal

pub returns-in-Short : goal.returns-in-Short
unfolding address_bytes
returns-in-Short c = rw c.in-Short.is c.lay_byte.ensures

pub returns-in-Serial : goal.returns-in-Serial
unfolding address_bytes low_bytes
returns-in-Serial c =
    let is = c.in-Serial.is in
    rw is (laid_then (rw is at c.requires) c.lay_byte-behind_zero.ensures c.lay_low.ensures)
