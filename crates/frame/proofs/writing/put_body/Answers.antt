-- `frame::put_body` meets its contract: the body's bytes go onto the wire one behind the other.
-- Why: after some turns the stuffed form of the bytes so far is laid.
use Rattle.std.proofs.Common.{arith}
use Rattle.room.proofs.Over.{laid_none}
use Rattle.frame.specs.Stuffing.{stuffed}
use Rattle.frame.proofs.Pieces.{next_fits, next_laid}
use Rattle.frame.proofs.writing.put_body.Goals as goal

pub loop-byte-init : goal.loop-byte-init
unfolding stuffed
loop-byte-init c = laid_none _ _ (omega (arith, c.requires))

pub put-next-requires : goal.put-next-requires
put-next-requires c = next_fits c.args.body.now c.loop-byte.byte-index (omega arith) c.requires c.loop-byte.invariant

pub loop-byte-preserved : goal.loop-byte-preserved
loop-byte-preserved c = next_laid c.args.body.now c.loop-byte.byte-index (omega arith) c.requires c.loop-byte.invariant c.put-next.ensures
