-- `list_capture::list_block` is safe and ends: each turn goes on inside the block.
-- Why: a block that is not empty is heard by at least one byte, and never past its end.
use Rattle.std.proofs.Common.{◌≡◌, length}
use Rattle.list_capture.proofs.telling.Tally.list_block.Given as goal

abbrev pub invariant-loop-rest : goal.invariant-loop-rest
invariant-loop-rest l = length l.reader.body ≡ 255

abbrev pub decreases-loop-rest : goal.decreases-loop-rest
decreases-loop-rest l = length l.rest
