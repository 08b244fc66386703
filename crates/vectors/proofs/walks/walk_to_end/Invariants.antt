-- `vectors::walk_to_end` is safe and ends: each turn goes on inside the block.
-- Why: a step that met an event is behind the place that it started from, and not past the block's end.
use Rattle.std.proofs.Common.{◌-◌, length}
use Rattle.vectors.proofs.walks.walk_to_end.Given as goal

abbrev pub invariant-loop-next : goal.invariant-loop-next
invariant-loop-next l = Unit {0}

abbrev pub decreases-loop-next : goal.decreases-loop-next
decreases-loop-next l = length l.block - l.place
