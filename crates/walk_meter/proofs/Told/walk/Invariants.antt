-- `walk_meter::walk` is safe and ends: each turn goes on inside the block.
-- Why: a step that met an event is behind the place that it started from, and not past the block's end.
use Rattle.std.proofs.Common.{◌-◌, length}
use Rattle.walk_meter.proofs.Told.walk.Given as goal

abbrev pub invariant-loop-event : goal.invariant-loop-event
invariant-loop-event l = Unit {0}

abbrev pub decreases-loop-event : goal.decreases-loop-event
decreases-loop-event l = length l.block - l.place
