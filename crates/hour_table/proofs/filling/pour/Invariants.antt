-- `hour_table::pour` meets its contract: record by record from a place, until the log ends or something is refused.
-- Why: what is left of the log, poured into the cells as they are, is the same at every turn; each turn takes the next record of the log.
use Rattle.std.proofs.Common.{◌≡◌, ◌-◌, ◌/◌, length}
use Rattle.hour_table.specs.Filling.{from_here}
use Rattle.hour_table.proofs.filling.pour.Given as goal

abbrev pub invariant-loop-item : goal.invariant-loop-item
invariant-loop-item l = from_here l.log (l.place / 20) l.place l.table ≡ from_here l.log (l.initial.place / 20) l.initial.place l.initial.table

abbrev pub decreases-loop-item : goal.decreases-loop-item
decreases-loop-item l = length l.log - l.place
