-- `hour_mean::common` ends.
-- Why: the remainder, which is the next count, is below the count.
use Rattle.hour_mean.proofs.+common.Given as goal

abbrev pub decreases-common : goal.decreases-common
decreases-common l = l.count
