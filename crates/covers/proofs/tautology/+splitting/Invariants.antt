use Rattle.std.proofs.Common.{◌+◌, ◌*◌, slice_range}
use Rattle.covers.proofs.Common.{splits}
use Rattle.covers.proofs.tautology.+splitting.Given as goal

abbrev pub decreases-missed_in_branch : goal.decreases-missed_in_branch
decreases-missed_in_branch l = 2 * splits l.vars (slice_range l.pool.now.cubes l.cover.from l.cover.to)

abbrev pub decreases-missed_point : goal.decreases-missed_point
decreases-missed_point l = 2 * splits l.vars (slice_range l.pool.now.cubes l.cover.from l.cover.to) + 1
