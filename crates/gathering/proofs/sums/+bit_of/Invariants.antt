use Rattle.std.proofs.Common.{length}
use Rattle.gathering.proofs.sums.+bit_of.Given as goal

abbrev pub decreases-bit_of : goal.decreases-bit_of
decreases-bit_of l = length l.steps.now
