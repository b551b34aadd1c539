use Rattle.std.proofs.Common.{length}
use Rattle.abel_vectors.proofs.given.+disagree.Given as goal

abbrev pub decreases-disagree : goal.decreases-disagree
decreases-disagree l = length l.list.now
