use Rattle.std.proofs.Common.{◌+◌, ◌*◌, length, max}
use Rattle.sop_lowering.proofs.Common.{arena}
use Rattle.sop_lowering.proofs.lowering.+lowering.Given as goal

abbrev pub decreases-kept_or_made : goal.decreases-kept_or_made
decreases-kept_or_made l = l.turns * (3 * length (arena l.of.now.net.now.exprs) + 3) + 3 * l.bit.id.0 + 2

abbrev pub decreases-made : goal.decreases-made
decreases-made l = l.turns * (3 * length (arena l.of.now.net.now.exprs) + 3) + 3 * l.bit.id.0 + 1

abbrev pub decreases-product : goal.decreases-product
decreases-product l = l.turns * (3 * length (arena l.of.now.net.now.exprs) + 3) + 3 * max l.a.id.0 l.b.id.0 + 3

abbrev pub decreases-sum : goal.decreases-sum
decreases-sum l = l.turns * (3 * length (arena l.of.now.net.now.exprs) + 3) + 3 * max l.a.id.0 l.b.id.0 + 3

abbrev pub decreases-node_list : goal.decreases-node_list
decreases-node_list l = l.turns * (3 * length (arena l.of.now.net.now.exprs) + 3)
