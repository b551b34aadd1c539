use Rattle.demo_source.proofs.Common.{bits}
use Rattle.demo_source.proofs.Ordered.{machine_ordered}
use Rattle.demo_source.proofs.vectors.point_after.Goals as goal

pub rest-requires : goal.rest-requires
rest-requires c = machine_ordered c.args.of.now.equations.now

pub step-requires : goal.step-requires
step-requires c = machine_ordered c.args.of.now.equations.now

pub returns-in-None : goal.returns-in-None
unfolding bits
returns-in-None c = rw c.in-None.is c.rest.ensures.at_rest
