use Rattle.std.proofs.Common.{length}
use Rattle.gathering.proofs.Common.{link_reads}
use Rattle.gathering.proofs.LinkSets.{loop_of_sets, no_loop_of_sets}
use Rattle.gathering.proofs.chains.first_loop.Goals as goal

pub returns-in-Ok-clause-none : goal.returns-in-Ok-clause-none
returns-in-Ok-clause-none c =
    no_loop_of_sets (length c.args.links.now) (link_reads c.args.links.now) c.in_ok-sets.sets.items c.deref.result.now c.deref.ensures.value c.in_ok-sets.ensures.count c.in_ok-sets.ensures.sets c.in-Ok.ensures.no_loop

pub returns-clause-found : goal.returns-clause-found
returns-clause-found c =
    loop_of_sets (length c.args.links.now) (link_reads c.args.links.now) c.in_ok-sets.sets.items c.deref.result.now c.deref.ensures.value c.in_ok-sets.ensures.count c.in_ok-sets.ensures.sets c.in-Err.found.vertices.items c.in-Err.ensures.refused
