use Rattle.std.proofs.Common.{length}
use Rattle.gathering.proofs.Common.{link_reads}
use Rattle.gathering.proofs.LinkSets.{order_of_sets, loop_of_sets}
use Rattle.gathering.proofs.chains.read_order.Goals as goal

pub returns : goal.returns
returns c =
    order_of_sets (length c.args.links.now) (link_reads c.args.links.now) c.in_ok-sets.sets.items c.deref.result.now c.deref.ensures.value c.in_ok-sets.ensures.count c.in_ok-sets.ensures.sets c.in-Ok.order.items c.in-Ok.ensures.ok

pub unreachable-requires : goal.unreachable-requires
unreachable-requires c =
    c.requires.no_loop c.in-Err._found.vertices.items
    (loop_of_sets (length c.args.links.now) (link_reads c.args.links.now) c.in_ok-sets.sets.items c.deref.result.now c.deref.ensures.value c.in_ok-sets.ensures.count c.in_ok-sets.ensures.sets c.in-Err._found.vertices.items c.in-Err.ensures.refused).is_loop
