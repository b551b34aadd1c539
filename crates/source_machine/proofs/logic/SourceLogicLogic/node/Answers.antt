use Rattle.std.proofs.Common.{◌<◌, sym, subst, IsTrue}
use Rattle.source_machine.proofs.Common.{length-map, sets_node, arena, plain_function, plain_netlist, netlist_lookups}
use Rattle.source_machine.proofs.SignalPlaces.{node_within}
use Rattle.source_machine.proofs.logic.SourceLogicLogic.node.Goals as goal

pub node_function-function-requires-clause-node : goal.node_function-function-requires-clause-node
node_function-function-requires-clause-node g c =
    let t = g.D.Device.table in
    let net = c.self.inside.net.now in
    subst (λ n. c.args.node < n) (length-map net.nodes (plain_function (arena net.exprs)))
    (node_within t g.D.Device.sound (plain_netlist net) c.self.inside.order.items c.self.invariant.in_order c.args.node
    (subst (λ s. IsTrue (sets_node (netlist_lookups t (plain_netlist s.net) s.order).slots c.args.node)) (sym c.self.view_is) c.requires))
