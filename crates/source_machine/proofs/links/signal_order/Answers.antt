use Rattle.std.proofs.Common.{sym, subst}
use Rattle.source_machine.proofs.Common.{plain_netlist, AreSignalLinks}
use Rattle.std.proofs.lemmas.Result.{IfOk-weaker}
use Rattle.source_machine.proofs.LinkReads.{few_links, leaves, no_chain, order_waits}
use Rattle.source_machine.proofs.links.signal_order.Goals as goal

pub read_order-requires-clause-few : goal.read_order-requires-clause-few
read_order-requires-clause-few g c =
    let t = g.D.Device.table in
    let net = plain_netlist c.args.net.now in
    few_links t g.D.Device.sound net c.requires.sound c.deref.result.now (subst (AreSignalLinks t net) (sym c.deref.ensures.value) c.in_ok-links.ensures)

pub read_order-requires-clause-leaves : goal.read_order-requires-clause-leaves
read_order-requires-clause-leaves g c =
    let t = g.D.Device.table in
    let net = plain_netlist c.args.net.now in
    leaves t g.D.Device.sound net c.requires.sound c.deref.result.now (subst (AreSignalLinks t net) (sym c.deref.ensures.value) c.in_ok-links.ensures)

pub read_order-requires-clause-no_loop : goal.read_order-requires-clause-no_loop
read_order-requires-clause-no_loop g c =
    let t = g.D.Device.table in
    let net = plain_netlist c.args.net.now in
    no_chain t g.D.Device.sound net c.requires.sound c.deref.result.now (subst (AreSignalLinks t net) (sym c.deref.ensures.value) c.in_ok-links.ensures)

pub returns : goal.returns
returns g c =
    let t = g.D.Device.table in
    let net = plain_netlist c.args.net.now in
    IfOk-weaker c.read_order.result _ _
    (λ order is. order_waits t g.D.Device.sound net c.requires.sound c.deref.result.now (subst (AreSignalLinks t net) (sym c.deref.ensures.value) c.in_ok-links.ensures) order.items is)
    c.read_order.ensures
