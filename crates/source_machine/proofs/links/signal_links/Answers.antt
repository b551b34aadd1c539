use Rattle.std.proofs.Common.{length}
use Rattle.source_machine.proofs.Common.{plain_netlist}
use Rattle.source_machine.proofs.LinkReads.{links_behind, links_more}
use Rattle.source_machine.proofs.links.signal_links.Goals as goal

pub loop-cell-preserved : goal.loop-cell-preserved
loop-cell-preserved g c =
    links_more g.D.Device.table (plain_netlist c.args.net.now) c.loop-cell.cell c.loop-cell.links.items c.push.new.self.items c.cell_link.result
    c.in_ok-push.ensures.items c.loop-cell.invariant c.cell_link.ensures

pub loop-node-preserved : goal.loop-node-preserved
loop-node-preserved g c =
    links_behind g.D.Device.table (plain_netlist c.args.net.now) (length g.D.Device.table.cells) c.loop-node.node c.loop-node.links.items c.push-in-loop-node.new.self.items c.node_link.result
    c.in_ok-push-2.ensures.items c.loop-node.invariant c.node_link.ensures
