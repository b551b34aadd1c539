use Rattle.std.proofs.Common.{refl, sym, ap, ◌∙◌}
use Rattle.source_machine.proofs.Common.{plain_netlist, function_names, node_is_plain, node_leaf, node_names}
use Rattle.source_machine.proofs.LinkReads.{reads_as}
use Rattle.source_machine.proofs.links.node_link.Goals as goal

pub returns : goal.returns
returns g c =
    let t = g.D.Device.table in
    let net = plain_netlist c.args.net.now in
    record {
      leaf = rw (node_is_plain t net c.args.node, node_leaf t net c.args.node) refl;
      reads = reads_as _ _ c.function_reads.result (λ l. ap (λ f. function_names f l) c.node_function.ensures.function ∙ sym (node_names t net c.args.node l)) c.function_reads.ensures;
    }
