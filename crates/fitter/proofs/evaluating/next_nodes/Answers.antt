use Rattle.std.proofs.Common.{◌<◌, length, ap, subst, sym, List, arith}
use Rattle.fitter.proofs.Common.{Function, bits, levels_of, length-bits}
use Rattle.fitter.proofs.Stepping.{levels_more, next_value, no_levels}
use Rattle.fitter.proofs.evaluating.next_nodes.Goals as goal

pub loop-node-init : goal.loop-node-init
loop-node-init c = record { below = no_levels _ 128 }

pub loop-node-preserved : goal.loop-node-preserved
loop-node-preserved c =
    let low = subst (λ (fs : List Function). c.loop-node.node < length fs) c.as_slice-functions.ensures c.loop-node-test.true in
    let last = c.last_of.ensures.each c.loop-node.node low in
    record {
      below = levels_more _ 128 c.loop-node.node (bits 128 c.loop-node.nodes) (bits 128 c.with_value-nodes.result) c.function_value-value.result (length-bits 128 c.loop-node.nodes)
          (omega (arith, low, c.requires.few)) c.loop-node.invariant.below c.with_value-nodes.ensures
          (next_value c.args.net.now (levels_of c.args.at.now) c.as_slice-functions.result.now c.in_ok-values.values.items c.deref.result.now c.loop-node.node c.function_value-value.result
          c.as_slice-functions.ensures c.deref.ensures.value c.in_ok-values.ensures.values (omega (arith, last, c.in_ok-values.ensures.count)) c.function_value-value.ensures);
    }
