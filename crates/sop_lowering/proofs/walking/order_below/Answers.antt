use Rattle.sop_lowering.proofs.Operands.{walk_popped}
use Rattle.sop_lowering.proofs.walking.order_below.Goals as goal

pub steps-preserved-in-Continue-branch-3 : goal.steps-preserved-in-Continue-branch-3
steps-preserved-in-Continue-branch-3 c =
    let popped = walk_popped c.args.net.now c.args.root c.in-Walk.bit c.in-Some.step c.steps.stack.items c.pop.new.self.items c.in-Some.ensures.items c.in-Walk.is c.steps.invariant.stack in
    record {
      stack = c.in_ok-put_steps-in-Walk.ensures.lead c.args.root popped.1 popped.0;
      order = c.steps.invariant.order;
    }

pub steps-preserved : goal.steps-preserved
steps-preserved c = record {
  stack = (walk_popped c.args.net.now c.args.root c.in-Walk.bit c.in-Some.step c.steps.stack.items c.pop.new.self.items c.in-Some.ensures.items c.in-Walk.is c.steps.invariant.stack).0;
  order = c.steps.invariant.order;
}
