use Rattle.std.proofs.Common.{rules}
use Rattle.sop_lowering.proofs.Operands.{make_pushed, walk_pushed}
use Rattle.sop_lowering.proofs.walking.put_steps.Goals as goal

pub loop-index-preserved-in-Continue-branch-2 : goal.loop-index-preserved-in-Continue-branch-2
loop-index-preserved-in-Continue-branch-2 c = record {
  lead = λ root leads all. walk_pushed c.args.net.now root c.args.bit c.in-Some.operand c.loop-index.stack.items _ c.in_ok-push-2.ensures.items leads c.in-Some.ensures (c.loop-index.invariant.lead root leads all);
  few = search rules;
}

pub returns-clause-lead : goal.returns-clause-lead
returns-clause-lead c = λ root leads all. c.loop-index.invariant.lead root leads
    (make_pushed c.args.net.now root c.args.bit c.args.stack.now.items _ c.in_ok-push.ensures.items leads all)
