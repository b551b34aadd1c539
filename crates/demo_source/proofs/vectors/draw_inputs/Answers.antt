use Rattle.std.proofs.Common.{arith}
use Rattle.demo_source.proofs.Common.{state_after, level_drawn}
use Rattle.demo_source.proofs.Drawn.{none_drawn, next_drawn, all_drawn}
use Rattle.demo_source.proofs.vectors.draw_inputs.Goals as goal

pub loop-init : goal.loop-init
loop-init c = rw c.new-inputs.ensures.items (none_drawn level_drawn 1 10 c.args.draws.now.state)

pub loop-preserved : goal.loop-preserved
unfolding state_after
loop-preserved c =
    next_drawn level_drawn 1 10 c.args.draws.now.state c.loop.inputs.items c.push.new.self.items c.coin.result
    c.loop.draws.state c.coin.new.self.state c.loop.counter c.loop.invariant (omega (arith, c.loop-test.true))
    c.coin.ensures.value c.coin.ensures.moved c.in_ok-push.ensures.items

pub returns-clause-inputs : goal.returns-clause-inputs
returns-clause-inputs c =
    all_drawn level_drawn 1 10 c.args.draws.now.state c.loop.inputs.items c.loop.draws.state c.loop.counter c.loop.invariant
    (omega (arith, c.loop-test.false, c.loop.auto.counter-end))
