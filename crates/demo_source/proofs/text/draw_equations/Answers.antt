use Rattle.std.proofs.Common.{arith}
use Rattle.demo_source.proofs.Common.{state_after, equation_drawn}
use Rattle.demo_source.proofs.Drawn.{none_drawn, next_drawn, all_drawn}
use Rattle.demo_source.proofs.text.draw_equations.Goals as goal

pub loop-init : goal.loop-init
loop-init c = rw c.new-equations.ensures.items (none_drawn equation_drawn 48 10 c.args.draws.now.state)

pub loop-preserved : goal.loop-preserved
unfolding state_after
loop-preserved c =
    next_drawn equation_drawn 48 10 c.args.draws.now.state c.loop.equations.items c.push.new.self.items c.in_ok-draw.field-0
    c.loop.draws.state c.draw.new.draws.state c.loop.counter c.loop.invariant (omega (arith, c.loop-test.true))
    c.in_ok-draw.ensures.equation c.in_ok-draw.ensures.moved c.in_ok-push.ensures.items

pub returns-clause-equations : goal.returns-clause-equations
returns-clause-equations c =
    all_drawn equation_drawn 48 10 c.args.draws.now.state c.loop.equations.items c.loop.draws.state c.loop.counter c.loop.invariant
    (omega (arith, c.loop-test.false, c.loop.auto.counter-end))
