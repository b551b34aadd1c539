use Rattle.std.proofs.Common.{refl, arith}
use Rattle.demo_source.proofs.Common.{state_after, product_drawn}
use Rattle.demo_source.proofs.Drawn.{none_drawn, next_drawn, all_drawn}
use Rattle.demo_source.proofs.equations.Equation.draw.Goals as goal

pub loop-init : goal.loop-init
loop-init c = rw c.new-products.ensures.items (none_drawn product_drawn 6 8 c.args.draws.now.state)

pub loop-preserved : goal.loop-preserved
unfolding state_after
loop-preserved c =
    next_drawn product_drawn 6 8 c.args.draws.now.state c.loop.products.items c.push.new.self.items c.in_ok-draw.field-0
    c.loop.draws.state c.draw.new.draws.state c.loop.counter c.loop.invariant (omega (arith, c.loop-test.true))
    c.in_ok-draw.ensures.product c.in_ok-draw.ensures.moved c.in_ok-push.ensures.items

pub returns-clause-equation : goal.returns-clause-equation
returns-clause-equation c =
    rw (
      c.from_vec.ensures,
      all_drawn product_drawn 6 8 c.args.draws.now.state c.loop.products.items c.loop.draws.state c.loop.counter c.loop.invariant
          (omega (arith, c.loop-test.false, c.loop.auto.counter-end)),
    ) refl
