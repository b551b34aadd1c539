use Rattle.std.proofs.Common.{refl, arith}
use Rattle.demo_source.proofs.Common.{state_after, literal_drawn}
use Rattle.demo_source.proofs.Drawn.{none_drawn, next_drawn, all_drawn}
use Rattle.demo_source.proofs.equations.Product.draw.Goals as goal

pub loop-init : goal.loop-init
loop-init c = rw c.new-literals.ensures.items (none_drawn literal_drawn 2 3 c.args.draws.now.state)

pub loop-preserved : goal.loop-preserved
unfolding state_after
loop-preserved c =
    next_drawn literal_drawn 2 3 c.args.draws.now.state c.loop.literals.items c.push.new.self.items c.draw.result
    c.loop.draws.state c.draw.new.draws.state c.loop.counter c.loop.invariant (omega (arith, c.loop-test.true))
    c.draw.ensures.literal c.draw.ensures.moved c.in_ok-push.ensures.items

pub returns-clause-product : goal.returns-clause-product
returns-clause-product c =
    rw (
      c.from_vec.ensures,
      all_drawn literal_drawn 2 3 c.args.draws.now.state c.loop.literals.items c.loop.draws.state c.loop.counter c.loop.invariant
          (omega (arith, c.loop-test.false, c.loop.auto.counter-end)),
    ) refl
