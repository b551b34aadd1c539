use Rattle.demo_source.proofs.Common.{product_drawn}
use Rattle.demo_source.proofs.Drawn.{HasDrawn}
use Rattle.demo_source.proofs.equations.Equation.draw.Given as goal

abbrev pub invariant-loop : goal.invariant-loop
invariant-loop l = HasDrawn product_drawn 6 8 l.fn.draws.state l.products.items l.draws.state l.counter
