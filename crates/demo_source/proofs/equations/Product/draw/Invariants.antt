use Rattle.demo_source.proofs.Common.{literal_drawn}
use Rattle.demo_source.proofs.Drawn.{HasDrawn}
use Rattle.demo_source.proofs.equations.Product.draw.Given as goal

abbrev pub invariant-loop : goal.invariant-loop
invariant-loop l = HasDrawn literal_drawn 2 3 l.fn.draws.state l.literals.items l.draws.state l.counter
