use Rattle.demo_source.proofs.Common.{equation_drawn}
use Rattle.demo_source.proofs.Drawn.{HasDrawn}
use Rattle.demo_source.proofs.text.draw_equations.Given as goal

abbrev pub invariant-loop : goal.invariant-loop
invariant-loop l = HasDrawn equation_drawn 48 10 l.fn.draws.state l.equations.items l.draws.state l.counter
