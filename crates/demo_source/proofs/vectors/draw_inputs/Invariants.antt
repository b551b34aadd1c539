use Rattle.demo_source.proofs.Common.{level_drawn}
use Rattle.demo_source.proofs.Drawn.{HasDrawn}
use Rattle.demo_source.proofs.vectors.draw_inputs.Given as goal

abbrev pub invariant-loop : goal.invariant-loop
invariant-loop l = HasDrawn level_drawn 1 10 l.fn.draws.state l.inputs.items l.draws.state l.counter
