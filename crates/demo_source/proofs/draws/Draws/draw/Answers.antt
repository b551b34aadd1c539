use Rattle.demo_source.proofs.Common.{next_state, drawn}
use Rattle.demo_source.proofs.draws.Draws.draw.Goals as goal

pub returns-clause-value : goal.returns-clause-value
unfolding next_state drawn
returns-clause-value c = cc

pub returns-clause-moved : goal.returns-clause-moved
unfolding next_state
returns-clause-moved c = cc
