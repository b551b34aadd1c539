-- The signals at the places that are kept.
use Rattle.placer.proofs.placing.refusal.Goals as goal

pub returns : goal.returns
returns c = λ wishes is. (c.args.members.now, (is, c.in_ok-numbers.ensures))
