use Rattle.fitter.proofs.MissedPoints.{apart_first, apart_second}
use Rattle.fitter.proofs.apart.point_apart.Goals as goal

pub returns-in-Some-clause-answer : goal.returns-in-Some-clause-answer
returns-in-Some-clause-answer c = apart_first c.args.first.now c.args.second.now c.args.vars c.in-Some.point c.in-Some.ensures.answer

pub returns-clause-answer : goal.returns-clause-answer
returns-clause-answer c = apart_second c.args.first.now c.args.second.now c.args.vars c.point_missed-2.result c.in_default.ensures.answer c.point_missed-2.ensures.answer
