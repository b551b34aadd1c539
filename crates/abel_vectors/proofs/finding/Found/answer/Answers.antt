-- A refusal, and vectors of which nothing is refused.
use Rattle.std.proofs.Common.{sym, ◌∙◌}
use Rattle.abel_vectors.proofs.Common.{none_refused, section_order, told_of}
use Rattle.abel_vectors.proofs.finding.Found.answer.Goals as goal

pub returns-in-Some : goal.returns-in-Some
returns-in-Some c = λ t rs texts is. told_of rs c.in-Some.fault (sym is.fault ∙ c.in-Some.is)

pub returns-in-None : goal.returns-in-None
returns-in-None c = λ t rs texts is. record { accepted = none_refused section_order rs (sym c.in-None.is ∙ is.fault); chars = is.list c.in-None.is }
