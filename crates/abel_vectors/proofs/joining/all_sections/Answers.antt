-- The sections are refused.
use Rattle.std.proofs.Common.{subst}
use Rattle.abel_vectors.proofs.Common.{AnswersSections, designed, AnswersVectors}
use Rattle.abel_tree.specs.declared.names.Names.{Names}
use Rattle.abel_vectors.proofs.joining.all_sections.Goals as goal

pub returns-in-Err-clause-answers : goal.returns-in-Err-clause-answers
returns-in-Err-clause-answers g c =
    let t = g.D.Device.table in
    let d = designed t c.args.scope.now c.args.source.now in
    c.first_with.ensures d (subst (AnswersSections d) c.in-Err.is c.contributions-given.ensures)
    (subst (λ (n : Names). AnswersVectors (designed t n c.args.source.now) c.all_vectors-tested.result) c.scope.ensures c.all_vectors-tested.ensures.answers)
