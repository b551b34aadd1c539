-- Vectors of which nothing is refused, and the first of two refusals.
use Rattle.std.proofs.Common.{subst, sym}
use Rattle.abel_vectors.proofs.Common.{sections_refused, AnswersVectors, all_vectors_refused}
use Rattle.abel_vectors.proofs.FoundLaws.{first_told, told_alone}
use Rattle.abel_vectors.proofs.joining.first_with.Goals as goal

pub returns-in-Ok : goal.returns-in-Ok
returns-in-Ok c = λ d h k. told_alone (sections_refused d) (all_vectors_refused d) c.args.section (subst (AnswersVectors d) c.in-Ok.is k).accepted h

pub returns-in_default-vector : goal.returns-in_default-vector
returns-in_default-vector c = λ d h k.
    first_told (sections_refused d) (all_vectors_refused d) c.args.section c.in-Err.vector c.first_of.result c.in_default.not-OutOfMemory c.in_default-vector.not-OutOfMemory (sym c.first_of.ensures) h (subst (AnswersVectors d) c.in-Err.is k)
