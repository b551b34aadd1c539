use Rattle.std.proofs.lemmas.Slice.Eq.{slice_eq-Decides}
use Rattle.vector_report.proofs.SameVectors.{vector_decides}
use Rattle.vector_report.proofs.saying.has_vectors.Goals as goal

pub returns : goal.returns
returns c = (slice_eq-Decides vector_decides _ _ _ c.eq.ensures).0
