-- One refusal more.
use Rattle.abel_vectors.proofs.FoundLaws.{finds_first}
use Rattle.abel_vectors.proofs.finding.Found.refuse.Goals as goal

pub returns : goal.returns
returns c = λ t rs texts first. finds_first t rs texts c.args.fault c.args.self.now _ first c.earlier-self.ensures
