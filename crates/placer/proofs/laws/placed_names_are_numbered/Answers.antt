use Rattle.placer.proofs.PlacedSignals.{followed}
use Rattle.placer.proofs.Promise.{promised}
use Rattle.placer.proofs.laws.placed_names_are_numbered.Goals as goal

pub returns-clause-names : goal.returns-clause-names
returns-clause-names c = promised

pub returns-clause-followed : goal.returns-clause-followed
returns-clause-followed c = followed
