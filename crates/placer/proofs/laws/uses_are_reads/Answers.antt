use Rattle.placer.proofs.Reading.{of_sections}
use Rattle.placer.proofs.laws.uses_are_reads.Goals as goal

pub returns : goal.returns
returns c = λ d known signal found. of_sections d.context known signal d.sections found
