use Rattle.sop_lowering.proofs.WrittenValues as values
use Rattle.sop_lowering.proofs.laws.written_values.Goals as goal

pub returns : goal.returns
returns c = values.written_values
