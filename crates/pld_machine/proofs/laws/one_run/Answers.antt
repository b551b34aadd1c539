use Rattle.pld_machine.proofs.OneRun.{is_determined}
use Rattle.pld_machine.proofs.laws.one_run.Goals as goal

pub returns : goal.returns
returns c m ordered = is_determined m ordered
