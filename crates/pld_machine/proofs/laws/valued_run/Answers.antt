use Rattle.pld_machine.proofs.Compared.{does_the_same}
use Rattle.pld_machine.proofs.OtherSource.{other_source}
use Rattle.pld_machine.proofs.WithoutNodes.{plain_runs}
use Rattle.pld_machine.proofs.laws.valued_run.Goals as goal

pub returns-clause-same : goal.returns-clause-same
returns-clause-same c d s values refines rests runs = does_the_same d s values refines rests runs

pub returns-clause-plain : goal.returns-clause-plain
returns-clause-plain c d s values same d_plain s_plain = plain_runs d s values same d_plain s_plain

pub returns-clause-other : goal.returns-clause-other
returns-clause-other c d s r values others down up agree same = other_source s r down up values others agree d same
