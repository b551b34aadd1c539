use Rattle.source_machine.proofs.OneValue.{refines, runs_of_module}
use Rattle.source_machine.proofs.SourceAs0.{gathered_as_0}
use Rattle.source_machine.proofs.laws.any_as_0.Goals as goal

pub returns-clause-refines : goal.returns-clause-refines
returns-clause-refines c = refines

pub returns-clause-runs : goal.returns-clause-runs
returns-clause-runs c = runs_of_module

pub returns-clause-module_as_0 : goal.returns-clause-module_as_0
returns-clause-module_as_0 c = gathered_as_0
