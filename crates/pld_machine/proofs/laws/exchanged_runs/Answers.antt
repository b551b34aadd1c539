use Rattle.pld_machine.proofs.ExchangedRests as rests
use Rattle.pld_machine.proofs.ExchangedRuns as runs
use Rattle.pld_machine.proofs.laws.exchanged_runs.Goals as goal

pub returns-clause-rests : goal.returns-clause-rests
returns-clause-rests c x m outside stored at may wide = rests.exchanged_rests x m outside stored at may wide

pub returns-clause-steps : goal.returns-clause-steps
returns-clause-steps c x m before outside after may wide step = runs.exchanged_steps x m before outside after may wide step

pub returns-clause-runs : goal.returns-clause-runs
returns-clause-runs c x m stored outsides points may wide run = runs.exchanged_runs x m stored outsides points may wide run
