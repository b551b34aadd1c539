use Rattle.netlist_laws.proofs.Chosen.{fitted_does_the_chosen}
use Rattle.netlist_laws.proofs.Running.{fitted_does_the_same}
use Rattle.netlist_laws.proofs.fitted_laws.fitted_runs.Goals as goal

pub returns-clause-same : goal.returns-clause-same
returns-clause-same c t net fuses laws sound fitted = fitted_does_the_same t net fuses laws sound fitted

pub returns-clause-chosen : goal.returns-clause-chosen
returns-clause-chosen c t net fuses laws sound fitted = fitted_does_the_chosen t net fuses laws sound fitted
