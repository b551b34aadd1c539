use Rattle.netlist_laws.proofs.Refining.{fitted_refines}
use Rattle.netlist_laws.proofs.fitted_laws.fitted_values.Goals as goal

pub returns : goal.returns
returns c = fitted_refines
