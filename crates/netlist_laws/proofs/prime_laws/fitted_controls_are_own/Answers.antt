use Rattle.netlist_laws.proofs.ControlRows.{controls_are_own}
use Rattle.netlist_laws.proofs.prime_laws.fitted_controls_are_own.Goals as goal

pub returns : goal.returns
returns c = controls_are_own
