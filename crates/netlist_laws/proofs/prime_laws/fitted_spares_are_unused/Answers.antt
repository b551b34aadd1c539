use Rattle.netlist_laws.proofs.ControlRows.{spares_are_unused}
use Rattle.netlist_laws.proofs.prime_laws.fitted_spares_are_unused.Goals as goal

pub returns : goal.returns
returns c = spares_are_unused
