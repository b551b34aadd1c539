use Rattle.netlist_laws.proofs.PastLines.{fitted_intact}
use Rattle.netlist_laws.proofs.file_laws.fitted_is_intact.Goals as goal

pub returns : goal.returns
returns c = fitted_intact
