use Rattle.netlist_laws.proofs.FittedReads.{has_no_loop}
use Rattle.netlist_laws.proofs.file_laws.fitted_has_no_loop.Goals as goal

pub returns : goal.returns
returns c = has_no_loop
