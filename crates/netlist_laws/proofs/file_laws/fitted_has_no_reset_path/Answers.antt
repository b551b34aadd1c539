use Rattle.netlist_laws.proofs.FittedReads.{has_no_reset_path}
use Rattle.netlist_laws.proofs.file_laws.fitted_has_no_reset_path.Goals as goal

pub returns : goal.returns
returns c = has_no_reset_path
