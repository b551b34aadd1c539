use Rattle.netlist_rows.proofs.Common.{view_module}
use Rattle.netlist_rows.proofs.fits.put_fit.Given as goal

abbrev pub ghost-runs_alike : goal.ghost-runs_alike
ghost-runs_alike g a = view_module a.made.now.module
