use Rattle.netlist_rows.proofs.Common.{view_module}
use Rattle.netlist_rows.proofs.runs.put_run.Given as goal

abbrev pub ghost-put_steps : goal.ghost-put_steps
ghost-put_steps a = view_module a.made.now.module
