use Rattle.netlist_rows.proofs.runs.put_steps.Given as goal

abbrev pub ghost-new : goal.ghost-new
ghost-new g a = g.source
