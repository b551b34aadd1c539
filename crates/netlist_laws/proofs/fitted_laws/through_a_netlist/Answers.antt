use Rattle.netlist_laws.proofs.Chosen.{fitted_does_what_it_says}
use Rattle.netlist_laws.proofs.fitted_laws.through_a_netlist.Goals as goal

pub returns : goal.returns
returns c = fitted_does_what_it_says
