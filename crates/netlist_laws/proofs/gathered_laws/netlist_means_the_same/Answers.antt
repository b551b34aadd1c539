use Rattle.netlist_laws.proofs.Meaning.{gathered_means_the_same}
use Rattle.netlist_laws.proofs.gathered_laws.netlist_means_the_same.Goals as goal

pub returns : goal.returns
returns c = gathered_means_the_same
