use Rattle.device_sim.proofs.Compared as compared
use Rattle.device_sim.proofs.laws.vectors_disagree_alike.Goals as goal

pub returns : goal.returns
returns c = compared.vectors_disagree_alike
