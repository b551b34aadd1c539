use Rattle.std.proofs.Common.{refl}
use Rattle.bit_expr.specs.Folding as folding
use Rattle.netlist_laws.proofs.gathered_laws.example_is_gathered.Goals as goal

pub returns : goal.returns
unfolding folding.make_or folding.make_and
returns c = refl
