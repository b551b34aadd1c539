use Rattle.std.proofs.Common.{sym, subst}
use Rattle.netlist_rows.proofs.Common.{AreLeaves}
use Rattle.netlist_rows.proofs.LinkLeaves.{are_leaves}
use Rattle.netlist_rows.proofs.chains.put_path.Goals as goal

pub path_to_register-requires-clause-leaves : goal.path_to_register-requires-clause-leaves
path_to_register-requires-clause-leaves c = subst AreLeaves (sym c.as_slice.ensures.value) (are_leaves c.in_ok-links.links.items c.in_ok-links.ensures.leaves)
