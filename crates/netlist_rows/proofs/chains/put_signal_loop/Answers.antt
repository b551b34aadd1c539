use Rattle.std.proofs.Common.{sym, subst}
use Rattle.netlist_rows.proofs.Common.{AreLeaves}
use Rattle.netlist_rows.proofs.LinkLeaves.{are_leaves}
use Rattle.netlist_rows.proofs.chains.put_signal_loop.Goals as goal

pub signal_loop-requires-clause-leaves : goal.signal_loop-requires-clause-leaves
signal_loop-requires-clause-leaves c = subst AreLeaves (sym c.as_slice.ensures.value) (are_leaves c.in_ok-links.links.items c.in_ok-links.ensures.leaves)
