use Rattle.std.proofs.Common.{All}
use Rattle.netlist_rows.proofs.Common.{HasLeaf}
use Rattle.netlist_rows.proofs.links.links_of.Given as goal

abbrev pub invariant-loop-word : goal.invariant-loop-word
invariant-loop-word l = All HasLeaf l.links.items
