-- The first of the cells so far.
use Rattle.std.proofs.Common.{take}
use Rattle.design.proofs.Common.{arena, IsFirstFound}
use Rattle.design.proofs.chains.first_path.Given as goal

abbrev pub invariant-loop-wanted : goal.invariant-loop-wanted
invariant-loop-wanted l = IsFirstFound (arena l.exprs) l.signals l.links (take l.wanted-index l.cells) l.first
