use Rattle.fuse_compare.proofs.Common.{HasKnownQs}
use Rattle.fuse_compare.proofs.choosing.with_known_qs.Given as goal

abbrev pub invariant-loop-cell : goal.invariant-loop-cell
invariant-loop-cell g l = HasKnownQs g.D.Device.table l.a l.b l.cell l.vars.items
