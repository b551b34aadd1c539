use Rattle.fuse_compare.proofs.Common.{bits, device_lookups, AreKeptQs}
use Rattle.fuse_compare.proofs.knowing.kept_qs.Given as goal

abbrev pub invariant-loop-cell : goal.invariant-loop-cell
invariant-loop-cell g l = AreKeptQs (device_lookups g.D.Device.table l.logic.fuses l.logic.order) (bits 32 l.cells)
