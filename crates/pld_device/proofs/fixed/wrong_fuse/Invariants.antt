use Rattle.std.proofs.Common.{◌≡◌, drop}
use Rattle.pld_device.proofs.Common.{wrong_fixed}
use Rattle.pld_device.proofs.fixed.wrong_fuse.Given as goal

abbrev pub invariant-loop-index : goal.invariant-loop-index
invariant-loop-index g l = wrong_fixed l.fuses (drop l.index g.D.Device.table.fixed) ≡ wrong_fixed l.fuses g.D.Device.table.fixed
