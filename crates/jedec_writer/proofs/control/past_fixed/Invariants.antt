use Rattle.std.proofs.Common.{◌≡◌, drop, map, max}
use Rattle.jedec_writer.proofs.Common.{FuseBit, past}
use Rattle.jedec_writer.proofs.control.past_fixed.Given as goal

abbrev pub invariant-loop-index : goal.invariant-loop-index
invariant-loop-index g l =
    max l.end (past (map (λ (bit : FuseBit). bit.fuse) (drop l.index g.D.Device.table.fixed)))
    ≡ past (map (λ (bit : FuseBit). bit.fuse) g.D.Device.table.fixed)
