use Rattle.device_logic.proofs.Common.{holds}
use Rattle.device_logic.proofs.Walked.{PassesBelow}
use Rattle.device_logic.proofs.masking.live_mask.Given as goal

abbrev pub invariant-loop-pair : goal.invariant-loop-pair
invariant-loop-pair g l = PassesBelow g.D.Device.table l.fuses l.row l.pair (holds l.mask)
