use Rattle.device_logic.proofs.Common.{IsMask}
use Rattle.device_logic.proofs.Walked.{EachBelow}
use Rattle.device_logic.proofs.masking.row_masks.Given as goal

abbrev pub invariant-loop-row : goal.invariant-loop-row
invariant-loop-row g l = EachBelow (IsMask g.D.Device.table l.fuses) l.row l.masks.items
