use Rattle.std.proofs.Common.{refl, arith}
use Rattle.device_logic.proofs.MaskedPoints.{never_has}
use Rattle.device_logic.proofs.row_mask.RowMask.never.Goals as goal

pub returns : goal.returns
returns c = λ at is. rw (never_has at.pins (omega (arith, is.pins))) refl
