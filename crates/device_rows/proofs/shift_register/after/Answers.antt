use Rattle.device_rows.proofs.ShifterOrdered.{shifter_ordered}
use Rattle.device_rows.proofs.shift_register.after.Goals as goal

pub step-requires : goal.step-requires
step-requires c = shifter_ordered
