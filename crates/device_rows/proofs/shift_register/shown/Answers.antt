use Rattle.device_rows.proofs.ShifterOrdered.{shifter_ordered}
use Rattle.device_rows.proofs.shift_register.shown.Goals as goal

pub trace-requires : goal.trace-requires
trace-requires c = shifter_ordered.has_pins
