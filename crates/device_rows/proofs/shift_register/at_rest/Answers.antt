use Rattle.device_rows.proofs.ShifterOrdered.{shifter_ordered}
use Rattle.device_rows.proofs.shift_register.at_rest.Goals as goal

pub rest-requires : goal.rest-requires
rest-requires c = shifter_ordered
