use Rattle.std.proofs.Common.{◌∙◌}
use Rattle.device_logic.proofs.Ranges.{reset_if_any}
use Rattle.device_logic.proofs.logic.DeviceLogicLogic.reset.Goals as goal

pub row_if_any-requires : goal.row_if_any-requires
row_if_any-requires g c = rw c.reset.ensures (reset_if_any g.D.Device.table g.D.Device.sound)
