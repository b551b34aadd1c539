use Rattle.std.proofs.Common.{◌∙◌}
use Rattle.device_logic.proofs.Ranges.{preset_if_any}
use Rattle.device_logic.proofs.logic.DeviceLogicLogic.preset.Goals as goal

pub row_if_any-requires : goal.row_if_any-requires
row_if_any-requires g c = rw c.preset.ensures (preset_if_any g.D.Device.table g.D.Device.sound)
