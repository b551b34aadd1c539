use Rattle.device_logic.proofs.Ranges.{preset_if_any}
use Rattle.page_model.proofs.idle.is_idle.Goals as goal

pub is_live_if_any-is_preset-requires : goal.is_live_if_any-is_preset-requires
is_live_if_any-is_preset-requires g c = rw c.preset.ensures (preset_if_any g.D.Device.table g.D.Device.sound)
