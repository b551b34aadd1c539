use Rattle.device_logic.proofs.Ranges.{registered_in}
use Rattle.device_logic.proofs.array.FuseArray.stores.Goals as goal

pub says-requires : goal.says-requires
says-requires g c = rw c.registered_at.ensures (registered_in g.D.Device.table g.D.Device.sound c.args.cell)
