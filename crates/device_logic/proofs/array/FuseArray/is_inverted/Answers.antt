use Rattle.device_logic.proofs.Ranges.{inverted_in}
use Rattle.device_logic.proofs.array.FuseArray.is_inverted.Goals as goal

pub says-requires : goal.says-requires
says-requires g c = rw c.inverted_at.ensures (inverted_in g.D.Device.table g.D.Device.sound c.args.cell)
