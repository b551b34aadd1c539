use Rattle.fuse_compare.proofs.Common.{device_lookups}
use Rattle.fuse_compare.proofs.Uncut.{no_free}
use Rattle.fuse_compare.proofs.knowing.free_pins.Goals as goal

pub loop-pin-init : goal.loop-pin-init
loop-pin-init g c = no_free (device_lookups g.D.Device.table c.args.logic.now.fuses c.args.logic.now.order)
