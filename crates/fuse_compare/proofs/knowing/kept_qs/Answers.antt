use Rattle.fuse_compare.proofs.Common.{device_lookups}
use Rattle.fuse_compare.proofs.Uncut.{no_kept}
use Rattle.fuse_compare.proofs.knowing.kept_qs.Goals as goal

pub returns-then-may_reset : goal.returns-then-may_reset
returns-then-may_reset g c = no_kept (device_lookups g.D.Device.table c.args.logic.now.fuses c.args.logic.now.order)

pub loop-cell-init : goal.loop-cell-init
loop-cell-init g c = no_kept (device_lookups g.D.Device.table c.args.logic.now.fuses c.args.logic.now.order)
