use Rattle.std.proofs.Common.{sym, arith}
use Rattle.pld_device.specs.Laws.{Switches}
use Rattle.fuse_porting.proofs.porting.is_switched_on.Goals as goal

pub bounds-fuses-from : goal.bounds-fuses-from
bounds-fuses-from g c = omega (arith, (g.F.Device.sound.control (Switches c.args.row) c.in-Some.fuse (sym c.in-Some.ensures)).below)
