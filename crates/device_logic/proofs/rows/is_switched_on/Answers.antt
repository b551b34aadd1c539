use Rattle.std.proofs.Common.{sym, arith}
use Rattle.device_logic.proofs.Common.{Switches}
use Rattle.device_logic.proofs.rows.is_switched_on.Goals as goal

pub bounds-fuses-from : goal.bounds-fuses-from
bounds-fuses-from g c = omega (arith, (g.D.Device.sound.control (Switches c.args.row) c.in-Some.fuse (sym c.in-Some.ensures)).below)
