use Rattle.std.proofs.Common.{ap, sym, ◌∙◌}
use Rattle.device_logic.proofs.Common.{is_live}
use Rattle.device_logic.proofs.PairedRows.{dead_cube}
use Rattle.device_logic.proofs.pairing.cube_of.Goals as goal

pub returns-else-is_live : goal.returns-else-is_live
returns-else-is_live g c =
    dead_cube g.D.Device.table g.D.Device.sound c.args.fuses.now c.args.row
    (ap (λ fuses. is_live g.D.Device.table fuses c.args.row) (sym c.requires.same) ∙ (sym c.is_live.ensures.live ∙ c.if-is_live.false))
