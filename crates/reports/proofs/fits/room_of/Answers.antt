use Rattle.std.proofs.Common.{◌∙◌}
use Rattle.reports.proofs.NamedCells.{room_at}
use Rattle.reports.proofs.fits.room_of.Goals as goal

pub returns : goal.returns
returns g c = c.from.ensures ∙ room_at g.D.Device.table c.args.cell c.cell.result c.cell.ensures
