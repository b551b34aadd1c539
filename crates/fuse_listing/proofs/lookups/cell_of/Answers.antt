use Rattle.fuse_listing.proofs.Ranges.{cell_found, cell_rows}
use Rattle.fuse_listing.proofs.lookups.cell_of.Goals as goal

pub returns-clause-found : goal.returns-clause-found
returns-clause-found g c = cell_found g.D.Device.table g.D.Device.sound c.args.index c.cell.result c.cell.ensures

pub returns-clause-rows : goal.returns-clause-rows
returns-clause-rows g c = cell_rows g.D.Device.table g.D.Device.sound c.args.index c.cell.result c.cell.ensures
