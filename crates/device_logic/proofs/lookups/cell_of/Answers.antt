use Rattle.device_logic.proofs.Ranges.{cell_found, cell_law, cell_pin, cell_enable}
use Rattle.device_logic.proofs.lookups.cell_of.Goals as goal

pub returns-clause-found : goal.returns-clause-found
returns-clause-found g c = cell_found g.D.Device.table g.D.Device.sound c.args.index c.cell.result c.cell.ensures

pub returns-clause-pin : goal.returns-clause-pin
returns-clause-pin g c = cell_pin g.D.Device.table g.D.Device.sound c.cell.result (cell_law g.D.Device.table g.D.Device.sound c.args.index c.cell.result c.cell.ensures)

pub returns-clause-rows : goal.returns-clause-rows
returns-clause-rows g c = (cell_law g.D.Device.table g.D.Device.sound c.args.index c.cell.result c.cell.ensures).data_below

pub returns-clause-enable : goal.returns-clause-enable
returns-clause-enable g c = cell_enable g.D.Device.table g.D.Device.sound c.cell.result (cell_law g.D.Device.table g.D.Device.sound c.args.index c.cell.result c.cell.ensures)
