use Rattle.std.proofs.Common.{rules}
use Rattle.pld_device.specs.Pins.{cell_pins}
use Rattle.devices.specs.Pal16L8Table.{pal16l8}
use Rattle.devices.proofs.PinLists.{found_at}
use Rattle.devices.proofs.pal16l8.Pal16L8.cell_of_pin.Goals as goal

pub returns-in-12-to-19-clause-none : goal.returns-in-12-to-19-clause-none
returns-in-12-to-19-clause-none c = found_at (cell_pins pal16l8) _ _ (search rules)
