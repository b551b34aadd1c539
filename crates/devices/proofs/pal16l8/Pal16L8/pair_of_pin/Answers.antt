use Rattle.std.proofs.Common.{rules, arith}
use Rattle.pld_device.specs.Pins.{pair_pins}
use Rattle.devices.specs.Pal16L8Table.{pal16l8}
use Rattle.devices.proofs.PinLists.{found_at, not_found}
use Rattle.devices.proofs.pal16l8.Pal16L8.pair_of_pin.Goals as goal

pub returns-in-1-clause-none : goal.returns-in-1-clause-none
returns-in-1-clause-none c = found_at (pair_pins pal16l8) _ _ (search rules)

pub returns-in-2-clause-none : goal.returns-in-2-clause-none
returns-in-2-clause-none c = found_at (pair_pins pal16l8) _ _ (search rules)

pub returns-in-11-clause-none : goal.returns-in-11-clause-none
returns-in-11-clause-none c = found_at (pair_pins pal16l8) _ _ (search rules)

pub returns-in-3-to-9-clause-none : goal.returns-in-3-to-9-clause-none
returns-in-3-to-9-clause-none c = found_at (pair_pins pal16l8) _ _ (search rules)

pub returns-in-13-to-18-clause-none : goal.returns-in-13-to-18-clause-none
returns-in-13-to-18-clause-none c = found_at (pair_pins pal16l8) _ _ (search rules)

pub returns-in_default-clause-none : goal.returns-in_default-clause-none
returns-in_default-clause-none c = not_found (pair_pins pal16l8) _ (grind arith)

pub returns-in_default-2-clause-none : goal.returns-in_default-2-clause-none
returns-in_default-2-clause-none c = not_found (pair_pins pal16l8) _ (grind arith)

pub returns-in_default-3-clause-none : goal.returns-in_default-3-clause-none
returns-in_default-3-clause-none c = not_found (pair_pins pal16l8) _ (grind arith)
