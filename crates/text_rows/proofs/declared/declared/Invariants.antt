-- The device that the module names.
use Rattle.devices.specs.Devices.{table_of}
use Rattle.devices.specs.DeviceLaws.{table_sound}
use Rattle.text_rows.proofs.declared.declared.Given as goal

abbrev pub ghosts-declared_for : goal.ghosts-declared_for
ghosts-declared_for a = record { table = table_of a.name; sound = table_sound a.name }
