use Rattle.devices.specs.DeviceLaws.{table_sound}
use Rattle.devices.specs.Devices.{table_of}
use Rattle.devices.proofs.device_laws.chosen.Given as goal

abbrev pub ghosts-name_for : goal.ghosts-name_for
ghosts-name_for a = record { table = table_of a.name; sound = table_sound a.name }
