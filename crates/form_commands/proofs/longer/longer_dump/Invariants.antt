-- The device is that of the name.
use Rattle.devices.specs.DeviceLaws.{table_sound}
use Rattle.devices.specs.Devices.{table_of}
use Rattle.form_commands.proofs.longer.longer_dump.Given as goal

abbrev pub ghosts-repaired_as : goal.ghosts-repaired_as
ghosts-repaired_as a = record { table = table_of a.name; sound = table_sound a.name }
