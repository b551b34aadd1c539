-- The device is that of the name.
use Rattle.devices.specs.DeviceLaws.{table_sound}
use Rattle.devices.specs.Devices.{table_of}
use Rattle.fuse_forms.proofs.forms.short_file.Given as goal

abbrev pub ghosts-written_for : goal.ghosts-written_for
ghosts-written_for a = record { table = table_of a.name; sound = table_sound a.name }
