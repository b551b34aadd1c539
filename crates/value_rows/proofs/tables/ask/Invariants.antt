-- The device of the tables.
use Rattle.devices.specs.Devices.{table_of}
use Rattle.devices.specs.DeviceLaws.{table_sound}
use Rattle.value_rows.proofs.tables.ask.Given as goal

abbrev pub ghosts-walked_for : goal.ghosts-walked_for
ghosts-walked_for a = record { table = table_of a.name; sound = table_sound a.name }
