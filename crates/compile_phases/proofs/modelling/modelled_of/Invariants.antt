-- The names are those for the device of this name.
use Rattle.devices.specs.DeviceLaws.{table_sound}
use Rattle.devices.specs.Devices.{table_of}
use Rattle.compile_phases.proofs.modelling.modelled_of.Given as goal

abbrev pub ghosts-names_for : goal.ghosts-names_for
ghosts-names_for a = record { table = table_of a.name; sound = table_sound a.name }
