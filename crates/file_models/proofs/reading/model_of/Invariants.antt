use Rattle.devices.specs.DeviceLaws.{table_sound}
use Rattle.devices.specs.Devices.{table_of}
use Rattle.file_models.proofs.reading.model_of.Given as goal

abbrev pub ghosts-model_for : goal.ghosts-model_for
ghosts-model_for a = record { table = table_of a.name; sound = table_sound a.name }
