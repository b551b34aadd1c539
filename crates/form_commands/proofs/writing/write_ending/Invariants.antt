-- The device is that of the model.
use Rattle.devices.specs.Models.{model_sound, table_at}
use Rattle.form_commands.proofs.writing.write_ending.Given as goal

abbrev pub ghosts-ending_for : goal.ghosts-ending_for
ghosts-ending_for a = record { table = table_at a.model; sound = model_sound a.model }
