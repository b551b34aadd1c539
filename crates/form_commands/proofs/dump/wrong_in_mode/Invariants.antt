-- The device is that of the model.
use Rattle.devices.specs.Models.{model_sound, table_at}
use Rattle.form_commands.proofs.dump.wrong_in_mode.Given as goal

abbrev pub ghosts-wrong_fuse_at : goal.ghosts-wrong_fuse_at
ghosts-wrong_fuse_at a = record { table = table_at a.model; sound = model_sound a.model }
