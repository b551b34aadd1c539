-- The device is the one that the source was compiled for, in its mode.
use Rattle.devices.specs.Models.{model_sound, table_at}
use Rattle.abel_commands.proofs.demo.source_ending.Given as goal

abbrev pub ghosts-ending_for : goal.ghosts-ending_for
ghosts-ending_for a = record { table = table_at a.device; sound = model_sound a.device }
