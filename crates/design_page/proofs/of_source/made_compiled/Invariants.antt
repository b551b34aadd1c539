-- The device is the one that the source was compiled for, in its mode.
use Rattle.devices.specs.Models.{model_sound, table_at}
use Rattle.design_page.proofs.of_source.made_compiled.Given as goal

abbrev pub ghosts-made_for : goal.ghosts-made_for
ghosts-made_for a = record { table = table_at a.compiled.now.device; sound = model_sound a.compiled.now.device }
