-- The device is that of the model.
use Rattle.devices.specs.Models.{model_sound, table_at}
use Rattle.design_page.proofs.of_file.page_of_file.Given as goal

abbrev pub ghosts-made_for : goal.ghosts-made_for
ghosts-made_for a = record { table = table_at a.model; sound = model_sound a.model }
