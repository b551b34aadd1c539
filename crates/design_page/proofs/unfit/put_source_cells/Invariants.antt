-- The device is the one that the source names, in the mode that it asks for.
use Rattle.devices.specs.Models.{model_sound, table_at}
use Rattle.design_page.proofs.unfit.put_source_cells.Given as goal

abbrev pub ghosts-put_cells : goal.ghosts-put_cells
ghosts-put_cells a = record { table = table_at a.model; sound = model_sound a.model }
