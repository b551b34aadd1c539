-- The device is in the mode that the module asks for.
use Rattle.devices.specs.Models.{model_sound, table_at}
use Rattle.abel_compile.proofs.compiling.compile.Given as goal

abbrev pub ghosts-compile_for : goal.ghosts-compile_for
ghosts-compile_for a = record { table = table_at a.model; sound = model_sound a.model }
