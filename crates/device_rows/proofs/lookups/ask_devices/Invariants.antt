use Rattle.devices.specs.Models.{model_sound, table_at}
use Rattle.device_rows.proofs.lookups.ask_devices.Given as goal

abbrev pub ghosts-ask_model : goal.ghosts-ask_model
ghosts-ask_model a = record { table = table_at a.model; sound = model_sound a.model }
