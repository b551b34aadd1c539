-- The devices are those of the pair.
use Rattle.devices.specs.Models.{model_sound, table_at}
use Rattle.pair_commands.proofs.compare_command.compare_ending.Given as goal

abbrev pub ghosts-ending_for-F-Device : goal.ghosts-ending_for-F-Device
ghosts-ending_for-F-Device a = record { table = table_at a.pair.from; sound = model_sound a.pair.from }

abbrev pub ghosts-ending_for-T-Device : goal.ghosts-ending_for-T-Device
ghosts-ending_for-T-Device a = record { table = table_at a.pair.to; sound = model_sound a.pair.to }
