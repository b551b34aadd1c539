use Rattle.device_logic.proofs.OneRun.{device_determined}
use Rattle.device_logic.proofs.laws.no_loop.Goals as goal

pub returns : goal.returns
returns c t fuses laws no_loop none = device_determined t fuses laws no_loop none
