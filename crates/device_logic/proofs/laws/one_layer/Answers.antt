use Rattle.device_logic.proofs.OneLayer.{layer_determined}
use Rattle.device_logic.proofs.laws.one_layer.Goals as goal

pub returns : goal.returns
returns c t fuses layer = layer_determined t fuses layer
