use Rattle.placer.proofs.FittingPins.{no_wrong_kind, has_path, pins_fit}
use Rattle.placer.proofs.laws.fitting_pins_are_followed.Goals as goal

pub returns-clause-pins : goal.returns-clause-pins
returns-clause-pins c = pins_fit

pub returns-clause-kinds : goal.returns-clause-kinds
returns-clause-kinds c = no_wrong_kind

pub returns-clause-paths : goal.returns-clause-paths
returns-clause-paths c = has_path
