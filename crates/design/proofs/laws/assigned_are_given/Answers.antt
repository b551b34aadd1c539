use Rattle.design.proofs.AssignedNames.{signal_there}
use Rattle.design.proofs.SoundModules.{data_there}
use Rattle.design.proofs.laws.assigned_are_given.Goals as goal

pub returns : goal.returns
returns c t m = record { signals = signal_there t m; data_given = data_there t m }
