use Rattle.std.proofs.Common.{refl}
use Rattle.devices.proofs.gal22v10_laws.both_kinds.Goals as goal

pub returns-clause-shows : goal.returns-clause-shows
returns-clause-shows c = refl

pub returns-clause-resets : goal.returns-clause-resets
returns-clause-resets c = refl

pub returns-clause-presets : goal.returns-clause-presets
returns-clause-presets c = refl
