use Rattle.std.proofs.Common.{refl}
use Rattle.devices.proofs.gal22v10_laws.gal22v10_counters.Goals as goal

pub returns-clause-shows : goal.returns-clause-shows
returns-clause-shows c = refl

pub returns-clause-opened : goal.returns-clause-opened
returns-clause-opened c = refl
