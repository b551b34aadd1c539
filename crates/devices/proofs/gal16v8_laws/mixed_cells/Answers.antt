use Rattle.std.proofs.Common.{refl}
use Rattle.devices.proofs.gal16v8_laws.mixed_cells.Goals as goal

pub returns-clause-c : goal.returns-clause-c
returns-clause-c c = refl

pub returns-clause-r4 : goal.returns-clause-r4
returns-clause-r4 c = refl

pub returns-clause-r6 : goal.returns-clause-r6
returns-clause-r6 c = refl

pub returns-clause-r8 : goal.returns-clause-r8
returns-clause-r8 c = refl
