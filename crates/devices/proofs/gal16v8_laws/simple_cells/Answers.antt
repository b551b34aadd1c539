use Rattle.std.proofs.Common.{refl}
use Rattle.devices.proofs.gal16v8_laws.simple_cells.Goals as goal

pub returns : goal.returns
returns c = refl
