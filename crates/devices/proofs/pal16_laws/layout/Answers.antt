use Rattle.devices.proofs.Pal16L8Layout.{cell_is}
use Rattle.devices.proofs.pal16_laws.layout.Goals as goal

pub returns : goal.returns
returns c cell within = cell_is cell within
