use Rattle.netlist_laws.proofs.ExampleFits.{sound_and_fits}
use Rattle.netlist_laws.proofs.fitted_laws.example_fits.Goals as goal

pub returns : goal.returns
returns c = sound_and_fits
