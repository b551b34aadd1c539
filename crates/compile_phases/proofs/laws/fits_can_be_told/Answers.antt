-- What is known of fitted netlists, put together.
use Rattle.compile_phases.proofs.Common.{plain_netlist}
use Rattle.netlist_laws.specs.ExchangedNets.{netlist_shown}
use Rattle.compile_phases.proofs.laws.fits_can_be_told.Goals as goal

pub returns : goal.returns
returns c = λ t m net fitted device is fits. record {
  intact = c.fitted_is_intact.ensures t (netlist_shown t fitted.fuses (plain_netlist net)) fitted.fuses fits.fits;
  cells = c.summary_counts_the_design.ensures t m (plain_netlist net) device is.netlist.plain;
}
