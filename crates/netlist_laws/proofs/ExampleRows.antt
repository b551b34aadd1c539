-- The example's module has the netlist of which the example's fuses are.
use Rattle.std.proofs.Common.{◌≡◌, refl, arith}
use Rattle.netlist_laws.proofs.Common.{sample, sample_sound, ExampleFits, example, example_fuses, netlist_of}
use Rattle.bit_expr.specs.Folding as folding
use Rattle.netlist_laws.specs.PrimeExample.{ExampleHasPrimeRows, example_module}
use Rattle.netlist_laws.proofs.PrimeRows.{rows_are_prime}

its_netlist : example ≡ netlist_of sample example_module
unfolding folding.make_or folding.make_and
its_netlist = refl

pub example_rows : ExampleFits → ExampleHasPrimeRows
example_rows fits = rows_are_prime sample example_module example example_fuses sample_sound its_netlist fits.0 fits.1 0 (omega arith) (1, refl)
