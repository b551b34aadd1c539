use Rattle.netlist_laws.proofs.ExampleRows.{example_rows}
use Rattle.netlist_laws.proofs.prime_laws.example_rows_are_prime.Goals as goal

pub returns : goal.returns
returns c = example_rows c.example_fits.ensures
