use Rattle.netlist_laws.proofs.PrimeRows.{rows_are_prime}
use Rattle.netlist_laws.proofs.prime_laws.fitted_rows_are_prime.Goals as goal

pub returns : goal.returns
returns c = rows_are_prime
