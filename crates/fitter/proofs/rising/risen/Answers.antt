use Rattle.std.proofs.Common.{rules}
use Rattle.fitter.proofs.Common.{IsNonDecreasingBy-from_sort_by_key, row_number}
use Rattle.fitter.proofs.rising.risen.Goals as goal

pub returns-clause-rise : goal.returns-clause-rise
returns-clause-rise g c = IsNonDecreasingBy-from_sort_by_key (row_number g.D.Device.table.columns) _ c.sort_unstable_by_key.ensures.sorted (λ a r q k. search rules)
