-- The name is one of those that are placed.
use Rattle.expr_bits.proofs.Common.{view_declared}
use Rattle.expr_bits.proofs.NamesBefore.{entry_at}
use Rattle.expr_bits.proofs.reading.signal_source.Goals as goal

pub returns-in-Some-clause-leaf : goal.returns-in-Some-clause-leaf
returns-in-Some-clause-leaf g c =
    let lookup = c.in-Some.ensures.lookup in
    c.source_of.ensures.leaf
    (c.are_placed.ensures c.args.signal (view_declared c.in-Some.declared.now)
    (entry_at c.args.scope.now c.list.result.now c.args.signal c.in-Some.declared.now c.list.ensures lookup.3.0 lookup.1))
