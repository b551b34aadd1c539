use Rattle.bit_expr.proofs.FoldingValues.{value_if_added}
use Rattle.bit_expr.proofs.arena.Exprs.add.Goals as goal

pub returns-clause-value : goal.returns-clause-value
returns-clause-value c = value_if_added _ c.args.self.now c.fold.new.self c.fold.result c.args.node c.fold.ensures
