use Rattle.std.proofs.Common.{Some, sym, ◌∙◌}
use Rattle.sop_lowering.proofs.Common.{err_from_is_err_and, full_cube}
use Rattle.sop_lowering.proofs.ListStops.{stops, stop_unions}
use Rattle.sop_lowering.proofs.inserting.insert_unions.Goals as goal

pub returns-in_err-insert-clause-list : goal.returns-in_err-insert-clause-list
returns-in_err-insert-clause-list c =
    stops c.from_residual.result c.in_err-insert.field-0.0 _ _ _ (err_from_is_err_and c.from_residual.result c.from_residual.ensures.1)
    (λ none. sym c.loop-other.invariant.list ∙ stop_unions (Some c.loop-other.rows.items) c.args.cube c.union.result c.args.list.now c.loop-other.other-index full_cube c.loop-other-test.true c.union.ensures.is none) c.in_err-insert.ensures.list
