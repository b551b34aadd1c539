use Rattle.std.proofs.Common.{Some, sym, ◌∙◌}
use Rattle.sop_lowering.proofs.Common.{err_from_is_err_and, full_cube}
use Rattle.sop_lowering.proofs.ListStops.{stops, stop_all}
use Rattle.sop_lowering.proofs.inserting.sum_list.Goals as goal

pub returns-in_err-insert-clause-list : goal.returns-in_err-insert-clause-list
returns-in_err-insert-clause-list c =
    stops c.from_residual.result c.in_err-insert.field-0.0 _ _ _ (err_from_is_err_and c.from_residual.result c.from_residual.ensures.1)
    (λ none. sym c.loop-cube.invariant.list ∙ stop_all (Some c.loop-cube.rows.items) c.args.second.now c.loop-cube.cube-index full_cube c.loop-cube-test.true none) c.in_err-insert.ensures.list
