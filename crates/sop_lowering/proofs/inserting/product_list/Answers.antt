use Rattle.std.proofs.Common.{Some, sym, ◌∙◌}
use Rattle.sop_lowering.proofs.Common.{err_from_is_err_and, full_cube}
use Rattle.sop_lowering.proofs.ListStops.{stops, stop_products}
use Rattle.sop_lowering.proofs.inserting.product_list.Goals as goal

pub returns-in_err-insert_unions-clause-list : goal.returns-in_err-insert_unions-clause-list
returns-in_err-insert_unions-clause-list c =
    stops c.from_residual.result c.in_err-insert_unions.field-0.0 _ _ _ (err_from_is_err_and c.from_residual.result c.from_residual.ensures.1)
    (λ none. sym c.loop-cube.invariant.list ∙ stop_products (Some c.loop-cube.rows.items) c.args.first.now c.args.second.now c.loop-cube.cube-index full_cube c.loop-cube-test.true none) c.in_err-insert_unions.ensures.list
