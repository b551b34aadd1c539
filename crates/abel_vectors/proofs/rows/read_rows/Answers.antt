-- One row more, and all.
use Rattle.std.proofs.Common.{◌+◌, ◌∷◌, drop, map, sym, ap, ◌∙◌, subst, refl, arith}
use Rattle.abel_vectors.proofs.Common.{at_drop_more, drop_all, view_vector_row, context_for, FindsRows}
use Rattle.abel_vectors.proofs.FoundLaws.{finds_none}
use Rattle.abel_vectors.proofs.RowLaws.{rows_behind}
use Rattle.abel_vectors.proofs.rows.read_rows.Goals as goal

pub loop-index-preserved : goal.loop-index-preserved
loop-index-preserved g c before e later others =
    let rows = c.as_slice-rows.result.now in
    let i = c.loop-index.index in
    let x = c.index-rows-index.result in
    c.loop-index.invariant before e later
    (rows_behind (context_for g.D.Device.table c.args.on.now.scope.now) c.args.header.now (i + before) (i + 1 + before) (view_vector_row x) (map view_vector_row (drop i rows)) (map view_vector_row (drop (i + 1) rows))
    c.refuse_room-full.result c.loop-index.found _ c.add.new.self later
    (at_drop_more (map view_vector_row) rows i x c.loop-index-test.true ∙ ap (λ y. view_vector_row y ∷ map view_vector_row (drop (i + 1) rows)) (sym c.index-rows-index.is))
    (omega arith) (c.refuse_room-full.ensures before e) c.earlier-found.ensures refl
    (c.in_ok-add.ensures g.D.Device.table _ _ c.in_ok-read.ensures) others)

pub returns : goal.returns
returns g c before e =
    let d = context_for g.D.Device.table c.args.on.now.scope.now in
    let rows = c.as_slice-rows.result.now in
    let found = c.loop-index.found in
    subst (λ xs. FindsRows d before c.args.header.now (map view_vector_row xs) c.args.found.now found) c.as_slice-rows.ensures
    (c.loop-index.invariant before e found
    (subst (λ xs. FindsRows d (c.loop-index.index + before) c.args.header.now (map view_vector_row xs) found found) (sym (drop_all c.loop-index.index rows (omega (arith, c.loop-index-test.false))))
    (finds_none g.D.Device.table found)))
