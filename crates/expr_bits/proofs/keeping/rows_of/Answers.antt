-- One row more.
use Rattle.std.proofs.Common.{◌+◌, length, [], ◌∷◌, sym, ap, ◌∙◌, subst, arith, length-append}
use Rattle.expr_bits.proofs.Common.{entries_of, context_for, AreRows}
use Rattle.expr_bits.proofs.RowLaws.{IsRowOf, row_more}
use Rattle.expr_bits.proofs.keeping.rows_of.Goals as goal

pub loop-declared-preserved : goal.loop-declared-preserved
loop-declared-preserved g c =
    let n = c.args.scope.now in
    let es = entries_of n in
    let d = context_for g.D.Device.table n in
    let rows = c.loop-declared.rows.items in
    let row = c.in_ok-row.row in
    let here : IsRowOf es d (0 + length rows) row = subst (λ k. IsRowOf es d k row) (omega (arith, ap length c.as_slice.ensures.value)) c.in_ok-row.ensures in
    record {
      rows = subst (AreRows es d 0) (sym c.in_ok-push.ensures.items) (row_more es d 0 rows row c.loop-declared.invariant.rows here);
      count = ap length c.in_ok-push.ensures.items ∙ omega (arith, length-append rows (row ∷ []), c.loop-declared.invariant.count);
    }
