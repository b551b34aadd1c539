-- One cell more hasn't the row.
use Rattle.std.proofs.Common.{◌≡◌, subst, sym, arith, inl, inr}
use Rattle.std.proofs.lemmas.Bool.{cases_lt}
use Rattle.design_drawings.specs.CellRows.{IsRowOf}
use Rattle.design_drawings.proofs.rows.cell_of_row.Goals as goal

pub loop-cell-preserved : goal.loop-cell-preserved
loop-cell-preserved g c d low =
    elim (cases_lt d c.loop-cell.cell) [
      | inl less ↦ c.loop-cell.invariant d less
      | inr more ↦
          let same : c.loop-cell.cell ≡ d = omega (arith, low, more) in
          subst (λ n. IsRowOf g.D.Device.table n c.args.row → ⊥) same (c.is_row_of.ensures.no c.if-is_row_of.false)
    ]

pub returns-clause-found : goal.returns-clause-found
returns-clause-found g c d low = c.loop-cell.invariant d (omega (arith, low, c.loop-cell-test.false, c.cells-cell-end.ensures))
