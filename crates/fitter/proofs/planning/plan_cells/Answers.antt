use Rattle.std.proofs.Common.{◌≡◌, Option, get_or, None, refl, ◌∙◌, subst, arith}
use Rattle.fitter.proofs.Common.{err_from_is_err_and, CellCovers, ArePlanned, AreRowsOf, RowsBelow}
use Rattle.fitter.proofs.CellPlans.{plans_stop, rows_more, rows_none}
use Rattle.fitter.proofs.FittingCovers.{each_fits_below}
use Rattle.fitter.proofs.Stops.{handed}
use Rattle.fitter.proofs.planning.plan_cells.Goals as goal

pub loop-cell-init : goal.loop-cell-init
loop-cell-init g c = record { rows = rw (c.new-plans.ensures.items, c.new-forms.ensures.items) (rows_none g.D.Device.table c.args.covers.items); long = c.requires; left = λ d low. refl }

pub taken-found-requires : goal.taken-found-requires
taken-found-requires g c = omega (arith, c.loop-cell-test.true, c.cells-cell-end.ensures, c.loop-cell.invariant.long)

pub rows_of-requires : goal.rows_of-requires
rows_of-requires g c = omega (arith, c.loop-cell-test.true, c.cells-cell-end.ensures)

pub loop-cell-preserved : goal.loop-cell-preserved
loop-cell-preserved g c =
    let t = g.D.Device.table in
    let same : c.taken-found.result ≡ get_or c.args.covers.items c.loop-cell.cell None = c.taken-found.ensures.value ∙ c.loop-cell.invariant.left c.loop-cell.cell (omega arith) in
    record {
      rows = rw (c.in_ok-push.ensures.items, c.in_ok-push-2.ensures.items)
          (rows_more t c.args.covers.items c.loop-cell.cell c.loop-cell.plans.items c.loop-cell.forms.items c.in_ok-rows.rows c.loop-cell.invariant.rows
          (subst (λ (o : Option CellCovers). AreRowsOf t c.loop-cell.cell o c.in_ok-rows.rows) same c.in_ok-rows.ensures));
      long = c.taken-found.ensures.long ∙ c.loop-cell.invariant.long;
      left = λ d low. c.taken-found.ensures.later d (omega (arith, low)) ∙ c.loop-cell.invariant.left d (omega (arith, low));
    }

pub returns-in_err-rows : goal.returns-in_err-rows
returns-in_err-rows g c =
    handed (ArePlanned g.D.Device.table c.args.covers.items) c.from_residual.result _ (err_from_is_err_and c.from_residual.result c.from_residual.ensures.1)
    (plans_stop g.D.Device.table c.args.covers.items c.loop-cell.cell c.taken-found.result _ (omega (arith, c.loop-cell-test.true, c.cells-cell-end.ensures))
    (c.taken-found.ensures.value ∙ c.loop-cell.invariant.left c.loop-cell.cell (omega arith))
    (each_fits_below g.D.Device.table c.args.covers.items c.loop-cell.cell c.loop-cell.plans.items c.loop-cell.forms.items c.loop-cell.invariant.rows) c.in_err-rows.ensures)

pub returns : goal.returns
returns g c =
    subst (λ n. RowsBelow g.D.Device.table c.args.covers.items n c.loop-cell.plans.items c.loop-cell.forms.items)
    (omega (arith, c.loop-cell-test.false, c.cells-cell-end.ensures, c.loop-cell.auto.cell-end)) c.loop-cell.invariant.rows
