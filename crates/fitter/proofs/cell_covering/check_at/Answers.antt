use Rattle.std.proofs.Common.{sym, ◌∙◌}
use Rattle.fitter.proofs.Common.{err_from_is_err_and}
use Rattle.fitter.proofs.Widths.{can_cover_cell, check_fails, check_none, check_some}
use Rattle.fitter.proofs.cell_covering.check_at.Goals as goal

pub returns-in_default : goal.returns-in_default
returns-in_default g c = check_none g.D.Device.table c.args.fit.now.over.turned c.args.fit.now.over.net.now c.cell_wanted.result _ c.cell_wanted.ensures c.in_default.is

pub check_cell-requires-clause-can : goal.check_cell-requires-clause-can
check_cell-requires-clause-can g c =
    can_cover_cell g.D.Device.table c.args.fit.now.over.net.now c.requires.sound c.args.cell c.in-Some.wanted (sym c.cell_wanted.ensures ∙ c.in-Some.is)

pub returns-in_err-covers : goal.returns-in_err-covers
returns-in_err-covers g c =
    check_fails g.D.Device.table c.args.fit.now.over.turned c.args.fit.now.over.net.now c.args.cell c.cell_wanted.result c.in-Some.wanted c.from_residual.result _
    (err_from_is_err_and c.from_residual.result c.from_residual.ensures.1) c.cell_wanted.ensures c.in-Some.is c.in_err-covers.ensures

pub returns : goal.returns
returns g c =
    check_some g.D.Device.table c.args.fit.now.over.turned c.args.fit.now.over.net.now c.cell_wanted.result _ c.in-Some.wanted c.in_ok-covers.covers c.cell_wanted.ensures c.in-Some.is c.in_ok-covers.ensures
