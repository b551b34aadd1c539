use Rattle.std.proofs.Common.{sym, ◌∙◌}
use Rattle.fitter.proofs.Common.{err_from_is_err_and}
use Rattle.fitter.proofs.Widths.{at_fails, at_none, at_some, can_cover_cell}
use Rattle.fitter.proofs.cell_covering.cover_at.Goals as goal

pub returns-in_default : goal.returns-in_default
returns-in_default g c = at_none g.D.Device.table c.args.fit.now.over.turned c.args.fit.now.over.net.now c.cell_wanted.result _ c.cell_wanted.ensures c.in_default.is

pub cover_cell-requires-clause-can : goal.cover_cell-requires-clause-can
cover_cell-requires-clause-can g c =
    can_cover_cell g.D.Device.table c.args.fit.now.over.net.now c.requires.sound c.args.cell c.in-Some.wanted (sym c.cell_wanted.ensures ∙ c.in-Some.is)

pub returns-in_err-covers : goal.returns-in_err-covers
returns-in_err-covers g c =
    at_fails g.D.Device.table c.args.fit.now.over.turned c.args.fit.now.over.net.now c.args.cell c.cell_wanted.result c.in-Some.wanted c.from_residual.result _
    (err_from_is_err_and c.from_residual.result c.from_residual.ensures.1) c.cell_wanted.ensures c.in-Some.is c.in_err-covers.ensures

pub returns : goal.returns
returns g c =
    at_some g.D.Device.table c.args.fit.now.over.turned c.args.fit.now.over.net.now c.cell_wanted.result _ c.in-Some.wanted c.in_ok-covers.covers c.cell_wanted.ensures c.in-Some.is c.in_ok-covers.ensures
