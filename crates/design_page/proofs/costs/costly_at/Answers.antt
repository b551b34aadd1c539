-- An assigned cell can be covered.
use Rattle.std.proofs.Common.{sym, ◌∙◌}
use Rattle.fitter.proofs.Widths.{can_cover_cell}
use Rattle.design_page.proofs.costs.costly_at.Goals as goal

pub rows_in-requires-clause-can : goal.rows_in-requires-clause-can
rows_in-requires-clause-can g c =
    can_cover_cell g.D.Device.table c.args.fit.now.over.net.now c.requires.sound c.args.cell c.in-Some.wanted (sym c.cell_wanted.ensures ∙ c.in-Some.is)

pub rows_in-requires-2-clause-can : goal.rows_in-requires-2-clause-can
rows_in-requires-2-clause-can g c =
    can_cover_cell g.D.Device.table c.args.fit.now.over.net.now c.requires.sound c.args.cell c.in-Some.wanted (sym c.cell_wanted.ensures ∙ c.in-Some.is)
