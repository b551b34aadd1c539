-- The function of a cell can be covered.
use Rattle.fitter.proofs.Widths.{can_cover}
use Rattle.design_page.proofs.costs.rows_in.Goals as goal

pub try_form-requires : goal.try_form-requires
try_form-requires g c =
    can_cover g.D.Device.table g.D.Device.sound c.args.fit.now.over.net.now c.requires.sound c.args.wanted.now.function c.args.fit.now.over.vars c.args.fit.now.pairs c.requires.can.one c.requires.can.any
