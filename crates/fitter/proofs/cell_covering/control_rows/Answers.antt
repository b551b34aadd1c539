use Rattle.fitter.proofs.Widths.{can_cover_control, none_of_cover, rows_of_cover}
use Rattle.fitter.proofs.cell_covering.control_rows.Goals as goal

pub control_cover-requires : goal.control_cover-requires
control_cover-requires g c =
    can_cover_control g.D.Device.table g.D.Device.sound c.args.fit.now.over.net.now c.requires.sound c.args.bit c.args.fit.now.over.vars c.args.fit.now.pairs c.requires.id

pub returns-in-Some : goal.returns-in-Some
returns-in-Some g c =
    rows_of_cover g.D.Device.table c.args.fit.now.over.turned c.args.fit.now.over.net.now c.args.bit c.args.fit.now.over.vars c.args.fit.now.pairs c.in_ok-found.found c.in-Some.rows c.in_ok-found.ensures c.in-Some.is

pub returns-in-None : goal.returns-in-None
returns-in-None g c = none_of_cover c.args.fit.now.over.turned c.args.fit.now.over.net.now c.args.bit c.args.fit.now.over.vars c.in_ok-found.found c.in_ok-found.ensures c.in-None.is
