use Rattle.std.proofs.Common.{refl, sym, ◌∙◌, subst, arith}
use Rattle.fitter.proofs.Common.{IsFirstBelow}
use Rattle.fitter.proofs.Widths.{cell_low}
use Rattle.fitter.proofs.WidthOrder.{first_begins, first_ends}
use Rattle.fitter.proofs.widest.first_wide.Goals as goal

pub loop-later-init : goal.loop-later-init
loop-later-init g c =
    first_begins g.D.Device.table c.args.fit.now.over.net.now c.requires.sound c.args.cell c.in-Some.wanted c.requires.wide (sym c.cell_wanted.ensures ∙ c.in-Some.is)

pub returns : goal.returns
returns g c =
    let cell = cell_low g.D.Device.table c.args.fit.now.over.net.now c.requires.sound c.args.cell c.requires.wide.at.cell c.requires.wide.at.wanted in
    first_ends g.D.Device.table c.args.fit.now.over.net.now c.requires.sound c.loop-later.first
    (subst (λ n. IsFirstBelow g.D.Device.table c.args.fit.now.over.net.now n c.loop-later.first)
    (omega (arith, cell, c.loop-later-test.false, c.cells-later-end.ensures, c.loop-later.auto.later, c.loop-later.auto.later-end)) c.loop-later.invariant)
