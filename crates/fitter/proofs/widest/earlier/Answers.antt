use Rattle.std.proofs.Common.{Bool, Ok, ap, sym, ◌∙◌}
use Rattle.fitter.proofs.Widths.{can_cover_cell}
use Rattle.fitter.proofs.WidthOrder.{first_alone, first_fits, first_taken}
use Rattle.fitter.proofs.widest.earlier.Goals as goal

pub returns-in_default : goal.returns-in_default
returns-in_default g c = first_alone g.D.Device.table c.args.fit.now.over.net.now c.args.cell c.args.first c.requires.first (sym c.cell_wanted.ensures ∙ c.in_default.is)

pub is_wide-requires-clause-can : goal.is_wide-requires-clause-can
is_wide-requires-clause-can g c =
    can_cover_cell g.D.Device.table c.args.fit.now.over.net.now c.requires.sound c.args.cell c.in-Some.wanted (sym c.cell_wanted.ensures ∙ c.in-Some.is)

pub returns-then-wide : goal.returns-then-wide
returns-then-wide g c =
    first_taken g.D.Device.table c.args.fit.now.over.net.now c.requires.sound c.args.cell c.args.first c.in-Some.wanted c.requires.first (sym c.cell_wanted.ensures ∙ c.in-Some.is)
    (sym c.is_before.ensures ∙ c.if-not-is_before.false) (c.in_ok-wide.ensures.wide (ap (λ (b : Bool). Ok b) c.if-wide.true))

pub returns-else-wide : goal.returns-else-wide
returns-else-wide g c =
    first_fits g.D.Device.table c.args.fit.now.over.net.now c.args.cell c.args.first c.in-Some.wanted c.requires.first (sym c.cell_wanted.ensures ∙ c.in-Some.is)
    (c.in_ok-wide.ensures.fits (ap (λ (b : Bool). Ok b) c.if-wide.false))
