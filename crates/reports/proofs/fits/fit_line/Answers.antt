use Rattle.std.proofs.Common.{Err, refl, subst}
use Rattle.fitter.specs.Answers.{FitAnswers}
use Rattle.fitter.specs.declared.fault.FitFault.{FitFault}
use Rattle.reports.proofs.NamedCells.{wanted_low}
use Rattle.reports.proofs.RefusedCells.{control_there, enable_there, first_there, second_own, second_there}
use Rattle.reports.proofs.fits.fit_line.Goals as goal

pub named_cell-one-requires : goal.named_cell-one-requires
named_cell-one-requires g c =
    let at = c.in-NotShared in
    first_there g.D.Device.table c.args.net.now at.which at.first at.second at.field-3
    (subst (λ (f : FitFault). FitAnswers g.D.Device.table c.args.net.now (Err f)) at.is c.requires.unfit).1

pub named_cell-other-requires : goal.named_cell-other-requires
named_cell-other-requires g c =
    let at = c.in-NotShared in
    second_there g.D.Device.table c.args.net.now at.which at.first at.second at.field-3
    (subst (λ (f : FitFault). FitAnswers g.D.Device.table c.args.net.now (Err f)) at.is c.requires.unfit).1

pub unshared_line-requires : goal.unshared_line-requires
unshared_line-requires g c =
    let at = c.in-NotShared in
    second_own g.D.Device.table c.args.net.now at.which at.first at.second at.field-3
    (subst (λ (f : FitFault). FitAnswers g.D.Device.table c.args.net.now (Err f)) at.is c.requires.unfit).1
    c.named_cell-other.result c.named_cell-other.ensures

pub shared_line-requires : goal.shared_line-requires
shared_line-requires g c =
    let refused = subst (λ (f : FitFault). FitAnswers g.D.Device.table c.args.net.now (Err f)) c.in-ResetTooWide.is c.requires.unfit in
    control_there g.D.Device.table c.args.net.now _ refused.2

pub shared_line-requires-in-PresetTooWide : goal.shared_line-requires-in-PresetTooWide
shared_line-requires-in-PresetTooWide g c =
    let refused = subst (λ (f : FitFault). FitAnswers g.D.Device.table c.args.net.now (Err f)) c.in-PresetTooWide.is c.requires.unfit in
    control_there g.D.Device.table c.args.net.now _ refused.2

pub enable_line-requires : goal.enable_line-requires
enable_line-requires g c =
    let refused = subst (λ (f : FitFault). FitAnswers g.D.Device.table c.args.net.now (Err f)) c.in-EnableTooWide.is c.requires.unfit in
    enable_there g.D.Device.table c.args.net.now c.in-EnableTooWide.cell refused.3 c.named_cell-enabled.result c.named_cell-enabled.ensures

pub room_line-requires : goal.room_line-requires
room_line-requires g c =
    wanted_low g.D.Device.table c.args.net.now c.requires.sound c.in-TooManyProducts.cell _ refl c.named_cell-full.result c.named_cell-full.ensures
