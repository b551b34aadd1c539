-- Declarations alone change.
use Rattle.std.proofs.Common.{map, sym, ap, ◌∙◌}
use Rattle.placer.proofs.Common.{IfOk-weaker, Section, view_declared, view_section, node_given, pin_given, section_given, dc_of}
use Rattle.placer.proofs.Others.{other_section}
use Rattle.placer.proofs.pins.PlacedPins.placed_section.Goals as goal

pub returns-in-Declarations : goal.returns-in-Declarations
returns-in-Declarations c =
    let es = map view_declared c.args.names.now in
    IfOk-weaker c.placed_list.result _ _ (λ s is known. is known ∙ ap (λ (x : Section). section_given es c.args.self.now (view_section x)) (sym c.in-Declarations.is)) c.placed_list.ensures

pub returns-in_default : goal.returns-in_default
returns-in_default c = λ known.
    let es = map view_declared c.args.names.now in
    other_section (pin_given es c.args.self.now) (node_given es c.args.self.now) (dc_of es) c.args.section c.in_default.not-Declarations
