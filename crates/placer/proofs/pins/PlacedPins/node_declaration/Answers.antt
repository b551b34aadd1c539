-- By the node's pin.
use Rattle.std.proofs.Common.{◌≡◌, Option, None, Some, map, sym, ap, ◌∙◌, List, ℕ, Bool}
use Rattle.placer.proofs.Common.{IfOk-weaker, view_declared, view_given, node_given, node_pinned, dc_of}
use Rattle.placer.proofs.Items.{declared_alone, declared_pinned}
use Rattle.placer.proofs.pins.PlacedPins.node_declaration.Goals as goal

pub returns-in-Some : goal.returns-in-Some
returns-in-Some c =
    let es = map view_declared c.args.names.now in
    let pin = node_given es c.args.self.now in
    let x = view_given c.args.node.now in
    IfOk-weaker c.node_pinned.result _ _
    (λ d is known.
    is ∙ (ap (λ dc. node_pinned dc x c.in-Some.pin) (c.dc_of.ensures ∙ ap (dc_of es) c.as_slice-name.ensures.value)
    ∙ sym (declared_pinned pin (dc_of es) c.args.attributes.now x c.in-Some.pin (sym (c.in-Some.ensures known ∙ ap pin c.as_slice-name.ensures.value)))))
    c.node_pinned.ensures

pub returns-in-None : goal.returns-in-None
returns-in-None c =
    let es = map view_declared c.args.names.now in
    let pin = node_given es c.args.self.now in
    let x = view_given c.args.node.now in
    IfOk-weaker c.node_alone.result _ _
    (λ d is known. is ∙ sym (declared_alone pin (dc_of es) c.args.attributes.now x (sym (c.in-None.ensures known ∙ ap pin c.as_slice-name.ensures.value))))
    c.node_alone.ensures
