use Rattle.std.proofs.Common.{map, ap, ◌∙◌}
use Rattle.placer.proofs.Common.{IfOk-weaker, view_declared, view_given, node_given, node_declaration, dc_of}
use Rattle.placer.proofs.pins.PlacedPins.nodes.Goals as goal

pub returns : goal.returns
returns c =
    let es = map view_declared c.args.names.now in
    let f = node_declaration (node_given es c.args.self.now) (dc_of es) c.args.attributes.now in
    IfOk-weaker c.nodes_of.result _ _ (λ v is known. is known ∙ ap (map f) (ap (map view_given) c.as_slice.ensures.value ∙ c.in_ok-given.ensures)) c.nodes_of.ensures
