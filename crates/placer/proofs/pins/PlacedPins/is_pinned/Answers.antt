use Rattle.std.proofs.Common.{map, ap, ◌∙◌, is_some}
use Rattle.placer.proofs.Common.{view_declared, node_given}
use Rattle.placer.proofs.pins.PlacedPins.is_pinned.Goals as goal

pub returns : goal.returns
returns c = λ known.
    c.is_some.ensures
    ∙ ap is_some (c.node_pin_of-pin.ensures known ∙ ap (node_given (map view_declared c.args.names.now) c.args.self.now) c.as_slice.ensures.value)
