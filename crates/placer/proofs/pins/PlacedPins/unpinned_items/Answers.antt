use Rattle.std.proofs.Common.{map, ap, ◌∙◌}
use Rattle.placer.proofs.Common.{IfOk-weaker, view_declared, view_given, items_left, node_given}
use Rattle.placer.proofs.pins.PlacedPins.unpinned_items.Goals as goal

pub returns : goal.returns
returns c =
    IfOk-weaker c.unpinned_of.result _ _
    (λ l is known. is known ∙ ap (items_left (node_given (map view_declared c.args.names.now) c.args.self.now)) (ap (map view_given) c.as_slice.ensures.value ∙ c.in_ok-given.ensures))
    c.unpinned_of.ensures
