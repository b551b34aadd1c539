use Rattle.std.proofs.Common.{map, ap, ◌∙◌}
use Rattle.placer.proofs.Common.{IfOk-weaker, view_declared, view_given, pin_given, spans_for}
use Rattle.placer.proofs.pins.PlacedPins.spans_for.Goals as goal

pub returns : goal.returns
returns c =
    IfOk-weaker c.spans_of.result _ _
    (λ l is. is ∙ ap (spans_for (pin_given (map view_declared c.args.names.now) c.args.self.now)) (ap (map view_given) c.as_slice.ensures.value ∙ c.in_ok-given.ensures))
    c.spans_of.ensures
