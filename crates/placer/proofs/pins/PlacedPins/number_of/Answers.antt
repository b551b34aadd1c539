use Rattle.std.proofs.Common.{map, ap, ◌∙◌, unwrap_or}
use Rattle.placer.proofs.Common.{view_declared, pin_given}
use Rattle.placer.proofs.pins.PlacedPins.number_of.Goals as goal

pub returns : goal.returns
returns c =
    c.unwrap_or.ensures
    ∙ ap (λ o. unwrap_or o 0) (c.pin_of-pin.ensures ∙ ap (pin_given (map view_declared c.args.names.now) c.args.self.now) c.as_slice.ensures.value)
