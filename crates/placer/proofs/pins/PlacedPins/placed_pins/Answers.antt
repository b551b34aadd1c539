use Rattle.std.proofs.Common.{[], ◌∷◌, List, map, ap, ◌∙◌}
use Rattle.placer.proofs.Common.{IfOk-weaker, Item, view_declared, SomePins, view_decl, pin_given, numbers_for}
use Rattle.placer.proofs.pins.PlacedPins.placed_pins.Goals as goal

pub returns : goal.returns
returns c =
    let pin = pin_given (map view_declared c.args.names.now) c.args.self.now in
    IfOk-weaker c.alone.result _ _
    (λ v is.
    ap (map view_decl) is
    ∙ ap (λ ns. SomePins c.args.items ns c.args.attributes ∷ []) (c.in_ok-numbers.ensures ∙ ap (λ (xs : List Item). numbers_for pin xs c.args.numbers) c.as_slice.ensures))
    c.alone.ensures
