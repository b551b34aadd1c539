use Rattle.std.proofs.Common.{[], ◌∷◌, List, map, ap, ◌∙◌}
use Rattle.placer.proofs.Common.{IfOk-weaker, Item, SomeAttributes, view_decl}
use Rattle.placer.proofs.pins.PlacedPins.placed_attributes.Goals as goal

pub returns : goal.returns
returns c =
    IfOk-weaker c.alone.result _ _
    (λ v is known. ap (map view_decl) is ∙ ap (λ (xs : List Item). SomeAttributes xs c.args.attributes ∷ []) (c.in_ok-left.ensures known))
    c.alone.ensures
