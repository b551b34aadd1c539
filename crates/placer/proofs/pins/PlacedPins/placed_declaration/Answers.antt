-- By its kind.
use Rattle.std.proofs.Common.{[], ◌∷◌, List, map, sym, ap, ap₂, ◌∙◌}
use Rattle.placer.proofs.Common.{IfOk-weaker, Decl, Item, Word, view_declared, SomeAttributes, view_decl, given_names, declaration_given, node_given, pin_given, node_declaration, unpinned_items, dc_of}
use Rattle.placer.proofs.Others.{other_decl}
use Rattle.placer.proofs.pins.PlacedPins.placed_declaration.Goals as goal

pub returns-in-Pins : goal.returns-in-Pins
returns-in-Pins c =
    let es = map view_declared c.args.names.now in
    IfOk-weaker c.placed_pins.result _ _
    (λ v is known. is ∙ ap (λ (d : Decl). declaration_given es c.args.self.now (view_decl d)) (sym c.in-Pins.is)) c.placed_pins.ensures

pub returns-in-Nodes : goal.returns-in-Nodes
returns-in-Nodes c =
    let es = map view_declared c.args.names.now in
    IfOk-weaker c.nodes.result _ _
    (λ v is known.
    is known
    ∙ (ap₂ (λ (xs : List Item) (ws : List Word). map (node_declaration (node_given es c.args.self.now) (dc_of es) ws) (given_names xs)) c.as_slice.ensures c.as_slice-in-Nodes.ensures
    ∙ ap (λ (d : Decl). declaration_given es c.args.self.now (view_decl d)) (sym c.in-Nodes.is)))
    c.nodes.ensures

pub returns-in-Attributes : goal.returns-in-Attributes
returns-in-Attributes c =
    let es = map view_declared c.args.names.now in
    IfOk-weaker c.placed_attributes.result _ _
    (λ v is known.
    is known
    ∙ (ap (λ (xs : List Item). SomeAttributes (unpinned_items (node_given es c.args.self.now) xs) c.in-Attributes.attributes ∷ []) c.as_slice-in-Attributes.ensures
    ∙ ap (λ (d : Decl). declaration_given es c.args.self.now (view_decl d)) (sym c.in-Attributes.is)))
    c.placed_attributes.ensures

pub returns-in_default : goal.returns-in_default
returns-in_default c =
    let es = map view_declared c.args.names.now in
    IfOk-weaker c.alone.result _ _
    (λ v is known. ap (map view_decl) is ∙ other_decl (pin_given es c.args.self.now) (node_given es c.args.self.now) (dc_of es) c.args.decl c.in_default.not-Pins c.in_default.not-Nodes c.in_default.not-Attributes) c.alone.ensures
