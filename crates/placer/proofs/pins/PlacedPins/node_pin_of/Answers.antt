-- What the signal is, the name is.
use Rattle.std.proofs.Common.{◌≡◌, ◌<◌, None, Some, length, map, refl, get_or, sym, ◌∙◌, subst, position, All}
use Rattle.placer.proofs.Common.{length-map, view_declared, no_name, is_node}
use Rattle.placer.proofs.Pinned.{is_name, no_node_pin, node_at_place}
use Rattle.placer.proofs.pins.PlacedPins.node_pin_of.Goals as goal

pub node_pin_at-requires-clause-inside : goal.node_pin_at-requires-clause-inside
node_pin_at-requires-clause-inside c = subst (λ ss. c.in-Some.place < length ss) c.as_slice.ensures.value c.in-Some.ensures.within

pub returns-in-Some : goal.returns-in-Some
returns-in-Some c = λ known.
    let es = map view_declared c.args.names.now in
    let ss = c.args.self.now.signals.items in
    let ps = c.args.self.now.pins.items in
    let found = subst (λ xs. Some c.in-Some.place ≡ position (is_name es c.args.name.now) xs) c.as_slice.ensures.value c.in-Some.ensures.found in
    let inside = subst (λ n. All (λ s. s < n) ss) (sym (length-map c.args.names.now view_declared)) c.requires.inside in
    c.node_pin_at.ensures
    ∙ node_at_place es c.args.name.now known ss ps inside c.requires.each c.in-Some.place (sym found) (is_node (get_or es (get_or ss c.in-Some.place 0) no_name).kind) refl

pub returns-in-None : goal.returns-in-None
returns-in-None c = λ known.
    let es = map view_declared c.args.names.now in
    no_node_pin es c.args.name.now c.args.self.now.signals.items c.args.self.now.pins.items c.requires.each
    (sym (subst (λ xs. None ≡ position (is_name es c.args.name.now) xs) c.as_slice.ensures.value c.in-None.ensures.found))
