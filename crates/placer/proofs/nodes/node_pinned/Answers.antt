use Rattle.std.proofs.Common.{false, [], ◌∷◌, List, ap, ap₂, ◌∙◌}
use Rattle.placer.proofs.Common.{Item, Span, Word, SomePins, item_at, span_at}
use Rattle.placer.proofs.nodes.node_pinned.Goals as goal

pub returns : goal.returns
returns c =
    let place = c.args.node.now.place in
    let names = c.in_ok-names.ensures ∙ ap (λ i. i ∷ []) (c.in_ok-name.ensures ∙ ap (λ n. item_at place n false) c.as_slice.ensures.value) in
    let numbers = c.in_ok-numbers.ensures ∙ ap (λ s. s ∷ []) c.span_at-number.ensures in
    let said = c.in_ok-said.ensures ∙ ap (λ text. record { text = text; place = place }) c.register_string.ensures in
    ap₂ (λ (ns : List Item) (ss : List Span). SomePins ns ss c.in_ok-attributes.attributes) names numbers
    ∙ ap (λ (ws : List Word). SomePins (item_at place c.args.node.now.name.items false ∷ []) (span_at place c.args.pin ∷ []) ws) (c.in_ok-attributes.ensures ∙ ap (λ (x : Word). x ∷ []) said)
