use Rattle.std.proofs.Common.{[], ◌∷◌, List, ap, ap₂, ◌∙◌}
use Rattle.placer.proofs.Common.{Item, Span, Word, SomeNodes, item_at}
use Rattle.placer.proofs.nodes.node_alone.Goals as goal

pub returns : goal.returns
returns c =
    ap₂ (λ (ns : List Item) (ss : List Span). SomeNodes ns ss c.in_ok-attributes.attributes) (c.in_ok-names.ensures ∙ ap (λ i. i ∷ []) c.in_ok-name.ensures) (c.from_vec-numbers.ensures ∙ c.new.ensures.items)
    ∙ ap (λ (as' : List Word). SomeNodes (item_at c.args.node.now.place c.args.node.now.name.items c.args.node.now.negated ∷ []) [] as') c.in_ok-attributes.ensures
