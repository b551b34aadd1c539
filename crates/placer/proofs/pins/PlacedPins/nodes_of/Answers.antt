-- One node more.
use Rattle.std.proofs.Common.{[], ◌∷◌, ◌++◌, map, take, sym, ap, ap₂, ◌∙◌, arith}
use Rattle.placer.proofs.Common.{map-append, take_all, view_declared, view_decl, view_given, node_given, node_declaration, dc_of}
use Rattle.placer.proofs.Mapped.{mapped_more}
use Rattle.placer.proofs.pins.PlacedPins.nodes_of.Goals as goal

pub loop-node-preserved : goal.loop-node-preserved
loop-node-preserved c = λ known.
    let l = c.loop-node in
    let es = map view_declared c.args.names.now in
    let f = node_declaration (node_given es c.args.self.now) (dc_of es) c.args.attributes.now in
    ap (map view_decl) c.in_ok-push.ensures.items
    ∙ (map-append view_decl l.list.items (c.in_ok-decl.decl ∷ [])
    ∙ (ap₂ (λ xs x. xs ++ x ∷ []) (l.invariant known) (c.in_ok-decl.ensures known)
    ∙ sym (ap (map f) (mapped_more view_given c.args.nodes.now l.node-index c.node-item.result c.loop-node-test.true c.node-item.is)
    ∙ map-append f (map view_given (take l.node-index c.args.nodes.now)) (view_given c.node-item.result ∷ []))))

pub returns : goal.returns
returns c = λ known.
    let l = c.loop-node in
    let es = map view_declared c.args.names.now in
    let f = node_declaration (node_given es c.args.self.now) (dc_of es) c.args.attributes.now in
    l.invariant known ∙ ap (λ xs. map f (map view_given xs)) (take_all l.node-index c.args.nodes.now (omega (arith, c.loop-node-test.false)))
