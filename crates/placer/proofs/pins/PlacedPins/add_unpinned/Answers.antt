-- A name with a pin is left out.
use Rattle.std.proofs.Common.{[], ◌∷◌, ◌++◌, map, sym, ap, ◌∙◌}
use Rattle.placer.proofs.Common.{append-nil, view_declared, view_given, node_given}
use Rattle.placer.proofs.Items.{left_none, left_one}
use Rattle.placer.proofs.pins.PlacedPins.add_unpinned.Goals as goal

pub returns-then-is_pinned : goal.returns-then-is_pinned
returns-then-is_pinned c = λ known.
    let pin = node_given (map view_declared c.args.names.now) c.args.self.now in
    let old = c.args.list.now.items in
    sym (append-nil old) ∙ ap (λ xs. old ++ xs) (sym (left_none pin (view_given c.args.name.now) (sym (c.is_pinned.ensures known) ∙ c.if-is_pinned.true)))

pub returns : goal.returns
returns c = λ known.
    let pin = node_given (map view_declared c.args.names.now) c.args.self.now in
    let old = c.args.list.now.items in
    c.in_ok-push.ensures.items
    ∙ ap (λ xs. old ++ xs) (ap (λ x. x ∷ []) c.in_ok-item.ensures ∙ sym (left_one pin (view_given c.args.name.now) (sym (c.is_pinned.ensures known) ∙ c.if-is_pinned.false)))
