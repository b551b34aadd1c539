-- A node whose enable isn't assigned is released.
use Rattle.std.proofs.Common.{[], ◌∷◌, ◌++◌, if◌then◌else◌, map, sym, ap, ◌∙◌}
use Rattle.placer.proofs.Common.{append-nil, map-append, view_stmt, released}
use Rattle.placer.proofs.rebuilding.add_released.Goals as goal

pub returns-then-not-is_released : goal.returns-then-not-is_released
returns-then-not-is_released c =
    let old = map view_stmt c.args.list.now.items in
    let d = c.args.declared.now in
    sym (append-nil old) ∙ ap (λ xs. old ++ xs) (sym (ap (λ b. if b then released d.place d.name ∷ [] else []) (sym c.is_released.ensures ∙ c.if-not-is_released.true)))

pub returns : goal.returns
returns c =
    let old = map view_stmt c.args.list.now.items in
    let d = c.args.declared.now in
    ap (map view_stmt) c.in_ok-push.ensures.items
    ∙ (map-append view_stmt c.args.list.now.items (c.in_ok-statement.statement ∷ [])
    ∙ ap (λ xs. old ++ xs)
    (ap (λ s. s ∷ []) (c.in_ok-statement.ensures ∙ ap (released d.place) c.bytes.ensures)
    ∙ sym (ap (λ b. if b then released d.place d.name ∷ [] else []) (sym c.is_released.ensures ∙ c.if-not-is_released.false))))
