-- One name more.
use Rattle.std.proofs.Common.{[], ◌∷◌, ◌++◌, map, sym, ap, ◌∙◌, append_assoc}
use Rattle.decls.proofs.Common.{map-append, append-nil, view_declared, view_known}
use Rattle.decls.proofs.reading.list_of.Goals as goal

pub loop-row-preserved : goal.loop-row-preserved
loop-row-preserved c =
    let l = c.loop-row in
    let so_far = map view_declared l.list.items in
    let left = map view_known c.next.new.self in
    ap (λ xs. map view_declared xs ++ left) c.in_ok-push.ensures.items
    ∙ (ap (λ xs. xs ++ left) (map-append view_declared l.list.items (c.in_ok-declared_of.field-0 ∷ []))
    ∙ (append_assoc so_far (view_declared c.in_ok-declared_of.field-0 ∷ []) left
    ∙ (ap (λ y. so_far ++ (y ∷ left)) c.in_ok-declared_of.ensures
    ∙ (ap (λ xs. so_far ++ map view_known xs) (sym c.in-Some.ensures.steps) ∙ l.invariant))))

pub returns : goal.returns
returns c =
    let l = c.loop-row in
    let so_far = map view_declared l.list.items in
    sym (append-nil so_far) ∙ (ap (λ xs. so_far ++ map view_known xs) (sym c.in-None.ensures.steps.0) ∙ l.invariant)
