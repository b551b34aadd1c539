-- If there are equations, one section more.
use Rattle.std.proofs.Common.{◌==◌, [], ◌∷◌, ◌++◌, List, length, map, sym, ap, ◌∙◌}
use Rattle.placer.proofs.Common.{append-nil, map-append, Stmt, view_section, view_stmt}
use Rattle.abel_tree.specs.declared.sections.Section.TheVariants as section
use Rattle.placer.proofs.Others.{no_equations, some_equations}
use Rattle.placer.proofs.rebuilding.with_equations.Goals as goal

pub returns-then-is_empty : goal.returns-then-is_empty
returns-then-is_empty c =
    let old = map view_section c.args.sections.items in
    sym (append-nil old) ∙ ap (λ xs. old ++ xs) (sym (no_equations c.args.equations.items (ap (λ (xs : List Stmt). length xs == 0) (sym c.as_slice.ensures.value) ∙ (sym c.is_empty.ensures ∙ c.if-is_empty.true))))

pub returns : goal.returns
returns c =
    let old = map view_section c.args.sections.items in
    ap (map view_section) c.in_ok-push.ensures.items
    ∙ (map-append view_section c.args.sections.items (section.Equations c.from_vec-list.result ∷ [])
    ∙ ap (λ xs. old ++ xs) (ap (λ (ss : List Stmt). view_section (section.Equations ss) ∷ []) c.from_vec-list.ensures ∙ sym (some_equations c.args.equations.items (ap (λ (xs : List Stmt). length xs == 0) (sym c.as_slice.ensures.value) ∙ (sym c.is_empty.ensures ∙ c.if-is_empty.false)))))
