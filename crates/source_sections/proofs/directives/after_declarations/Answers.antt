-- One declaration, and those that are left.
use Rattle.std.proofs.Common.{◌+◌, drop, map, sym, ap, ◌∙◌}
use Rattle.source_sections.proofs.Common.{view_decl, after_declarations, rest_at}
use Rattle.source_sections.proofs.SectionsWalked.{declarations_then}
use Rattle.source_sections.proofs.directives.after_declarations.Goals as goal

pub loop-decl-preserved : goal.loop-decl-preserved
loop-decl-preserved c =
    let list = c.args.decls.now in
    let l = c.loop-decl in
    let rest = map view_decl (drop (l.decl-index + 1) list) in
    ap (λ on. after_declarations on rest) c.after_declaration-on.ensures
    ∙ (sym (declarations_then l.on (view_decl c.decl-item.result) rest)
    ∙ (sym (ap (after_declarations l.on) (rest_at view_decl list l.decl-index c.decl-item.result c.loop-decl-test.true c.decl-item.is)) ∙ l.invariant))
