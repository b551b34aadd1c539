-- Declarations, and then sections, by their parts.
use Rattle.std.proofs.Common.{fold, map, subst, ap, ap₂, ◌∙◌}
use Rattle.decls.proofs.Common.{on_ok_weaker, view_decl, view_module, parted_step, Follows, nothing, declaration_step}
use Rattle.decls.proofs.PartsUsed.{sections_are_used}
use Rattle.decls.proofs.pass.Pass.read_module.Goals as goal

pub returns : goal.returns
returns c =
    let m = view_module c.args.source.now in
    on_ok_weaker c.read_sections.result
    (λ h t sh.
    subst (Follows t c.read_sections.new.self)
    (ap₂ (λ xs ys. fold (parted_step t.table) (fold (declaration_step t.table) nothing (map view_decl xs)) ys) (c.as_slice.ensures ∙ ap (λ s. s.decls) c.module.ensures) c.sections.ensures
    ∙ sections_are_used t.table (fold (declaration_step t.table) nothing m.decls) m.sections)
    (h t (fold (declaration_step t.table) nothing (map view_decl c.as_slice.result.now)) (c.in_ok-declare_all.ensures t nothing sh)))
    c.read_sections.ensures
