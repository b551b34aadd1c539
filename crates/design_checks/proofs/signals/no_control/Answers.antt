use Rattle.std.proofs.Common.{◌++◌, map, sym, ap, ap₂, ◌∙◌}
use Rattle.design_checks.proofs.Common.{arena, entries_of, earlier, first_refusal, view_section, first_append, lacking_controls, other_levels, target_controls, missing_uses, told, use_order, unwritten}
use Rattle.abel_tree.specs.declared.sections.Module.{Module}
use Rattle.design_checks.proofs.signals.no_control.Goals as goal

pub returns : goal.returns
returns g c d of same =
    let t = g.D.Device.table in
    let xs = entries_of c.args.scope.now in
    let fs = arena c.args.found.now.exprs in
    let cs = c.args.found.now.list in
    let used = map told (missing_uses d) in
    let here = same ∙ ap (map view_section) (sym (c.as_slice.ensures ∙ ap (λ (m : Module). m.sections) c.module.ensures)) in
    c.earlier.ensures
    ∙ ap₂ (earlier use_order)
    (c.earlier-targets.ensures ∙ ap₂ (earlier use_order) c.first_refused-lacking.ensures c.first_refused-others.ensures ∙ sym (first_append use_order (lacking_controls t xs cs) (other_levels t fs xs cs)))
    (c.earlier-sources.ensures ∙ ap₂ (earlier use_order) (c.in_ok-unwritten.ensures d of here) (c.in_ok-missing.ensures d of same) ∙ sym (first_append use_order (unwritten d) used))
    ∙ sym (first_append use_order (target_controls t fs xs cs) (unwritten d ++ used))
    ∙ ap (λ rs. first_refusal use_order (rs ++ (unwritten d ++ used))) (ap₂ (λ u ys. target_controls u fs ys cs) (sym of.device) (sym of.names))
