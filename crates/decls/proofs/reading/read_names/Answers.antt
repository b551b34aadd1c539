-- The table's names, and what its clauses say of them.
use Rattle.std.proofs.Common.{map, ap, ap₂, ◌∙◌}
use Rattle.decls.proofs.Common.{view_module, registers_wait, numbered, wants_names, kept, view_given, module_steps}
use Rattle.decls.proofs.DeclarationsGo.{module_go}
use Rattle.decls.proofs.reading.read_names.Goals as goal

pub returns-clause-list : goal.returns-clause-list
returns-clause-list g c = λ h.
    let t = g.D.Device.table in
    c.in_ok-list.ensures ∙ ((c.in_ok-table.ensures.steps (ap (λ w. wants_names w c.in_ok-table.table.fault) (c.registers_wait-wait.ensures ∙ ap (λ m. registers_wait t (view_module m)) c.module.ensures) ∙ h)).rows ∙ ap (map (kept t)) (module_go t (view_module c.args.source.now)).behind.reached.entries)

pub returns-clause-buffered : goal.returns-clause-buffered
returns-clause-buffered g c = λ h.
    let t = g.D.Device.table in
    let m = view_module c.args.source.now in
    let shown = c.in_ok-table.ensures.steps (ap (λ w. wants_names w c.in_ok-table.table.fault) (c.registers_wait-wait.ensures ∙ ap (λ m. registers_wait t (view_module m)) c.module.ensures) ∙ h) in
    c.in_ok-buffered.ensures t (module_steps t m) shown
    ∙ ap₂ numbered (module_go t m).behind.reached.entries (ap (map view_given) c.as_slice.ensures.value ∙ (shown.waiting ∙ (module_go t m).behind.waiting))
