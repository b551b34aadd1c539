-- An assignment whose target is refused, and one whose target isn't.
use Rattle.std.proofs.Common.{◌++◌, List, Some, ap, ap₂, map, refl, sym, ◌∙◌, subst, length}
use Rattle.equations.proofs.Common.{Names, entries_of, earlier, first_refusal, first_append, view, section_order, expression_found, SumsUp, context_for, Aim, AreNamed, AreFirsts, aims_refused, manner_of, left_side, value_refused, side_whole, assigned_manners, unless_any}
use Rattle.abel_tree.specs.Assigned as assigned
use Rattle.equations.proofs.BuiltParts.{same_context}
use Rattle.equations.proofs.CheckedUnits.{behind_refused, accepted_refused}
use Rattle.equations.proofs.assigning.check_assign.Goals as goal

pub returns-in-Some-clause-fault : goal.returns-in-Some-clause-fault
returns-in-Some-clause-fault g c = λ all a.
    let n = c.args.scope.now in
    let t = g.D.Device.table in
    let d = context_for t n in
    let x = c.args.assign.now in
    c.earlier-in-Some.ensures ∙ ap (earlier section_order (Some c.in-Some.fault)) c.earlier.ensures
    ∙ behind_refused d all (assigned.target_extension (view x.target)) x.complement x.sign x.sign_place (left_side d x.place (view x.target)) (expression_found (entries_of n) (view x.value)) c.in-Some.fault c.in_ok-value.value
    (sym c.in-Some.is ∙ (c.in_ok-side.ensures t).fault) (subst (λ (m : Names). SumsUp c.in_ok-value.value (expression_found (entries_of m) (view x.value))) c.scope-names.ensures c.in_ok-value.ensures)

pub check_aims-requires : goal.check_aims-requires
check_aims-requires g c =
    subst (λ (n : Names). AreNamed (length (entries_of n)) c.as_slice-aims.result.now) (sym c.scope-names.ensures)
    (subst (λ (xs : List Aim). AreNamed (length (entries_of c.args.scope.now)) xs) (sym c.as_slice-aims.ensures) (c.in_ok-side.ensures g.D.Device.table).inside)

pub returns-clause-fault : goal.returns-clause-fault
returns-clause-fault g c = λ all a.
    let n = c.args.scope.now in
    let t = g.D.Device.table in
    let d = context_for t n in
    let x = c.args.assign.now in
    let target = left_side d x.place (view x.target) in
    let f = expression_found (entries_of n) (view x.value) in
    let e = assigned.target_extension (view x.target) in
    let aims = c.as_slice-aims.result.now in
    let whole = side_whole d (length d.names) c.in_ok-side.side x.place (view x.target) refl (c.in_ok-side.ensures t) (sym c.in-None.is) in
    let value = subst (λ (m : Names). SumsUp c.in_ok-value.value (expression_found (entries_of m) (view x.value))) c.scope-names.ensures c.in_ok-value.ensures in
    let mixed = c.in_ok-mixed-in-None.ensures.fault d all (same_context t c.scope-names.result.now n c.scope-names.ensures) a
    ∙ ap₂ (λ y z. first_refusal section_order (aims_refused d all y x.complement z aims)) c.target_extension.ensures c.is_clocked.ensures in
    c.earlier-in-None.ensures ∙ ap₂ (earlier section_order) (c.refuse_value-refused.ensures f value) mixed
    ∙ sym (first_append section_order (value_refused x.sign_place (length aims) f) (aims_refused d all e x.complement (assigned.is_clocked x.sign) aims))
    ∙ accepted_refused d all e x.complement x.sign x.sign_place target f aims whole.0 (c.as_slice-aims.ensures ∙ whole.1)

pub returns-clause-before : goal.returns-clause-before
returns-clause-before g c = λ all a.
    let n = c.args.scope.now in
    let t = g.D.Device.table in
    let d = context_for t n in
    let x = c.args.assign.now in
    let aims = c.as_slice-aims.result.now in
    let whole = side_whole d (length d.names) c.in_ok-side.side x.place (view x.target) refl (c.in_ok-side.ensures t) (sym c.in-None.is) in
    subst (λ ms. AreFirsts c.check_aims.new.before (all ++ ms))
    (ap₂ (λ y z. map (manner_of y x.complement z) aims) c.target_extension.ensures c.is_clocked.ensures
    ∙ ap (assigned_manners (assigned.target_extension (view x.target)) x.complement x.sign) (c.as_slice-aims.ensures ∙ whole.1 ∙ ap (λ rs. unless_any rs (left_side d x.place (view x.target)).aims) (sym whole.0)))
    (c.in_ok-mixed-in-None.ensures.before all a)
