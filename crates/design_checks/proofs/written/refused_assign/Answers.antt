-- If nothing is compared, nothing is refused; a target that is too wide is refused before; any other has its signals.
use Rattle.std.proofs.Common.{◌<◌, ◌≤◌, length, sym, ap, subst, ◌∙◌, arith}
use Rattle.design_checks.proofs.Common.{Names, entries_of, first_refusal, view, term_of, context_for, side_all, side_length, may_be_compared, use_order, aims_refused, narrow, written_if}
use Rattle.abel_tree.specs.Assigned.{target_extension}
use Rattle.section_targets.specs.TargetSignals.{left_side}
use Rattle.design_checks.proofs.RefusedStatements.{narrow_all, narrow_none, none_compared}
use Rattle.design_checks.proofs.written.refused_assign.Goals as goal

pub returns-then-not-may_be_compared : goal.returns-then-not-may_be_compared
returns-then-not-may_be_compared g c l =
    let d = context_for g.D.Device.table c.args.scope.now in
    let a = c.args.assign.now in
    let w = written_if c.args.guarded (term_of d.known (view a.value)) in
    let never = sym (ap may_be_compared c.target_extension-extension.ensures) ∙ sym c.may_be_compared.ensures ∙ c.if-not-may_be_compared.true in
    sym (ap (first_refusal use_order) (none_compared d (target_extension (view a.target)) w 0 (narrow (left_side d a.place (view a.target)).aims) never))

pub returns-then-aims-gt32 : goal.returns-then-aims-gt32
returns-then-aims-gt32 g c l =
    let d = context_for g.D.Device.table c.args.scope.now in
    let a = c.args.assign.now in
    let x = left_side d a.place (view a.target) in
    let s = c.in_ok-side.ensures g.D.Device.table in
    let wide : 32 < length x.aims = omega (arith, c.if-aims-gt32.true, ap length c.as_slice-aims.ensures, side_length (length (entries_of c.args.scope.now)) c.in_ok-side.side x s) in
    sym (ap (λ xs. first_refusal use_order (aims_refused d (target_extension (view a.target)) (written_if c.args.guarded (term_of d.known (view a.value))) 0 xs)) (narrow_none x.aims wide))

pub returns : goal.returns
returns g c l =
    let d = context_for g.D.Device.table c.args.scope.now in
    let a = c.args.assign.now in
    let x = left_side d a.place (view a.target) in
    let w = written_if c.args.guarded (term_of d.known (view a.value)) in
    let s = c.in_ok-side.ensures g.D.Device.table in
    let low : length x.aims ≤ 32 = omega (arith, c.if-aims-gt32.false, ap length c.as_slice-aims.ensures, side_length (length (entries_of c.args.scope.now)) c.in_ok-side.side x s) in
    let aims = c.as_slice-aims.ensures ∙ side_all (length (entries_of c.args.scope.now)) c.in_ok-side.side x s low in
    c.refused_aims.ensures w c.in_ok-value.value.by_pin (c.in_ok-value.ensures d l) (subst (λ xs. length xs ≤ 32) (sym aims) low)
    ∙ ap (λ (n : Names). first_refusal use_order (aims_refused (context_for g.D.Device.table n) c.target_extension-extension.result w 0 c.as_slice-aims.result.now)) c.scope.ensures
    ∙ ap (λ xs. first_refusal use_order (aims_refused d c.target_extension-extension.result w 0 xs)) (aims ∙ sym (narrow_all x.aims low))
    ∙ ap (λ e. first_refusal use_order (aims_refused d e w 0 (narrow x.aims))) c.target_extension-extension.ensures
