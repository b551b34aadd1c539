-- The signals of an assignment are given its value.
use Rattle.std.proofs.Common.{List, [], refl, sym, ap, ◌∙◌, subst, length}
use Rattle.equations.proofs.Common.{err_from_is_err_and, ExprId, arena, formula_at, Names, entries_of, view, guard_nodes, term_nodes, formulas, targets_of, term_of, Aim, NoMemory, AreBits, context_for, AreNamed, left_side, kept_formula, kept_inside, side_positions, side_few}
use Rattle.section_targets.proofs.Parts.{leaves_nodes}
use Rattle.set_expr.specs.declared.fault.SectionFault.TheVariants as fault
use Rattle.section_targets.proofs.Gives.{stops_nodes}
use Rattle.section_targets.proofs.SignalLists.{side_all}
use Rattle.equations.proofs.BuiltParts.{stops_longer}
use Rattle.equations.proofs.BuiltUnits.{assign_built}
use Rattle.equations.proofs.walking.give_assign.Goals as goal

pub returns-in_err-side-clause-gives : goal.returns-in_err-side-clause-gives
returns-in_err-side-clause-gives g c =
    let p = err_from_is_err_and c.from_residual.result c.from_residual.ensures.1 in
    let old = c.args.out.now in
    rw (p.1, p.2) (stops_nodes _ _ _ _ _ fault.OutOfMemory (NoMemory refl, leaves_nodes old.exprs old.exprs old.list.items (λ i f e. e)))

pub returns-in_err-bits-clause-gives : goal.returns-in_err-bits-clause-gives
returns-in_err-bits-clause-gives g c =
    let p = err_from_is_err_and c.from_residual-in_err-bits.result c.from_residual-in_err-bits.ensures.1 in
    let a = c.args.assign.now in
    let d = context_for g.D.Device.table c.args.scope.now in
    let n = length (targets_of (term_of d.known (view a.target))) in
    rw (p.1, p.2)
    (stops_nodes _ _ _ _ _ c.in_err-bits.field-0.0
    (stops_longer a.place [] (term_nodes d (view a.value)) (guard_nodes (formula_at (arena c.args.out.now.exprs) c.args.guard.when) ((formulas d).word n (term_of d.known (view a.value)))) _ _ c.in_err-bits.field-0.0
    (c.in_err-bits.ensures.builds c.args.out.now.list.items)))

pub give_all-requires-clause-signals : goal.give_all-requires-clause-signals
give_all-requires-clause-signals g c =
    subst (λ (n : Names). AreNamed (length (entries_of n)) c.as_slice-aims.result.now) (sym c.scope.ensures)
    (subst (λ (xs : List Aim). AreNamed (length (entries_of c.args.scope.now)) xs) (sym c.as_slice-aims.ensures) (c.in_ok-side.ensures g.D.Device.table).inside)

pub give_all-requires-clause-guard : goal.give_all-requires-clause-guard
give_all-requires-clause-guard g c = kept_inside _ _ c.args.guard.when c.in_ok-bits.ensures.keeps c.requires.guard

pub returns-clause-gives : goal.returns-clause-gives
returns-clause-gives g c =
    let n = c.args.scope.now in
    let t = g.D.Device.table in
    let d = context_for t n in
    let a = c.args.assign.now in
    let side = c.in_ok-side.ensures t in
    let clear = c.requires.accepted.target in
    let aims = c.as_slice-aims.ensures ∙ side_all (length d.names) c.in_ok-side.side (left_side d a.place (view a.target)) side (side_few d a.place (view a.target) refl clear) in
    assign_built d _ _ _ _ (view a.target) (view a.value) (left_side d a.place (view a.target)) c.as_slice-aims.result.now c.deref.result.now _ _ _ c.give_all.result
    clear aims (side_positions d a.place (view a.target) clear) c.target_extension.ensures c.is_clocked.ensures c.sign_gives.ensures
    (c.in_ok-bits.ensures.builds c.args.out.now.list.items) (kept_formula _ _ c.args.guard.when c.in_ok-bits.ensures.keeps c.requires.guard)
    (subst (λ (xs : List ExprId). AreBits (arena c.value_bits.new.exprs) xs ((formulas d).word (length c.as_slice-aims.result.now) (term_of d.known (view a.value)))) (sym c.deref.ensures.value) c.in_ok-bits.ensures.bits)
    (c.give_all.ensures.builds d (ap entries_of (sym c.scope.ensures)))
