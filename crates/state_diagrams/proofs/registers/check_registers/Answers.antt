-- Registers that are no targets, and registers that are.
use Rattle.std.proofs.Common.{◌++◌, None, true, false, List, map, length, refl, sym, ap, ◌∙◌, subst}
use Rattle.state_diagrams.proofs.Common.{Names, entries_of, first_refusal, view, section_order, Aim, context_for, AreNamed, AreFirsts, aims_refused, manner_of, target_member, is_context, same_context}
use Rattle.equations.proofs.CheckedUnits.{known_by_names}
use Rattle.state_diagrams.proofs.StateLaws.{member_whole, no_manners, no_registers, some_manners, some_registers}
use Rattle.state_diagrams.proofs.registers.check_registers.Goals as goal

pub returns-in-Some-clause-found : goal.returns-in-Some-clause-found
returns-in-Some-clause-found g c = λ all a.
    no_registers (context_for g.D.Device.table c.args.scope.now) all (view c.args.registers.now) c.in_ok-side.side c.in-Some.field-0 (c.in_ok-side.ensures g.D.Device.table) c.in-Some.is

pub returns-in-Some-clause-before : goal.returns-in-Some-clause-before
returns-in-Some-clause-before g c = λ all a.
    subst (AreFirsts c.args.before.now) (no_manners (target_member (context_for g.D.Device.table c.args.scope.now) (view c.args.registers.now)) all c.in_ok-side.side.fault c.in-Some.field-0 (c.in_ok-side.ensures g.D.Device.table).fault c.in-Some.is) a

pub check_aims-requires : goal.check_aims-requires
check_aims-requires g c =
    subst (λ (n : Names). AreNamed (length (entries_of n)) c.as_slice.result.now) (sym c.scope.ensures)
    (subst (λ (xs : List Aim). AreNamed (length (entries_of c.args.scope.now)) xs) (sym c.as_slice.ensures) (c.in_ok-side.ensures g.D.Device.table).inside)

pub returns-in_ok-mixed-in-None-clause-found : goal.returns-in_ok-mixed-in-None-clause-found
returns-in_ok-mixed-in-None-clause-found g c = λ all a.
    let t = g.D.Device.table in
    let n = c.args.scope.now in
    let d = context_for t n in
    some_registers d all (view c.args.registers.now) c.in_ok-side.side _ (known_by_names t n d (is_context t n)) (c.in_ok-side.ensures t) c.in-None.is refl
    (c.in_ok-mixed-in-None.ensures.fault d all (same_context t c.scope.result.now n c.scope.ensures) a ∙ ap (λ (xs : List Aim). first_refusal section_order (aims_refused d all None false true xs)) c.as_slice.ensures)

pub returns-in_ok-mixed-in-None-clause-before : goal.returns-in_ok-mixed-in-None-clause-before
returns-in_ok-mixed-in-None-clause-before g c = λ all a.
    let t = g.D.Device.table in
    let n = c.args.scope.now in
    let d = context_for t n in
    let x = target_member d (view c.args.registers.now) in
    let w = member_whole d c.in_ok-side.side (view c.args.registers.now) (known_by_names t n d (is_context t n)) (c.in_ok-side.ensures t) c.in-None.is in
    subst (λ ms. AreFirsts c.check_aims.new.before (all ++ ms)) (ap (λ (xs : List Aim). map (manner_of None false true) xs) c.as_slice.ensures ∙ some_manners x c.in_ok-side.side.aims w.0 w.1)
    (c.in_ok-mixed-in-None.ensures.before all a)
