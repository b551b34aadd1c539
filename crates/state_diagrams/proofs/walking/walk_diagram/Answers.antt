-- A diagram whose registers are refused, and one whose registers aren't.
use Rattle.std.proofs.Common.{◌≤◌, ◌++◌, List, [], map, length, refl, sym, ap, ◌∙◌, subst}
use Rattle.state_diagrams.proofs.Common.{on_ok_weaker, arena, State, entries_of, view, view_state, none_refused, view_guard, section_order, Aim, Walked, context_for, AreNamed, AreFirsts, target_member, register_manners, registers_refused, signals_of, states_manners, units_of_states, WalksWork, StandsWork, StandsOthers, header_work, standing, stands_less, stands_same, stands_then, given_by, places_by, others_work}
use Rattle.state_diagrams.proofs.AnyGuards.{still_firsts}
use Rattle.state_diagrams.proofs.WalkedDiagrams.{diagram_refused, diagram_walks}
use Rattle.state_diagrams.proofs.StandingParts.{diagram_stands}
use Rattle.truth_tables.proofs.RowsWalked.{header_still}
use Rattle.state_diagrams.proofs.walking.walk_diagram.Goals as goal

pub returns-in-Some-clause-walks : goal.returns-in-Some-clause-walks
returns-in-Some-clause-walks g c = λ all a.
    let d = context_for g.D.Device.table c.args.scope.now in
    let x = c.args.diagram.now in
    let t = target_member d (view x.registers) in
    let ss = map view_state x.states in
    let old = c.args.out.now in
    let kept = c.refuse.ensures.first in
    let found = c.in_ok-side.ensures.found all a in
    diagram_refused all (register_manners t) (states_manners d ss) (registers_refused d all t) x.place (units_of_states d (signals_of t.aims) (all ++ register_manners t) [] ss)
    (given_by d c.args.guard x (arena old.exprs)) (places_by d x) c.in-Some.fault old c.refuse.new.self
    (sym c.in-Some.is ∙ found.fault) (ap (λ (w : Walked). w.fault) kept) (ap (λ (w : Walked). w.exprs) kept)
    (subst (λ (w : Walked). AreFirsts w.before (all ++ register_manners t)) (sym kept) (c.in_ok-side.ensures.before all a))

pub walk_header-requires : goal.walk_header-requires
walk_header-requires g c =
    let found = c.in_ok-side.ensures.found c.args.out.now.before (λ s p. refl) in
    record { signals = subst (AreNamed (length (entries_of c.args.scope.now))) (sym c.as_slice.ensures) found.inside }

pub walk_others-requires-clause-signals : goal.walk_others-requires-clause-signals
walk_others-requires-clause-signals g c =
    let found = c.in_ok-side.ensures.found c.args.out.now.before (λ s p. refl) in
    subst (AreNamed (length (entries_of c.args.scope.now))) (sym c.as_slice.ensures) found.inside

pub walk_others-requires-clause-few : goal.walk_others-requires-clause-few
walk_others-requires-clause-few g c =
    let found = c.in_ok-side.ensures.found c.args.out.now.before (λ s p. refl) in
    subst (λ (xs : List Aim). length xs ≤ 32) (sym c.as_slice.ensures) (found.few c.in-None.is)

pub returns-clause-walks : goal.returns-clause-walks
returns-clause-walks g c =
    on_ok_weaker c.walk_others.result
    (λ k all a.
    let tb = g.D.Device.table in
    let d = context_for tb c.args.scope.now in
    let x = c.args.diagram.now in
    let t = target_member d (view x.registers) in
    let h = view_guard (arena c.args.out.now.exprs) c.args.guard in
    let mid = c.walk_header.new.out in
    let found = c.in_ok-side.ensures.found all a in
    let header = c.in_ok-walk_header-in-None.ensures.walks (all ++ register_manners t) (c.in_ok-side.ensures.before all a) in
    let xs = c.as_slice.result.now in
    let ms = all ++ register_manners t in
    let others = subst (λ (ys : List State). WalksWork ms (others_work d h xs ms (map view_state ys)) (states_manners d (map view_state ys)) mid c.walk_others.new.out) c.as_slice-in-None.ensures
    (k h refl refl ms (still_firsts ms mid header.manners)) in
    diagram_walks d all c.check_registers.new.before (arena c.args.out.now.exprs) c.args.guard x xs c.args.out.now mid c.walk_others.new.out
    (none_refused section_order (registers_refused d all t) (sym c.in-None.is ∙ found.fault)) (c.as_slice.ensures ∙ found.aims c.in-None.is) header others)
    c.walk_others.ensures.walks

pub returns-in_err-side-clause-stands : goal.returns-in_err-side-clause-stands
returns-in_err-side-clause-stands g c =
    stands_same _ _ c.args.out.now _ refl

pub returns-in-Some-clause-stands : goal.returns-in-Some-clause-stands
returns-in-Some-clause-stands g c =
    stands_same _ _ c.args.out.now c.refuse.new.self (ap standing c.refuse.ensures.first)

pub returns-in_err-walk_header-in-None-clause-stands : goal.returns-in_err-walk_header-in-None-clause-stands
returns-in_err-walk_header-in-None-clause-stands g c =
    let tb = g.D.Device.table in
    let d = context_for tb c.args.scope.now in
    let x = c.args.diagram.now in
    let t = target_member d (view x.registers) in
    let ss = map view_state x.states in
    let old = c.args.out.now in
    let h = view_guard (arena old.exprs) c.args.guard in
    let mid = c.walk_header.new.out in
    let found = c.in_ok-side.ensures.found old.before (λ s p. refl) in
    let xs = c.as_slice.result.now in
    let v = header_work d h xs in
    let w = others_work d h xs [] ss in
    let clear = none_refused section_order (registers_refused d old.before t) (sym c.in-None.is ∙ found.fault) in
    let aims = c.as_slice.ensures ∙ found.aims c.in-None.is in
    let header = header_still v.gives v.places c.check_registers.new.before old mid c.walk_header.ensures.stands in
    diagram_stands d old.before (arena old.exprs) c.args.guard x xs old mid clear aims (stands_less v.gives w.gives v.places w.places old mid header)

pub returns-clause-stands : goal.returns-clause-stands
returns-clause-stands g c =
    let tb = g.D.Device.table in
    let d = context_for tb c.args.scope.now in
    let x = c.args.diagram.now in
    let t = target_member d (view x.registers) in
    let ss = map view_state x.states in
    let old = c.args.out.now in
    let h = view_guard (arena old.exprs) c.args.guard in
    let mid = c.walk_header.new.out in
    let found = c.in_ok-side.ensures.found old.before (λ s p. refl) in
    let xs = c.as_slice.result.now in
    let v = header_work d h xs in
    let w = others_work d h xs [] ss in
    let clear = none_refused section_order (registers_refused d old.before t) (sym c.in-None.is ∙ found.fault) in
    let aims = c.as_slice.ensures ∙ found.aims c.in-None.is in
    let header = header_still v.gives v.places c.check_registers.new.before old mid c.walk_header.ensures.stands in
    let new = c.walk_others.new.out in
    let walked = c.in_ok-walk_header-in-None.ensures.walks (old.before ++ register_manners t) (c.in_ok-side.ensures.before old.before (λ s p. refl)) in
    let others = subst (λ (ys : List State). StandsWork (others_work d h xs [] (map view_state ys)) mid new) c.as_slice-in-None.ensures (c.walk_others.ensures.stands h refl refl) in
    diagram_stands d old.before (arena old.exprs) c.args.guard x xs old new clear aims
    (header_still (v.gives ++ w.gives) (v.places ++ w.places) c.check_registers.new.before old new
    (stands_then (old.before ++ register_manners t) [] [] v.gives w.gives v.places w.places (record old { before = c.check_registers.new.before }) mid new walked c.walk_header.ensures.stands others))
