-- One state more, and all of them.
use Rattle.std.proofs.Common.{◌≡◌, ℕ, ◌+◌, None, List, [], drop, length, map, take, refl, sym, ap, ◌∙◌, subst, arith}
use Rattle.state_diagrams.proofs.Common.{drop_all, take-length, ExprId, arena, State, StateTree, view_state, context_for, Guard, front_more, AreBits, walks_none, kept_bit, StandsBranches, StandsStates, StandsStatements, WalksBranches, WalksStates, stands_same, Arm, Stmt, kept_inside, view_list, WalksStatements, view_arms, signals_of, state_bit, state_bits}
use Rattle.state_diagrams.proofs.AnyGuards.{walked_clear}
use Rattle.state_diagrams.proofs.StateLaws.{listed_as, state_walk, states_walk, within_plain, within_walk}
use Rattle.state_diagrams.proofs.StandingParts.{nothing_given, state_stands, states_end, states_stand, within_ends, within_stands}
use Rattle.state_diagrams.proofs.StateBits.{bits_kept, states_more}
use Rattle.state_diagrams.proofs.WalkedBranches.{rest_at}
use Rattle.state_diagrams.proofs.states.walk_states.Goals as goal

pub loop-state-init : goal.loop-state-init
loop-state-init g c =
    record {
      walks = λ later k.
          subst (λ (ls : List ℕ). WalksStates g.D.Device.table c.args.machine.now c.args.guard ls (map view_state c.args.states.now) c.args.out.now later) c.new-listed.ensures.items k;
      stands = λ later k. k;
      bits = λ e. subst (λ (ids : List ExprId). AreBits (arena c.args.out.now.exprs) ids []) (sym c.new-bits.ensures.items) (λ i x lt. absurd (omega (arith, lt)), refl);
    }

pub walk_arms-requires-clause-guard : goal.walk_arms-requires-clause-guard
walk_arms-requires-clause-guard g c =
    kept_inside _ _ c.in_ok-when.when (c.in_ok-walk_statements.ensures.walks c.walk_unit.new.out.before (λ s p. refl)).keeps c.in_ok-when.ensures.inside

pub loop-state-preserved : goal.loop-state-preserved
loop-state-preserved g c =
    let t = g.D.Device.table in
    let m = c.args.machine.now in
    let d = context_for t m.scope.now in
    let xs = m.registers.now in
    let states = c.args.states.now in
    let i = c.loop-state.state-index in
    let x = c.state-item.result in
    let s = view_state x in
    let id = c.in_ok-when.when in
    let inside : Guard = record c.args.guard { when = id } in
    let mid = c.loop-state.out in
    let far = c.walk_unit.new.out in
    let then = c.walk_statements.new.out in
    let new = c.walk_arms.new.out in
    let listed : List ℕ = c.loop-state.listed.items in
    let value = c.in_ok-found.ensures.state in
    let unit = c.in_ok-when.ensures.walks listed value in
    let bit = c.in_ok-when.ensures.bit listed value in
    let within = within_walk t m inside s far then new c.in_ok-when.ensures.inside
    (subst (λ (zs : List Stmt). WalksStatements t m.scope.now inside (view_list zs) far then) c.as_slice-stmts.ensures c.in_ok-walk_statements.ensures.walks)
    (subst (λ (zs : List Arm). WalksBranches t m inside (view_arms zs) then new) c.as_slice-arms.ensures c.in_ok-walk_arms.ensures.walks) in
    let inner = within_stands t m inside s far then new c.in_ok-when.ensures.inside
    (subst (λ (zs : List Stmt). WalksStatements t m.scope.now inside (view_list zs) far then) c.as_slice-stmts.ensures c.in_ok-walk_statements.ensures.walks)
    (subst (λ (zs : List Stmt). StandsStatements t m.scope.now inside (view_list zs) far then) c.as_slice-stmts.ensures c.walk_statements.ensures.stands)
    (subst (λ (zs : List Arm). StandsBranches t m inside (view_arms zs) then new) c.as_slice-arms.ensures c.walk_arms.ensures.stands) in
    let v = c.loop-state.invariant in
    record {
      stands = λ later k.
          v.stands later
          (subst (λ (zs : List StateTree). StandsStates t m c.args.guard zs mid later) (sym (rest_at view_state states i x c.loop-state-test.true c.state-item.is))
          (states_stand t m c.args.guard listed s (map view_state (drop (i + 1) states)) mid new later (state_walk t m c.args.guard listed s id mid far new unit bit within)
          (state_stands t m c.args.guard listed s id mid far new unit bit c.walk_unit.ensures.stands inner) k));
      walks = λ later k.
          v.walks later
          (subst (λ (zs : List StateTree). WalksStates t m c.args.guard listed zs mid later) (sym (rest_at view_state states i x c.loop-state-test.true c.state-item.is))
          (states_walk t m c.args.guard listed s (map view_state (drop (i + 1) states)) id mid far new later unit bit within
          (subst (λ (ls : List ℕ). WalksStates t m c.args.guard ls (map view_state (drop (i + 1) states)) new later) (c.in_ok-found.ensures.listed ∙ listed_as d (length (signals_of xs)) listed s c.in_ok-found.found.number c.in_ok-found.found.fault value.fault value.number) k)));
      bits = λ e.
          let w = within_plain t m inside s far new within in
          let there : far.fault ≡ None = walked_clear far new w e in
          let clear : mid.fault ≡ None = walked_clear mid far (unit mid.before (λ k p. refl)) there in
          let old_bits = bits_kept (arena mid.exprs) (arena far.exprs) c.loop-state.bits.items (state_bits d xs (map view_state (take i states))) (unit mid.before (λ k p. refl)).keeps (v.bits clear) in
          subst (λ (ids : List ExprId). AreBits (arena new.exprs) ids (state_bits d xs (map view_state (take (i + 1) states)))) (sym c.in_ok-push.ensures.items)
          (states_more d xs (arena far.exprs) (arena new.exprs) c.loop-state.bits.items id (map view_state (take i states)) (map view_state (take (i + 1) states)) s
          (front_more view_state states i x c.loop-state-test.true c.state-item.is) w.keeps old_bits (kept_bit _ _ id (state_bit d xs s) w.keeps (bit there)));
    }

pub returns-clause-walks : goal.returns-clause-walks
returns-clause-walks g c =
    c.loop-state.invariant.walks c.loop-state.out
    (subst (λ (xs : List State). WalksStates g.D.Device.table c.args.machine.now c.args.guard c.loop-state.listed.items (map view_state xs) c.loop-state.out c.loop-state.out)
    (sym (drop_all c.loop-state.state-index c.args.states.now (omega (arith, c.loop-state-test.false)))) (λ h p q all a. walks_none all c.loop-state.out a))

pub returns-clause-bits : goal.returns-clause-bits
returns-clause-bits g c =
    subst (λ (xs : List State). c.loop-state.out.fault ≡ None → AreBits (arena c.loop-state.out.exprs) c.loop-state.bits.items (state_bits (context_for g.D.Device.table c.args.machine.now.scope.now) c.args.machine.now.registers.now (map view_state xs)))
    (ap (λ n. take n c.args.states.now) (omega (arith, c.loop-state-test.false, c.loop-state.auto.state-index-end)) ∙ take-length c.args.states.now) c.loop-state.invariant.bits

pub returns-in_err-found-clause-stands : goal.returns-in_err-found-clause-stands
returns-in_err-found-clause-stands g c =
    let t = g.D.Device.table in
    let m = c.args.machine.now in
    let states = c.args.states.now in
    let i = c.loop-state.state-index in
    let x = c.state-item.result in
    let s = view_state x in
    let mid = c.loop-state.out in
    c.loop-state.invariant.stands mid
    (subst (λ (zs : List StateTree). StandsStates t m c.args.guard zs mid mid) (sym (rest_at view_state states i x c.loop-state-test.true c.state-item.is))
    (states_end t m c.args.guard s (map view_state (drop (i + 1) states)) mid mid
    (λ h p q. stands_same _ _ mid mid refl)))

pub returns-in_err-when-clause-stands : goal.returns-in_err-when-clause-stands
returns-in_err-when-clause-stands g c =
    let t = g.D.Device.table in
    let m = c.args.machine.now in
    let states = c.args.states.now in
    let i = c.loop-state.state-index in
    let x = c.state-item.result in
    let s = view_state x in
    let mid = c.loop-state.out in
    let far = c.walk_unit.new.out in
    c.loop-state.invariant.stands far
    (subst (λ (zs : List StateTree). StandsStates t m c.args.guard zs mid far) (sym (rest_at view_state states i x c.loop-state-test.true c.state-item.is))
    (states_end t m c.args.guard s (map view_state (drop (i + 1) states)) mid far
    (λ h p q. nothing_given _ _ mid far c.walk_unit.ensures.stands)))

pub returns-in_err-walk_statements-clause-stands : goal.returns-in_err-walk_statements-clause-stands
returns-in_err-walk_statements-clause-stands g c =
    let t = g.D.Device.table in
    let m = c.args.machine.now in
    let states = c.args.states.now in
    let i = c.loop-state.state-index in
    let x = c.state-item.result in
    let s = view_state x in
    let mid = c.loop-state.out in
    let listed : List ℕ = c.loop-state.listed.items in
    let id = c.in_ok-when.when in
    let inside : Guard = record c.args.guard { when = id } in
    let far = c.walk_unit.new.out in
    let value = c.in_ok-found.ensures.state in
    let unit = c.in_ok-when.ensures.walks listed value in
    let bit = c.in_ok-when.ensures.bit listed value in
    let then = c.walk_statements.new.out in
    c.loop-state.invariant.stands then
    (subst (λ (zs : List StateTree). StandsStates t m c.args.guard zs mid then) (sym (rest_at view_state states i x c.loop-state-test.true c.state-item.is))
    (states_end t m c.args.guard s (map view_state (drop (i + 1) states)) mid then
    (state_stands t m c.args.guard listed s id mid far then unit bit c.walk_unit.ensures.stands (within_ends t m inside s far then (subst (λ (zs : List Stmt). StandsStatements t m.scope.now inside (view_list zs) far then) c.as_slice-stmts.ensures c.walk_statements.ensures.stands)))))

pub returns-in_err-walk_arms-clause-stands : goal.returns-in_err-walk_arms-clause-stands
returns-in_err-walk_arms-clause-stands g c =
    let t = g.D.Device.table in
    let m = c.args.machine.now in
    let states = c.args.states.now in
    let i = c.loop-state.state-index in
    let x = c.state-item.result in
    let s = view_state x in
    let mid = c.loop-state.out in
    let listed : List ℕ = c.loop-state.listed.items in
    let id = c.in_ok-when.when in
    let inside : Guard = record c.args.guard { when = id } in
    let far = c.walk_unit.new.out in
    let value = c.in_ok-found.ensures.state in
    let unit = c.in_ok-when.ensures.walks listed value in
    let bit = c.in_ok-when.ensures.bit listed value in
    let then = c.walk_statements.new.out in
    let new = c.walk_arms.new.out in
    let inner = within_stands t m inside s far then new c.in_ok-when.ensures.inside
    (subst (λ (zs : List Stmt). WalksStatements t m.scope.now inside (view_list zs) far then) c.as_slice-stmts.ensures c.in_ok-walk_statements.ensures.walks)
    (subst (λ (zs : List Stmt). StandsStatements t m.scope.now inside (view_list zs) far then) c.as_slice-stmts.ensures c.walk_statements.ensures.stands)
    (subst (λ (zs : List Arm). StandsBranches t m inside (view_arms zs) then new) c.as_slice-arms.ensures c.walk_arms.ensures.stands) in
    c.loop-state.invariant.stands new
    (subst (λ (zs : List StateTree). StandsStates t m c.args.guard zs mid new) (sym (rest_at view_state states i x c.loop-state-test.true c.state-item.is))
    (states_end t m c.args.guard s (map view_state (drop (i + 1) states)) mid new
    (state_stands t m c.args.guard listed s id mid far new unit bit c.walk_unit.ensures.stands inner)))

pub returns-in_err-push-clause-stands : goal.returns-in_err-push-clause-stands
returns-in_err-push-clause-stands g c =
    let t = g.D.Device.table in
    let m = c.args.machine.now in
    let states = c.args.states.now in
    let i = c.loop-state.state-index in
    let x = c.state-item.result in
    let s = view_state x in
    let mid = c.loop-state.out in
    let listed : List ℕ = c.loop-state.listed.items in
    let id = c.in_ok-when.when in
    let inside : Guard = record c.args.guard { when = id } in
    let far = c.walk_unit.new.out in
    let value = c.in_ok-found.ensures.state in
    let unit = c.in_ok-when.ensures.walks listed value in
    let bit = c.in_ok-when.ensures.bit listed value in
    let then = c.walk_statements.new.out in
    let new = c.walk_arms.new.out in
    let inner = within_stands t m inside s far then new c.in_ok-when.ensures.inside
    (subst (λ (zs : List Stmt). WalksStatements t m.scope.now inside (view_list zs) far then) c.as_slice-stmts.ensures c.in_ok-walk_statements.ensures.walks)
    (subst (λ (zs : List Stmt). StandsStatements t m.scope.now inside (view_list zs) far then) c.as_slice-stmts.ensures c.walk_statements.ensures.stands)
    (subst (λ (zs : List Arm). StandsBranches t m inside (view_arms zs) then new) c.as_slice-arms.ensures c.walk_arms.ensures.stands) in
    c.loop-state.invariant.stands new
    (subst (λ (zs : List StateTree). StandsStates t m c.args.guard zs mid new) (sym (rest_at view_state states i x c.loop-state-test.true c.state-item.is))
    (states_end t m c.args.guard s (map view_state (drop (i + 1) states)) mid new
    (state_stands t m c.args.guard listed s id mid far new unit bit c.walk_unit.ensures.stands inner)))

pub returns-clause-stands : goal.returns-clause-stands
returns-clause-stands g c =
    c.loop-state.invariant.stands c.loop-state.out
    (subst (λ (xs : List State). StandsStates g.D.Device.table c.args.machine.now c.args.guard (map view_state xs) c.loop-state.out c.loop-state.out)
    (sym (drop_all c.loop-state.state-index c.args.states.now (omega (arith, c.loop-state-test.false)))) (λ h p q. stands_same _ _ c.loop-state.out c.loop-state.out refl))
