-- The states, and the matches after them if nothing is refused.
use Rattle.std.proofs.Common.{◌≡◌, [], ◌++◌, length, drop, map, refl, sym, ap, ap₂, ◌∙◌, arith, length-append}
use Rattle.state_diagrams.proofs.Common.{arena, view_state, view_guard, context_for, Walked, no_fault, signals_of, states_manners, others_work, states_work, at, stands_whole, pushed_for}
use Rattle.state_diagrams.proofs.WalkedDiagrams.{others_walk, walks_refusing}
use Rattle.state_diagrams.proofs.StandingParts.{others_end, stands_as}
use Rattle.state_diagrams.proofs.walking.walk_others.Goals as goal

pub returns-then-is_some-clause-walks : goal.returns-then-is_some-clause-walks
returns-then-is_some-clause-walks g c = λ h p q all a.
    let m = c.args.machine.now in
    let d = context_for g.D.Device.table m.scope.now in
    let xs = m.registers.now in
    let ss = map view_state c.args.states.now in
    let v = states_work d h xs all [] ss in
    let w = others_work d h xs all ss in
    walks_refusing all (states_manners d ss) w.units v.gives w.gives v.places w.places c.args.out.now c.walk_states.new.out (sym c.is_some.ensures ∙ c.if-is_some.true) (c.in_ok-bits.ensures.walks h p q all a)

pub matches_beside-requires : goal.matches_beside-requires
matches_beside-requires g c =
    let old = c.args.out.now in
    let mid = c.walk_states.new.out in
    let b = (c.in_ok-bits.ensures.walks (view_guard (arena old.exprs) c.args.guard) refl refl old.before (λ s p. refl)).given (no_fault mid.fault (sym c.is_some.ensures ∙ c.if-is_some.false)) in
    omega (arith, c.len-start.ensures, ap length (c.as_slice-given.ensures.value ∙ b.whole.list), length-append old.list.items b.more)

pub returns-clause-walks : goal.returns-clause-walks
returns-clause-walks g c = λ h p q all a.
    let m = c.args.machine.now in
    let d = context_for g.D.Device.table m.scope.now in
    let xs = m.registers.now in
    let ss = map view_state c.args.states.now in
    let old = c.args.out.now in
    let mid = c.walk_states.new.out in
    let clear = no_fault mid.fault (sym c.is_some.ensures ∙ c.if-is_some.false) in
    let start : c.len-start.result ≡ length old.list.items = omega (arith, c.len-start.ensures) in
    let found = c.in_ok-matches.ensures
    ∙ ap₂ (λ ids cs. pushed_for ids (signals_of xs) (drop c.len-start.result cs)) c.deref.ensures.value c.as_slice-given.ensures.value
    ∙ ap (λ n. pushed_for c.in_ok-bits.bits.items (signals_of xs) (drop n mid.list.items)) start in
    let made : Walked = record mid { list = c.append.new.self } in
    others_walk d h xs all (states_manners d ss) ss c.in_ok-bits.bits.items old mid made clear (c.in_ok-bits.ensures.walks h p q all a) (c.in_ok-bits.ensures.bits clear)
    (c.in_ok-append.ensures.items ∙ ap (λ cs. mid.list.items ++ cs) found)

pub returns-in_err-bits-clause-stands : goal.returns-in_err-bits-clause-stands
returns-in_err-bits-clause-stands g c =
    others_end g.D.Device.table c.args.machine.now c.args.guard (map view_state c.args.states.now) c.args.out.now c.walk_states.new.out c.walk_states.ensures.stands

pub returns-then-is_some-clause-stands : goal.returns-then-is_some-clause-stands
returns-then-is_some-clause-stands g c =
    others_end g.D.Device.table c.args.machine.now c.args.guard (map view_state c.args.states.now) c.args.out.now c.walk_states.new.out c.walk_states.ensures.stands

pub returns-in_err-matches-clause-stands : goal.returns-in_err-matches-clause-stands
returns-in_err-matches-clause-stands g c =
    others_end g.D.Device.table c.args.machine.now c.args.guard (map view_state c.args.states.now) c.args.out.now c.walk_states.new.out c.walk_states.ensures.stands

pub returns-in_err-append-clause-stands : goal.returns-in_err-append-clause-stands
returns-in_err-append-clause-stands g c = λ h p q.
    let old = c.args.out.now in
    let mid = c.walk_states.new.out in
    let made : Walked = record mid { list = c.append.new.self } in
    stands_as _ _ old mid made (ap (λ cs. at mid.exprs cs) c.in_err-append.ensures.items)
    (others_end g.D.Device.table c.args.machine.now c.args.guard (map view_state c.args.states.now) old mid c.walk_states.ensures.stands h p q)

pub returns-clause-stands : goal.returns-clause-stands
returns-clause-stands g c = λ h p q.
    let old = c.args.out.now in
    stands_whole old.before _ _ _ _ old _ (returns-clause-walks g c h p q old.before (λ s k. refl)) (no_fault c.walk_states.new.out.fault (sym c.is_some.ensures ∙ c.if-is_some.false))
